use Rattle.std.proofs.Common.{◌≡◌, ◌≤◌, ◌<◌, length}
use Rattle.wx_tree.specs.Trees.{Tree}
use Rattle.wx_scan.specs.Looked.{OnlyLooks, Rose}
use Rattle.wx_scan.specs.Told.{AreNames}
use Rattle.wx_recursor.specs.declared.answers.GuardFound.TheVariants.{Nowhere}
use Rattle.wx_holding.specs.Calm.{IsStill}
use Rattle.wx_holding.proofs.StillLooks.{IsLastAt}
use Rattle.wx_holding.proofs.looking.find_last.Given as goal

abbrev pub invariant-loop-level : goal.invariant-loop-level
invariant-loop-level g l =
    record {
      looked : OnlyLooks (g.S.Looks.looked l.fn.scan) (g.S.Looks.looked l.scan);
      rest : g.S.Looks.rest l.scan ≡ g.S.Looks.rest l.fn.scan;
      place : g.S.Looks.place l.scan ≡ g.S.Looks.place l.fn.scan;
      within : l.level ≤ length l.fn.path;
      raised : l.level < length l.fn.path → Rose (g.S.Looks.looked l.fn.scan).looks (g.S.Looks.looked l.scan).looks;
      top : length l.fn.path ≡ 0 → l.found ≡ Nowhere;
      told : (t : Tree) → IsStill t (g.S.Looks.looked l.fn.scan) (g.S.Looks.looked l.scan) → AreNames l.fn.path → IsLastAt t l.level l.fn.path l.found;
    }

abbrev pub decreases-loop-level : goal.decreases-loop-level
decreases-loop-level g l = l.level
