use Rattle.std.proofs.Common.{◌≡◌, ◌≤◌, length, drop, true}
use Rattle.wx_tree.specs.Trees.{Tree, is_chain_above}
use Rattle.wx_scan.specs.Looked.{OnlyLooks}
use Rattle.wx_scan.specs.Told.{AreNames}
use Rattle.wx_holding.specs.Calm.{IsStill}
use Rattle.wx_holding.proofs.looking.find_break.Given as goal

abbrev pub invariant-loop-level : goal.invariant-loop-level
invariant-loop-level g l =
    record {
      looked : OnlyLooks (g.S.Looks.looked l.fn.scan) (g.S.Looks.looked l.scan);
      rest : g.S.Looks.rest l.scan ≡ g.S.Looks.rest l.fn.scan;
      place : g.S.Looks.place l.scan ≡ g.S.Looks.place l.fn.scan;
      within : l.level ≤ length l.fn.path;
      told : (t : Tree) → IsStill t (g.S.Looks.looked l.fn.scan) (g.S.Looks.looked l.scan) → AreNames l.fn.path → is_chain_above t (drop l.level l.fn.path) ≡ true;
    }

abbrev pub decreases-loop-level : goal.decreases-loop-level
decreases-loop-level g l = l.level
