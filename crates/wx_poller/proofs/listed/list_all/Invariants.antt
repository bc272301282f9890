use Rattle.std.proofs.Common.{◌≡◌, ℕ, cond, None, List, length}
use Rattle.std.specs.Option.{option_or}
use Rattle.wx_tree.specs.Trees.{Tree}
use Rattle.wx_scan.specs.Backings.{AllSpellPaths}
use Rattle.wx_scan.specs.Looked.{OnlyLooks}
use Rattle.wx_scan.specs.Told.{IsNamed}
use Rattle.wx_poller.specs.Fitting.{IsTold, shown}
use Rattle.wx_poller.specs.Listings.{type_at}
use Rattle.wx_poller.proofs.listed.list_all.Given as goal

abbrev pub invariant-loop-rest : goal.invariant-loop-rest
invariant-loop-rest g l =
    record {
      looked : OnlyLooks (g.S.Looks.looked l.fn.scan) (g.S.Looks.looked l.scan);
      rest : g.S.Looks.rest l.scan ≡ g.S.Looks.rest l.fn.scan;
      lent : g.S.Looks.place l.scan ≡ g.S.Looks.place l.fn.scan;
      spelled : (t : Tree) → AllSpellPaths t l.fn.paths → AllSpellPaths t l.rest;
      told : (t : Tree) → IsTold t l.fn.follow (g.S.Looks.looked l.fn.scan) (g.S.Looks.looked l.scan) → IsNamed t → AllSpellPaths t l.fn.paths → (p : List ℕ)
          → option_or (shown t l.rest p) (type_at l.listing.entries p) ≡ shown t l.fn.paths p;
    }

abbrev pub decreases-loop-rest : goal.decreases-loop-rest
decreases-loop-rest g l = length l.rest
