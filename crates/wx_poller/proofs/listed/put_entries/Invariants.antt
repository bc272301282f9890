use Rattle.std.proofs.Common.{◌≡◌, ℕ, cond, None, List, length}
use Rattle.std.specs.Option.{option_or}
use Rattle.wx_tree.specs.Places.{place}
use Rattle.wx_tree.specs.Trees.{Tree, node_at}
use Rattle.wx_scan.specs.Backings.{AllSpellPaths, is_registered}
use Rattle.wx_scan.specs.Looked.{OnlyLooks}
use Rattle.wx_poller.specs.Fitting.{IsTold, type_of}
use Rattle.wx_poller.specs.Listings.{type_at}
use Rattle.wx_poller.proofs.listed.put_entries.Given as goal

abbrev pub invariant-loop-rest : goal.invariant-loop-rest
invariant-loop-rest g l =
    record {
      looked : OnlyLooks (g.S.Looks.looked l.fn.scan) (g.S.Looks.looked l.scan);
      rest : g.S.Looks.rest l.scan ≡ g.S.Looks.rest l.fn.scan;
      lent : g.S.Looks.place l.scan ≡ g.S.Looks.place l.fn.scan;
      spelled : (t : Tree) → AllSpellPaths t l.fn.paths → AllSpellPaths t l.rest;
      told : (t : Tree) → IsTold t l.fn.follow (g.S.Looks.looked l.fn.scan) (g.S.Looks.looked l.scan) → AllSpellPaths t l.fn.paths → (p : List ℕ)
          → option_or (cond (is_registered p l.rest) (type_of (node_at t (place p))) None) (type_at l.listing.entries p)
          ≡ option_or (cond (is_registered p l.fn.paths) (type_of (node_at t (place p))) None) (type_at l.fn.listing.entries p);
    }

abbrev pub decreases-loop-rest : goal.decreases-loop-rest
decreases-loop-rest g l = length l.rest
