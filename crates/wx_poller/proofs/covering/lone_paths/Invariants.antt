use Rattle.std.proofs.Common.{◌≡◌, ℕ, List}
use Rattle.std.specs.Prelude.{◌&&◌, ◌||◌, is_some}
use Rattle.wx_scan.specs.Backings.{is_registered, unregister}
use Rattle.wx_poller.specs.Covering.{is_lone}
use Rattle.wx_poller.specs.Listings.{seen_at}
use Rattle.wx_poller.proofs.covering.lone_paths.Given as goal

abbrev pub invariant-loop-path : goal.invariant-loop-path
invariant-loop-path l =
    (p : List ℕ) → (is_registered p l.paths.items || (is_lone l.fn.listing.entries l.fn.one (unregister l.fn.one l.fn.registered) p && is_some (seen_at l.path-iterator p)))
    ≡ (is_lone l.fn.listing.entries l.fn.one (unregister l.fn.one l.fn.registered) p && is_some (seen_at l.fn.listing.entries p))
