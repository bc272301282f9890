use Rattle.std.proofs.Common.{◌≡◌, ℕ, cond, None, List, length}
use Rattle.wx_scan.specs.Backings.{is_registered}
use Rattle.wx_poller.specs.Listings.{seen_at}
use Rattle.wx_poller.proofs.listing.take_away.Given as goal

abbrev pub invariant-loop-rest : goal.invariant-loop-rest
invariant-loop-rest l =
    (p : List ℕ) → cond (is_registered p l.rest) None (seen_at l.listing.entries p) ≡ cond (is_registered p l.fn.paths) None (seen_at l.fn.listing.entries p)

abbrev pub decreases-loop-rest : goal.decreases-loop-rest
decreases-loop-rest l = length l.rest
