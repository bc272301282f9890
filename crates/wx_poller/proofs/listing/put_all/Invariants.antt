use Rattle.std.proofs.Common.{◌≡◌, ℕ, cond, None, List}
use Rattle.std.specs.Option.{option_or}
use Rattle.wx_scan.specs.Backings.{is_registered}
use Rattle.wx_poller.specs.Listings.{seen_at}
use Rattle.wx_poller.proofs.listing.put_all.Given as goal

abbrev pub invariant-loop-path : goal.invariant-loop-path
invariant-loop-path l =
    record {
      added : (p : List ℕ) → option_or (seen_at l.listing.entries p) (seen_at l.path-iterator p) ≡ option_or (seen_at l.fn.listing.entries p) (seen_at l.fn.fresh.entries p);
      back : (p : List ℕ) → cond (is_registered p l.added.items) None (seen_at l.listing.entries p) ≡ cond (is_registered p l.fn.added.items) None (seen_at l.fn.listing.entries p);
    }
