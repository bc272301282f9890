use Rattle.std.proofs.Common.{◌≡◌, length}
use Rattle.wx_scan.specs.Backings.{unregister}
use Rattle.wx_poller.specs.Covering.{is_covered}
use Rattle.wx_poller.proofs.covering.is_covered.Given as goal

abbrev pub invariant-loop-rest : goal.invariant-loop-rest
invariant-loop-rest l =
    is_covered l.fn.listing.entries (unregister l.fn.excepted l.rest) l.fn.path ≡ is_covered l.fn.listing.entries (unregister l.fn.excepted l.fn.registered) l.fn.path

abbrev pub decreases-loop-rest : goal.decreases-loop-rest
decreases-loop-rest l = length l.rest
