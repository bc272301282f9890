use Rattle.std.proofs.Common.{◌≡◌, length}
use Rattle.wx_scan.specs.Backings.{is_registered}
use Rattle.wx_poller.proofs.covering.is_registered.Given as goal

abbrev pub invariant-loop-rest : goal.invariant-loop-rest
invariant-loop-rest l = is_registered l.fn.path l.rest ≡ is_registered l.fn.path l.fn.registered

abbrev pub decreases-loop-rest : goal.decreases-loop-rest
decreases-loop-rest l = length l.rest
