use Rattle.std.proofs.Common.{◌≡◌, length}
use Rattle.wx_recursor.specs.Holding.{has_retry}
use Rattle.wx_recursor_lists.proofs.queued.has_retry.Given as goal

abbrev pub invariant-loop-rest : goal.invariant-loop-rest
invariant-loop-rest l = has_retry l.fn.root l.fn.path l.rest ≡ has_retry l.fn.root l.fn.path l.fn.retries

abbrev pub decreases-loop-rest : goal.decreases-loop-rest
decreases-loop-rest l = length l.rest
