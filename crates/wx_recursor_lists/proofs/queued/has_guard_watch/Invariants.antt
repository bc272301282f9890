use Rattle.std.proofs.Common.{◌≡◌, length}
use Rattle.wx_recursor.specs.Steps.{has_guard_watch}
use Rattle.wx_recursor_lists.proofs.queued.has_guard_watch.Given as goal

abbrev pub invariant-loop-rest : goal.invariant-loop-rest
invariant-loop-rest l = has_guard_watch l.fn.root l.rest ≡ has_guard_watch l.fn.root l.fn.guards

abbrev pub decreases-loop-rest : goal.decreases-loop-rest
decreases-loop-rest l = length l.rest
