use Rattle.std.proofs.Common.{◌≡◌, length, ◌++◌}
use Rattle.wx_recursor.specs.Calls.{kept_guard_watches, queued_guards}
use Rattle.wx_recursor_lists.proofs.queued.queue_guards.Given as goal

abbrev pub invariant-loop-rest : goal.invariant-loop-rest
invariant-loop-rest l = l.queue.items ++ queued_guards (kept_guard_watches l.fn.roots l.rest) ≡ l.fn.queue.items ++ queued_guards (kept_guard_watches l.fn.roots l.fn.guards)

abbrev pub decreases-loop-rest : goal.decreases-loop-rest
decreases-loop-rest l = length l.rest
