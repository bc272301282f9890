use Rattle.std.proofs.Common.{◌≡◌, length, ◌++◌}
use Rattle.wx_recursor.specs.Calls.{queued_retries}
use Rattle.wx_recursor_lists.proofs.queued.queue_retries.Given as goal

abbrev pub invariant-loop-rest : goal.invariant-loop-rest
invariant-loop-rest l = l.queue.items ++ queued_retries l.fn.roots l.rest ≡ l.fn.queue.items ++ queued_retries l.fn.roots l.fn.retries

abbrev pub decreases-loop-rest : goal.decreases-loop-rest
decreases-loop-rest l = length l.rest
