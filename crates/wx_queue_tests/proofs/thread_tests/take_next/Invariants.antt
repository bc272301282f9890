use Rattle.std.proofs.Common.{◌≡◌}
use Rattle.wx_queue_tests.proofs.thread_tests.take_next.Given as goal

abbrev pub invariant-loop : goal.invariant-loop
invariant-loop g l = l.queue.queue ≡ l.initial.queue.queue
