use Rattle.std.proofs.Common.{◌≡◌}
use Rattle.wx_queue_tests.proofs.thread_tests.send_when_there_is_room.Given as goal

abbrev pub invariant-loop : goal.invariant-loop
invariant-loop g l = l.pass.queue ≡ l.initial.pass.queue
