use Rattle.std.proofs.Common.{◌≡◌}
use Rattle.wx_queue_tests.proofs.thread_tests.send_all.Given as goal

abbrev pub invariant-loop-number : goal.invariant-loop-number
invariant-loop-number g l = l.pass.queue ≡ l.initial.pass.queue
