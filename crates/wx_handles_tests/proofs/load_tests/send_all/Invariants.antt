use Rattle.std.proofs.Common.{◌≡◌}
use Rattle.wx_handles_tests.proofs.load_tests.send_all.Given as goal

abbrev pub invariant-loop-number : goal.invariant-loop-number
invariant-loop-number g l = l.pass.pass.queue ≡ l.initial.pass.pass.queue
