use Rattle.std.proofs.Common.{◌≡◌}
use Rattle.wx_handles_tests.proofs.load_tests.send.Given as goal

abbrev pub invariant-loop : goal.invariant-loop
invariant-loop g l = l.pass.pass.queue ≡ l.initial.pass.pass.queue
