use Rattle.std.proofs.Common.{◌≡◌}
use Rattle.wx_threads_tests.proofs.threads_tests.ask_and_type.Given as goal

abbrev pub invariant-loop : goal.invariant-loop
invariant-loop g l = l.pass.pass.queue ≡ l.initial.pass.pass.queue
