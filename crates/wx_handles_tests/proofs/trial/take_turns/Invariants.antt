use Rattle.std.proofs.Common.{◌≡◌}
use Rattle.wx_handles_tests.proofs.trial.take_turns.Given as goal

abbrev pub invariant-loop : goal.invariant-loop
invariant-loop g l = (g.W.Outside.seen l.world).plan ≡ (g.W.Outside.seen l.initial.world).plan
