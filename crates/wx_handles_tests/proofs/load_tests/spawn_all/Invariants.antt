use Rattle.std.proofs.Common.{◌≡◌}
use Rattle.wx_handles_tests.proofs.load_tests.spawn_all.Given as goal

abbrev pub invariant-loop-child : goal.invariant-loop-child
invariant-loop-child g l = (g.W.Outside.seen l.world).plan ≡ (g.W.Outside.seen l.initial.world).plan
