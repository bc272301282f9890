use Rattle.std.proofs.Common.{◌≡◌}
use Rattle.wx_engine_tests.proofs.own_hooks_tests.wish_all.Given as goal

abbrev pub invariant-loop-says : goal.invariant-loop-says
invariant-loop-says l = l.hook.error ≡ l.fn.hook.error
