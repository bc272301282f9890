use Rattle.wx_step.specs.Asking.{AreAllowed}
use Rattle.wx_fs_tests.proofs.trial.Trial.step.Goals as goal

pub step-requires-clause-allowed : goal.step-requires-clause-allowed
step-requires-clause-allowed g c =
    let a : AreAllowed c.as_slice-under.result.now c.as_slice.result.now = c.are_allowed.ensures c.if-are_allowed.true in
    rw (c.as_slice-under.ensures.value, c.as_slice.ensures.value) at a
