use Rattle.std.proofs.Common.{refl, arith}
use Rattle.wx_machine.proofs.SteadyLemmas.{only_none}
use Rattle.wx_action.proofs.JobLemmas.{steps_after}
use Rattle.wx_worker.proofs.Serving.{hooks_none, continues_room, continues_after}
use Rattle.wx_action.proofs.job_turns.take_step.Goals as goal

pub step_of-stepped-requires : goal.step_of-stepped-requires
step_of-stepped-requires g c = λ κs lives. (
  lives.0,
  (
    lives.1,
    (
      rw c.reserve_calls.ensures.same c.requires.1.1.0,
      (
        rw c.reserve_calls.ensures.same c.requires.1.1.1,
        record { in_journal = omega (arith, c.in_ok-room.ensures, c.in_ok-reserve_calls.ensures.room); in_host = omega (arith, c.in_ok-room.ensures, c.in_ok-reserve_calls.ensures.host_room); in_hooks = c.in_ok-reserve_calls.ensures.hooks_room },
      ),
    ),
  ),
)

pub returns-in_err-room-clause-continues : goal.returns-in_err-room-clause-continues
returns-in_err-room-clause-continues g c = continues_room _ _ _ _ _ _ _ _ _ _ _ c.requires.1.1.1 refl (omega arith) only_none (hooks_none _ _ _)

pub returns-in_err-reserve_calls-clause-continues : goal.returns-in_err-reserve_calls-clause-continues
returns-in_err-reserve_calls-clause-continues g c = continues_room _ _ _ _ _ _ _ _ _ _ _ c.requires.1.1.1 c.reserve_calls.ensures.same c.reserve_calls.ensures.kept c.reserve_calls.ensures.host c.reserve_calls.ensures.hooks

pub returns-clause-continues : goal.returns-clause-continues
returns-clause-continues g c = rw c.note_living.ensures (continues_after _ _ _ _ _ _ _ _ _ _ _ _ _ _ _ c.reserve_calls.ensures.same c.reserve_calls.ensures.kept c.reserve_calls.ensures.host c.reserve_calls.ensures.hooks c.step_of-stepped.ensures.continues)

pub returns-clause-steps : goal.returns-clause-steps
returns-clause-steps g c = steps_after _ _ _ _ _ c.reserve_calls.ensures.same c.step_of-stepped.ensures.steps
