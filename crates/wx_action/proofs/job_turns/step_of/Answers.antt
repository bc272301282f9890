use Rattle.wx_machine.proofs.SettleLaws.{served_settled}
use Rattle.std.proofs.Common.{rules, ◌*◌, arith, refl, ap, subst}
use Rattle.wx_job.specs.declared.task.JobTask.{JobTask}
use Rattle.wx_machine.specs.Table.{step_plan}
use Rattle.wx_job.specs.Stands.{TaskStands, id_of, command_of}
use Rattle.wx_machine.specs.Due.{Open}
use Rattle.wx_hooks.specs.HeldJobs.{with_task}
use Rattle.wx_worker.specs.Stands.{HasEndRoom}
use Rattle.wx_machine.proofs.FaultLaws.{counts_on}
use Rattle.wx_action.proofs.PlanLemmas.{JobDone}
use Rattle.wx_hooks.proofs.JobListLemmas.{length_with}
use Rattle.wx_worker.proofs.ArriveLemmas.{on_err}
use Rattle.wx_action.proofs.JobLemmas.{lent, parked_lent, alive_held, step_done, StepStopped, step_stopped}
use Rattle.wx_action.proofs.job_turns.step_of.Goals.{After-step}
use Rattle.wx_action.proofs.job_turns.step_of.Goals as goal

pub task_mut-task-requires : goal.task_mut-task-requires
task_mut-task-requires g c = record { held = alive_held g.start c.args.worker.now c.args.journal.now.past c.args.id c.requires.1.1.1.0 c.requires.1.1.0.alive }

pub step-requires-clause-stands : goal.step-requires-clause-stands
step-requires-clause-stands g c =
    let l = lent g.start c.args.worker.now c.args.journal.now.past c.args.id c.task_mut-task.result.now c.requires.1.1.1.0 c.task_mut-task.ensures.task in
    subst (λ (k : JobTask). TaskStands k c.args.journal.now.past) l.task_is l.stood.task_stands

pub step-requires-clause-room : goal.step-requires-clause-room
step-requires-clause-room g c = let parked = parked_lent c.args.worker.now.jobs c.args.id c.task_mut-task.result.now c.task_mut-task.ensures.task in record {
  in_journal = omega (arith, parked, c.requires.1.1.1.1.in_journal);
  in_host = omega (arith, parked, c.requires.1.1.1.1.in_host);
}

-- the room for the end of all jobs is left
room : (g : _) (c : After-step g) → HasEndRoom (record c.args.worker.now { jobs = with_task c.args.id c.args.worker.now.jobs c.step.new.self }) c.step.new.journal.spare (g.W.Outside.seen c.step.new.host).spare
room g c =
    let same = length_with c.args.id c.args.worker.now.jobs c.step.new.self in
    let parked = parked_lent c.args.worker.now.jobs c.args.id c.task_mut-task.result.now c.task_mut-task.ensures.task in
    record {
      in_journal = omega (arith, ap (λ n. 2 * n) same, parked, c.requires.1.1.1.1.in_journal, c.step.ensures.spends.in_journal);
      in_host = omega (arith, ap (λ n. 2 * n) same, parked, c.requires.1.1.1.1.in_host, c.step.ensures.spends.in_host);
    }

stopped : (g : _) (c : goal.After-from_residual g) → StepStopped g.start (record c.args.worker.now { jobs = with_task c.args.id c.args.worker.now.jobs c.step.new.self }) c.args.journal.now.past c.step.new.journal.past
    (g.W.Outside.seen c.args.host.now).shown.told (g.W.Outside.seen c.step.new.host).shown.told (g.H.JobHooks.seen c.args.hooks.now).told (g.H.JobHooks.seen c.step.new.hooks).told
stopped g c =
    let l = lent g.start c.args.worker.now c.args.journal.now.past c.args.id c.task_mut-task.result.now c.requires.1.1.1.0 c.task_mut-task.ensures.task in
    step_stopped (λ h. g.W.Outside.seen h) (λ x. (g.H.JobHooks.seen x).told) g.start c.args.worker.now _ c.args.at c.args.id c.task_mut-task.result.now c.step.new.self c.args.journal.now c.step.new.journal c.args.host.now c.step.new.host c.args.hooks.now c.step.new.hooks c.requires.1.1.1.0 c.requires.1.1.0 l refl refl
    c.step.ensures.job c.step.ensures.stands (c.step.ensures.leaves.others c.requires.1.1.1.0.own) c.in_err-step.ensures.err

pub returns-in_err-step-clause-continues : goal.returns-in_err-step-clause-continues
returns-in_err-step-clause-continues g c = let d = stopped g c in record {
  stands = d.stands;
  serves = record { follows = d.follows; turns = d.turns; counts = counts_on _ _ _ _ c.step.ensures.faults; steady = c.step.ensures.spends.steady };
  keeps = c.step.ensures.keeps;
  room = λ before. room g (goal.at.returns-in_err-step-clause-continues g c).After-step;
}

pub returns-in_err-step-clause-steps : goal.returns-in_err-step-clause-steps
returns-in_err-step-clause-steps g c = record { done = search rules; err = on_err c.from_residual.result (stopped g c).leaves }

done : (g : _) (c : goal.In_ok-step g) → JobDone g.start (record c.args.worker.now { jobs = with_task c.args.id c.args.worker.now.jobs c.step.new.self }) (step_plan (id_of c.task_mut-task.result.now) (command_of c.task_mut-task.result.now) c.args.journal.now.past) Open c.args.journal.now.past c.step.new.journal.past
    (g.W.Outside.seen c.args.host.now).shown.told (g.W.Outside.seen c.step.new.host).shown.told (g.H.JobHooks.seen c.args.hooks.now).told (g.H.JobHooks.seen c.step.new.hooks).told
done g c =
    let l = lent g.start c.args.worker.now c.args.journal.now.past c.args.id c.task_mut-task.result.now c.requires.1.1.1.0 c.task_mut-task.ensures.task in
    step_done g.start c.args.worker.now _ c.args.at c.args.id c.task_mut-task.result.now c.step.new.self c.args.journal.now.past c.step.new.journal.past _ _ _ _ _ _ c.requires.1.1.1.0 c.requires.1.1.0 l refl refl
    c.step.ensures.job c.step.ensures.stands (c.step.ensures.leaves.others c.requires.1.1.1.0.own) c.in_ok-step.ensures.leads.led

pub returns-clause-continues : goal.returns-clause-continues
returns-clause-continues g c = let d = done g c in record {
  stands = d.stands;
  serves = record { follows = d.follows; turns = d.turns; counts = counts_on _ _ _ _ c.step.ensures.faults; steady = c.step.ensures.spends.steady };
  keeps = c.step.ensures.keeps;
  room = λ before. room g (goal.at.returns-clause-continues g c).After-step;
}

pub returns-clause-steps : goal.returns-clause-steps
returns-clause-steps g c = record { done = served_settled g.start c.args.journal.now.past c.step.new.journal.past c.requires.1.1.0.going (done g c).aborts (done g c).done; err = tt }
