use Rattle.std.proofs.Common.{◌*◌, refl, ap, sym, ◌∙◌}
use Rattle.wx_job.specs.Stands.{id_of, command_of, flag_of, closed_of}
use Rattle.wx_hooks.proofs.JobListLemmas.{length_with}
use Rattle.wx_action.proofs.JobLemmas.{lent, none_ended, one_ends, can_end, end_kept}
use Rattle.wx_action.proofs.job_turns.keep_end.Goals as goal

pub task_mut-task-requires : goal.task_mut-task-requires
task_mut-task-requires g c = record { held = (one_ends g.start c.args.worker.now c.args.at c.args.child c.in-Some.id c.args.journal.now.past c.requires (sym c.parent.ensures ∙ c.in-Some.is)).there }

pub keep_end-requires : goal.keep_end-requires
keep_end-requires g c =
    let one = one_ends g.start c.args.worker.now c.args.at c.args.child c.in-Some.id c.args.journal.now.past c.requires (sym c.parent.ensures ∙ c.in-Some.is) in
    let l = lent g.start c.args.worker.now c.requires.before c.in-Some.id c.task_mut-task.result.now c.requires.stands c.task_mut-task.ensures.task in
    let can = can_end g.start c.args.worker.now c.args.at c.args.child c.in-Some.id c.task_mut-task.result.now c.args.journal.now.past c.requires one l in
    record { stands = can.ending; runs = can.runs }

pub returns : goal.returns
returns g c =
    let one = one_ends g.start c.args.worker.now c.args.at c.args.child c.in-Some.id c.args.journal.now.past c.requires (sym c.parent.ensures ∙ c.in-Some.is) in
    let l = lent g.start c.args.worker.now c.requires.before c.in-Some.id c.task_mut-task.result.now c.requires.stands c.task_mut-task.ensures.task in
    let k = end_kept g.start c.args.worker.now _ c.args.at c.args.child c.in-Some.id c.task_mut-task.result.now c.keep_end.new.self c.args.journal.now.past c.requires one l refl refl
    (record { same_id = ap id_of c.keep_end.ensures.fields; same_command = ap command_of c.keep_end.ensures.fields; same_flag = ap flag_of c.keep_end.ensures.fields; same_closed = ap closed_of c.keep_end.ensures.fields }) c.keep_end.ensures.stands in
    record { stands = k.stands; some = k.step; none = tt; room = ap (λ n. 2 * n) (length_with _ _ _) }

pub returns-in_default : goal.returns-in_default
returns-in_default g c =
    let n = none_ended g.start c.args.worker.now c.args.at c.args.child c.args.journal.now.past c.requires (sym c.parent.ensures ∙ c.in_default.is) in
    record { stands = n.stands; some = tt; none = n.due; room = refl }

pub parent-requires : goal.parent-requires
parent-requires g c = (c.args.at, c.requires)
