use Rattle.std.proofs.Common.{◌≡◌, ◌*◌, true, false, List, ◌∷◌, arith, refl, ap, sym, subst, ◌∙◌}
use Rattle.wx_job.specs.declared.task.JobTask.{JobTask}
use Rattle.wx_machine.specs.History.{lives}
use Rattle.wx_job.specs.Stands.{TaskStands}
use Rattle.wx_journal.specs.Acts.{JournalAct as Act}
use Rattle.wx_journal.specs.declared.entry.Act.TheVariants.{Ask}
use Rattle.wx_hooks.specs.HeldJobs.{with_task}
use Rattle.wx_action.specs.Perform.{OwesPlan}
use Rattle.wx_worker.proofs.ServesLaws.{adds}
use Rattle.wx_worker.proofs.ArriveLemmas.{grows_none}
use Rattle.wx_action.proofs.ShownLemmas.{alive_is}
use Rattle.wx_hooks.proofs.JobListLemmas.{length_with}
use Rattle.wx_action.proofs.JobLemmas.{lent, same_lent}
use Rattle.wx_action.proofs.PerformLemmas.{OneAsked, ignored_one, asked_one}
use Rattle.wx_action.proofs.acts_done.ask_or_ignore.Goals as goal

none : (g : _) (c : goal.After-push g) (acts : List Act) → OwesPlan g.start c.args.journal.now.past (Ask c.args.id c.args.ask ∷ acts) → OneAsked g.start c.args.worker.now c.args.id c.args.ask c.args.journal.now.past c.push.new.self.past
none g c acts owes =
    let gone : lives c.args.id c.args.journal.now.past ≡ false = sym (alive_is g.start c.args.worker.now c.args.journal.now.past c.args.id c.requires.1) ∙ sym c.lives.ensures ∙ c.if-not-lives.true in
    ignored_one g.start c.args.worker.now c.args.id c.args.ask acts c.args.journal.now.past c.push.new.self.past owes c.requires.1 gone (rw c.in-Ok.ensures.same at c.push.ensures.past)

pub returns-then-not-lives-clause-grows : goal.returns-then-not-lives-clause-grows
returns-then-not-lives-clause-grows g c = let o = c.requires.0 in let d = none g c o.0 o.1 in record { stands = d.stands; adds = adds _ _ _ d.follows d.quiet d.turns; end_kept = refl; room = λ room. omega (arith, c.in-Ok.ensures.room, c.push.ensures.room) }

pub returns-then-not-lives-clause-does : goal.returns-then-not-lives-clause-does
returns-then-not-lives-clause-does g c = record { done = (none g c c.requires.0.0 c.requires.0.1).asked; err = tt }

pub send-requires : goal.send-requires
send-requires g c =
    let l = lent g.start c.args.worker.now c.args.journal.now.past c.args.id c.task_mut-task.result.now c.requires.1 c.task_mut-task.ensures.task in
    rw c.in-Ok.ensures.same (record { stands = subst (λ (k : JobTask). TaskStands k c.args.journal.now.past) l.task_is l.stood.task_stands })

pub returns-in_err-ticket-clause-grows : goal.returns-in_err-ticket-clause-grows
returns-in_err-ticket-clause-grows g c =
    let l = lent g.start c.args.worker.now c.args.journal.now.past c.args.id c.task_mut-task.result.now c.requires.1 c.task_mut-task.ensures.task in
    let same = c.in_err-ticket.ensures.refused.1 ∙ c.in-Ok.ensures.same in
    grows_none _ _ _ _ _ (same_lent g.start c.args.worker.now _ c.args.id c.task_mut-task.result.now c.send.new.self c.args.journal.now.past c.send.new.journal.past c.requires.1 same l refl refl c.send.ensures.job c.send.ensures.stands) same (ap (λ n. 2 * n) (length_with _ _ _))
    (λ room. omega (arith, ap (λ n. 2 * n) (length_with c.args.id c.args.worker.now.jobs c.send.new.self), c.in-Ok.ensures.room, c.send.ensures.journal_room))

done : (g : _) (c : goal.After-drop-2 g) (acts : List Act) → OwesPlan g.start c.args.journal.now.past (Ask c.args.id c.args.ask ∷ acts) → OneAsked g.start (record c.args.worker.now { jobs = with_task c.args.id c.args.worker.now.jobs c.send.new.self }) c.args.id c.args.ask c.args.journal.now.past c.send.new.journal.past
done g c acts owes =
    let l = lent g.start c.args.worker.now c.args.journal.now.past c.args.id c.task_mut-task.result.now c.requires.1 c.task_mut-task.ensures.task in
    let alive : lives c.args.id c.args.journal.now.past ≡ true = sym (alive_is g.start c.args.worker.now c.args.journal.now.past c.args.id c.requires.1) ∙ sym c.lives.ensures ∙ c.if-not-lives.false in
    asked_one g.start c.args.worker.now _ c.args.id c.task_mut-task.result.now c.send.new.self c.args.ask acts c.args.journal.now.past c.send.new.journal.past owes c.requires.1 alive l refl refl c.send.ensures.job c.send.ensures.stands
    (rw c.in-Ok.ensures.same at (c.send.ensures.leaves.others (rw c.in-Ok.ensures.same c.requires.1.own)))
    (rw c.in-Ok.ensures.same at c.in_ok-ticket.ensures.leads)

pub returns-clause-grows : goal.returns-clause-grows
returns-clause-grows g c = let o = c.requires.0 in let d = done g c o.0 o.1 in record {
  stands = d.stands;
  adds = adds _ _ _ d.follows d.quiet d.turns;
  end_kept = ap (λ n. 2 * n) (length_with _ _ _);
  room = λ room. omega (arith, ap (λ n. 2 * n) (length_with c.args.id c.args.worker.now.jobs c.send.new.self), c.in-Ok.ensures.room, c.send.ensures.journal_room);
}

pub returns-clause-does : goal.returns-clause-does
returns-clause-does g c = record { done = (done g c c.requires.0.0 c.requires.0.1).asked; err = tt }
