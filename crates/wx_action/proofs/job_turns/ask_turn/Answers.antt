use Rattle.std.proofs.Common.{◌≡◌, ◌*◌, true, false, arith, refl, ap, sym, subst, ◌∙◌}
use Rattle.wx_journal.specs.declared.entry.TurnKind.TheVariants.{Ask}
use Rattle.wx_job.specs.declared.task.JobTask.{JobTask}
use Rattle.wx_machine.specs.History.{lives}
use Rattle.wx_job.specs.Stands.{TaskStands}
use Rattle.wx_worker.proofs.TurnLaws.{at_turn}
use Rattle.wx_hooks.specs.HeldJobs.{with_task}
use Rattle.wx_worker.proofs.ServesLaws.{adds}
use Rattle.wx_machine.specs.Due.{Says, Open}
use Rattle.wx_journal.specs.declared.entry.Word.TheVariants.{Ignored}
use Rattle.wx_worker.proofs.ArriveLemmas.{grows_none, settles_open}
use Rattle.wx_action.proofs.ShownLemmas.{alive_is}
use Rattle.wx_hooks.proofs.JobListLemmas.{length_with}
use Rattle.wx_action.proofs.JobLemmas.{AskDone, ask_done, lent, same_lent}
use Rattle.wx_action.proofs.job_turns.ask_turn.Goals as goal

pub ignored-requires : goal.ignored-requires
ignored-requires g c =
    let at = at_turn g.start c.args.worker.now c.requires.0 (Ask c.args.id c.args.ask) c.args.journal.now.past tt c.requires.1 in
    let gone : lives c.args.id c.args.journal.now.past ≡ false = sym (alive_is g.start c.args.worker.now c.args.journal.now.past c.args.id at.stands) ∙ sym c.lives.ensures ∙ c.if-not-lives.true in
    (Open, record { stands = at.stands; due = at.due ∙ rw gone refl })

pub returns-then-not-lives-clause-settles : goal.returns-then-not-lives-clause-settles
returns-then-not-lives-clause-settles g c =
    let at = at_turn g.start c.args.worker.now c.requires.0 (Ask c.args.id c.args.ask) c.args.journal.now.past tt c.requires.1 in
    let gone : lives c.args.id c.args.journal.now.past ≡ false = sym (alive_is g.start c.args.worker.now c.args.journal.now.past c.args.id at.stands) ∙ sym c.lives.ensures ∙ c.if-not-lives.true in
    settles_open g.start (Says Ignored) c.args.journal.now.past c.ignored.new.journal.past c.ignored.result at.going (at.due ∙ rw gone refl) c.ignored.ensures.done c.ignored.ensures.err

pub send-requires : goal.send-requires
send-requires g c =
    let at = at_turn g.start c.args.worker.now c.requires.0 (Ask c.args.id c.args.ask) c.args.journal.now.past tt c.requires.1 in
    let l = lent g.start c.args.worker.now c.args.journal.now.past c.args.id c.task_mut-task.result.now at.stands c.task_mut-task.ensures.task in
    rw c.in_ok-reserve.ensures.same (record { stands = subst (λ (k : JobTask). TaskStands k c.args.journal.now.past) l.task_is l.stood.task_stands })

pub returns-in_err-reserve-clause-grows : goal.returns-in_err-reserve-clause-grows
returns-in_err-reserve-clause-grows g c =
    grows_none _ _ _ _ _ (rw c.in_err-reserve.ensures.same (at_turn g.start c.args.worker.now c.requires.0 (Ask c.args.id c.args.ask) c.args.journal.now.past tt c.requires.1).stands) c.in_err-reserve.ensures.same refl (λ room. omega (arith, room, c.in_err-reserve.ensures.kept))

pub returns-in_err-ticket-clause-grows : goal.returns-in_err-ticket-clause-grows
returns-in_err-ticket-clause-grows g c =
    let at = at_turn g.start c.args.worker.now c.requires.0 (Ask c.args.id c.args.ask) c.args.journal.now.past tt c.requires.1 in
    let l = lent g.start c.args.worker.now c.args.journal.now.past c.args.id c.task_mut-task.result.now at.stands c.task_mut-task.ensures.task in
    let same = c.in_err-ticket.ensures.refused.1 ∙ c.in_ok-reserve.ensures.same in
    grows_none _ _ _ _ _ (same_lent g.start c.args.worker.now _ c.args.id c.task_mut-task.result.now c.send.new.self c.args.journal.now.past c.send.new.journal.past at.stands same l refl refl c.send.ensures.job c.send.ensures.stands) same (ap (λ n. 2 * n) (length_with _ _ _))
    (λ room. omega (arith, ap (λ n. 2 * n) (length_with c.args.id c.args.worker.now.jobs c.send.new.self), c.in_ok-reserve.ensures.room, c.send.ensures.journal_room))

done : (g : _) (c : goal.After-drop-2 g) → AskDone g.start (record c.args.worker.now { jobs = with_task c.args.id c.args.worker.now.jobs c.send.new.self }) c.args.journal.now.past c.send.new.journal.past
done g c =
    let at = at_turn g.start c.args.worker.now c.requires.0 (Ask c.args.id c.args.ask) c.args.journal.now.past tt c.requires.1 in
    let l = lent g.start c.args.worker.now c.args.journal.now.past c.args.id c.task_mut-task.result.now at.stands c.task_mut-task.ensures.task in
    let alive : lives c.args.id c.args.journal.now.past ≡ true = sym (alive_is g.start c.args.worker.now c.args.journal.now.past c.args.id at.stands) ∙ sym c.lives.ensures ∙ c.if-not-lives.false in
    ask_done g.start c.args.worker.now _ c.args.id c.task_mut-task.result.now c.send.new.self c.args.ask c.args.journal.now.past c.send.new.journal.past at.stands at.going at.due alive l refl refl c.send.ensures.job c.send.ensures.stands
    (rw c.in_ok-reserve.ensures.same at (c.send.ensures.leaves.others (rw c.in_ok-reserve.ensures.same at.stands.own)))
    (rw c.in_ok-reserve.ensures.same at c.in_ok-ticket.ensures.leads)

pub returns-clause-grows : goal.returns-clause-grows
returns-clause-grows g c = let d = done g c in record {
  stands = d.stands;
  adds = adds _ _ _ d.follows d.quiet d.turns;
  end_kept = ap (λ n. 2 * n) (length_with _ _ _);
  room = λ room. omega (arith, ap (λ n. 2 * n) (length_with c.args.id c.args.worker.now.jobs c.send.new.self), c.in_ok-reserve.ensures.room, c.send.ensures.journal_room);
}

pub returns-clause-settles : goal.returns-clause-settles
returns-clause-settles g c = record { done = (done g c).done; err = tt }
