use Rattle.wx_action.proofs.JobLemmas.{steps_settled}
use Rattle.wx_journal.specs.declared.entry.TurnKind.TheVariants.{Ended}
use Rattle.wx_machine.specs.Due.{Says, Open}
use Rattle.wx_journal.specs.declared.entry.Word.TheVariants.{Ignored}
use Rattle.wx_worker.proofs.TurnLaws.{turned}
use Rattle.wx_worker.proofs.ArriveLemmas.{settles_open}
use Rattle.wx_worker.proofs.Serving.{continues_grows, continues_from, promised_grown}
use Rattle.wx_action.proofs.job_turns.ended_turn.Goals as goal

pub returns-in_default-clause-continues : goal.returns-in_default-clause-continues
returns-in_default-clause-continues g c = continues_from _ _ _ _ _ _ _ _ _ _ _ _ _ c.keep_end.ensures.room (continues_grows _ _ _ _ _ _ _ _ _ _ c.ignored.ensures.grows)

pub returns-clause-continues : goal.returns-clause-continues
returns-clause-continues g c = continues_from _ _ _ _ _ _ _ _ _ _ _ _ _ c.keep_end.ensures.room c.take_step.ensures.continues

pub returns-in_default-clause-steps : goal.returns-in_default-clause-steps
returns-in_default-clause-steps g c =
    let at = turned g.start c.args.worker.now c.args.at (Ended c.args.child) c.args.journal.now.past c.requires.1.1 in
    steps_settled _ _ _ _ (settles_open g.start (Says Ignored) c.args.journal.now.past c.ignored.new.journal.past c.ignored.result at.going c.in_default.ensures.none c.ignored.ensures.done c.ignored.ensures.err)

pub ignored-requires : goal.ignored-requires
ignored-requires g c = (Open, record { stands = c.keep_end.ensures.stands; due = c.in_default.ensures.none })

pub returns-in_default-clause-promised : goal.returns-in_default-clause-promised
returns-in_default-clause-promised g c = promised_grown (λ h. g.H.JobHooks.seen h) (λ plan. g.H.JobHooks.rule plan) (λ h. g.H.JobHooks.stands h) g.start _ _ _ _ _ (λ h. g.met.H.JobHooks.stands_other h) (returns-in_default-clause-continues g c).stands (returns-in_default-clause-continues g c).keeps

pub returns-clause-promised : goal.returns-clause-promised
returns-clause-promised g c = promised_grown (λ h. g.H.JobHooks.seen h) (λ plan. g.H.JobHooks.rule plan) (λ h. g.H.JobHooks.stands h) g.start _ _ _ _ _ (λ h. g.met.H.JobHooks.stands_other h) c.take_step.ensures.continues.stands c.take_step.ensures.continues.keeps
