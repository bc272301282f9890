use Rattle.std.proofs.Common.{◌≡◌, true, false, refl, sym, ◌∙◌}
use Rattle.wx_journal.specs.declared.entry.TurnKind.TheVariants.{Job}
use Rattle.wx_machine.specs.History.{lives}
use Rattle.wx_worker.proofs.TurnLaws.{at_turn}
use Rattle.wx_action.proofs.ShownLemmas.{alive_is}
use Rattle.wx_action.proofs.JobLemmas.{step_owed, steps_settled}
use Rattle.wx_machine.specs.Due.{Says, Open}
use Rattle.wx_journal.specs.declared.entry.Word.TheVariants.{Ignored}
use Rattle.wx_worker.proofs.ArriveLemmas.{settles_open}
use Rattle.wx_worker.proofs.Serving.{continues_grows, promised_grown}
use Rattle.wx_action.proofs.job_turns.job_turn.Goals as goal

pub ignored-requires : goal.ignored-requires
ignored-requires g c =
    let at = at_turn g.start c.args.worker.now c.args.at (Job c.args.id) c.args.journal.now.past tt c.requires.1.1 in
    let gone : lives c.args.id c.args.journal.now.past ≡ false = sym (alive_is g.start c.args.worker.now c.args.journal.now.past c.args.id at.stands) ∙ sym c.lives.ensures ∙ c.if-not-lives.true in
    (Open, record { stands = at.stands; due = at.due ∙ rw gone refl })

pub take_step-requires : goal.take_step-requires
take_step-requires g c = λ κs lent.
    let at = at_turn g.start c.args.worker.now c.args.at (Job c.args.id) c.args.journal.now.past tt c.requires.1.1 in
    let alive : lives c.args.id c.args.journal.now.past ≡ true = sym (alive_is g.start c.args.worker.now c.args.journal.now.past c.args.id at.stands) ∙ sym c.lives.ensures ∙ c.if-not-lives.false in
    (lent.0, (lent.1, (step_owed g.start c.args.worker.now c.args.at c.args.id c.args.journal.now.past at.stands at.going at.due at.now alive, at.stands)))

pub returns-then-not-lives-clause-continues : goal.returns-then-not-lives-clause-continues
returns-then-not-lives-clause-continues g c = continues_grows _ _ _ _ _ _ _ _ _ _ c.ignored.ensures.grows

pub returns-then-not-lives-clause-steps : goal.returns-then-not-lives-clause-steps
returns-then-not-lives-clause-steps g c =
    let at = at_turn g.start c.args.worker.now c.args.at (Job c.args.id) c.args.journal.now.past tt c.requires.1.1 in
    let gone : lives c.args.id c.args.journal.now.past ≡ false = sym (alive_is g.start c.args.worker.now c.args.journal.now.past c.args.id at.stands) ∙ sym c.lives.ensures ∙ c.if-not-lives.true in
    steps_settled _ _ _ _ (settles_open g.start (Says Ignored) c.args.journal.now.past c.ignored.new.journal.past c.ignored.result at.going (at.due ∙ rw gone refl) c.ignored.ensures.done c.ignored.ensures.err)

pub returns-then-not-lives-clause-promised : goal.returns-then-not-lives-clause-promised
returns-then-not-lives-clause-promised g c = promised_grown (λ h. g.H.JobHooks.seen h) (λ plan. g.H.JobHooks.rule plan) (λ h. g.H.JobHooks.stands h) g.start _ _ _ _ _ (λ h. g.met.H.JobHooks.stands_other h) (returns-then-not-lives-clause-continues g c).stands (returns-then-not-lives-clause-continues g c).keeps

pub returns-clause-promised : goal.returns-clause-promised
returns-clause-promised g c = promised_grown (λ h. g.H.JobHooks.seen h) (λ plan. g.H.JobHooks.rule plan) (λ h. g.H.JobHooks.stands h) g.start _ _ _ _ _ (λ h. g.met.H.JobHooks.stands_other h) c.take_step.ensures.continues.stands c.take_step.ensures.continues.keeps
