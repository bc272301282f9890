use Rattle.wx_file_turns.proofs.Settled.{beside_none, beside_one, settling_beside, settling_by, settling_well, turn_shows}
use Rattle.std.proofs.Common.{◌≡◌, true, false, refl, sym, ◌∙◌}
use Rattle.wx_machine.specs.Leads.{Here}
use Rattle.wx_worker.proofs.Serving.{promised_grown}
use Rattle.wx_file_turns.proofs.Onward.{attends_alone, attends_grown}
use Rattle.wx_file_turns.proofs.TurnLemmas.{applies_owed, ignores_owed, ignored_due, ignored_open, maker_counts, steps_owed}
use Rattle.wx_file_turns.proofs.turning.file_turn.Goals as goal

-- ---- settings are applied

pub apply-requires : goal.apply-requires
apply-requires g c = λ κs lives.
    let h = applies_owed g.start c.args.worker.now c.args.files.now c.requires.1.1.1.0.0 c.args.journal.now.past c.requires.1.1.1.0.1 c.requires.1.1.1.1 (sym c.is_applied.ensures ∙ c.if-not-is_applied.true) in
    (lives.0, (lives.1, (record { stands = h.0; due = h.1 }, (h.2, c.requires.1.1.1.1))))

pub returns-then-not-is_applied-clause-attends : goal.returns-then-not-is_applied-clause-attends
returns-then-not-is_applied-clause-attends g c = attends_alone _ _ _ g.start _ _ _ _ _ _ c.apply.ensures.alone

pub returns-then-not-is_applied-clause-promised : goal.returns-then-not-is_applied-clause-promised
returns-then-not-is_applied-clause-promised g c = let d = returns-then-not-is_applied-clause-attends g c in promised_grown (λ h. g.H.JobHooks.seen h) (λ plan. g.H.JobHooks.rule plan) (λ h. g.H.JobHooks.stands h) g.start _ _ _ _ _ (λ h. g.met.H.JobHooks.stands_other h) d.stands d.keeps

pub returns-then-not-is_applied-clause-maker : goal.returns-then-not-is_applied-clause-maker
returns-then-not-is_applied-clause-maker g c = let d = returns-then-not-is_applied-clause-attends g c in maker_counts g.start c.args.worker.now c.requires.1.1.1.0.0 c.args.journal.now.past _ _ _ _ _ _ _ c.requires.1.1.1.0.1 (d.serves.follows _ _ _ Here) d.serves.unmade

-- ---- a backend stands

pub attend-requires : goal.attend-requires
attend-requires g c = λ κs lives.
    let h = steps_owed g.start c.args.worker.now c.args.files.now _ c.requires.1.1.1.0.0 c.args.journal.now.past c.requires.1.1.1.0.1 c.requires.1.1.1.1 (sym c.is_applied.ensures ∙ c.if-not-is_applied.false) c.in-Some.is in
    (lives.0, (lives.1.0, (lives.1.1, (record { stands = h.0; due = h.1 }, (h.3, (c.requires.1.1.1.1.intake_kept, (h.2, c.requires.1.1.1.1.folder_kept)))))))

pub returns-in-Some-clause-promised : goal.returns-in-Some-clause-promised
returns-in-Some-clause-promised g c = let d = c.attend.ensures.attends in promised_grown (λ h. g.H.JobHooks.seen h) (λ plan. g.H.JobHooks.rule plan) (λ h. g.H.JobHooks.stands h) g.start _ _ _ _ _ (λ h. g.met.H.JobHooks.stands_other h) d.stands d.keeps

pub returns-in-Some-clause-maker : goal.returns-in-Some-clause-maker
returns-in-Some-clause-maker g c = let d = c.attend.ensures.attends in maker_counts g.start c.args.worker.now c.requires.1.1.1.0.0 c.args.journal.now.past _ _ _ _ _ _ _ c.requires.1.1.1.0.1 (d.serves.follows _ _ _ Here) d.serves.unmade

-- ---- none does

pub say-requires : goal.say-requires
say-requires g c =
    let h = ignores_owed g.start c.args.worker.now c.args.files.now c.requires.1.1.1.0.0 c.args.journal.now.past c.requires.1.1.1.0.1 c.requires.1.1.1.1 (sym c.is_applied.ensures ∙ c.if-not-is_applied.false) c.in-None.is in
    (h.0, (ignored_due g.start c.args.journal.now.past h.1, refl))

pub returns-in_err-say-in-None-clause-attends : goal.returns-in_err-say-in-None-clause-attends
returns-in_err-say-in-None-clause-attends g c = attends_grown _ _ _ g.start _ _ _ _ _ c.say.ensures.grows

pub returns-in_err-say-in-None-clause-promised : goal.returns-in_err-say-in-None-clause-promised
returns-in_err-say-in-None-clause-promised g c = let d = returns-in_err-say-in-None-clause-attends g c in promised_grown (λ h. g.H.JobHooks.seen h) (λ plan. g.H.JobHooks.rule plan) (λ h. g.H.JobHooks.stands h) g.start _ _ _ _ _ (λ h. g.met.H.JobHooks.stands_other h) d.stands d.keeps

pub returns-in_ok-say-in-None-clause-attends : goal.returns-in_ok-say-in-None-clause-attends
returns-in_ok-say-in-None-clause-attends g c = attends_grown _ _ _ g.start _ _ _ _ _ c.say.ensures.grows

pub returns-in_ok-say-in-None-clause-promised : goal.returns-in_ok-say-in-None-clause-promised
returns-in_ok-say-in-None-clause-promised g c = let d = returns-in_ok-say-in-None-clause-attends g c in promised_grown (λ h. g.H.JobHooks.seen h) (λ plan. g.H.JobHooks.rule plan) (λ h. g.H.JobHooks.stands h) g.start _ _ _ _ _ (λ h. g.met.H.JobHooks.stands_other h) d.stands d.keeps

pub returns-in_ok-say-in-None-clause-served : goal.returns-in_ok-say-in-None-clause-served
returns-in_ok-say-in-None-clause-served g c =
    let h = ignores_owed g.start c.args.worker.now c.args.files.now c.requires.1.1.1.0.0 c.args.journal.now.past c.requires.1.1.1.0.1 c.requires.1.1.1.1 (sym c.is_applied.ensures ∙ c.if-not-is_applied.false) c.in-None.is in
    ignored_open g.start c.args.journal.now.past _ h.1 h.2 c.in_ok-say-in-None.ensures.said

-- ---- where nothing fails

pub returns-in-Some-clause-settles : goal.returns-in-Some-clause-settles
returns-in-Some-clause-settles g c = settling_by _ _ g.start c.attend.result c.args.files.now _ _ c.attend.new.watching c.attend.new.intake _ _ _ _ (λ t. turn_shows g.start t _ _ _ c.requires.1.1.1.0.1.last) c.in-Some.is refl c.attend.ensures.settles

pub returns-in_err-say-in-None-clause-settles : goal.returns-in_err-say-in-None-clause-settles
returns-in_err-say-in-None-clause-settles g c = settling_beside _ _ g.start c.from_residual.result c.args.files.now _ _ _ _ (beside_none _ _ c.in_err-say-in-None.ensures.err)

pub returns-in_ok-say-in-None-clause-settles : goal.returns-in_ok-say-in-None-clause-settles
returns-in_ok-say-in-None-clause-settles g c = settling_well _ _ g.start c.args.files.now _ _ _ _ (beside_one _ _ _ (record { none_applied = refl; none_done = refl }) c.in_ok-say-in-None.ensures.said)

-- ---- what is done

pub returns-then-not-is_applied-clause-attended : goal.returns-then-not-is_applied-clause-attended
returns-then-not-is_applied-clause-attended g c = λ applied. let both : true ≡ false = sym applied ∙ sym c.is_applied.ensures ∙ c.if-not-is_applied.true in absurd cc

pub returns-in-Some-clause-attended : goal.returns-in-Some-clause-attended
returns-in-Some-clause-attended g c = λ applied. rw c.in-Some.is c.attend.ensures.attended

pub returns-in_ok-say-in-None-clause-attended : goal.returns-in_ok-say-in-None-clause-attended
returns-in_ok-say-in-None-clause-attended g c = λ applied. rw c.in-None.is tt
