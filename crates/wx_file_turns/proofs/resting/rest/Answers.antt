use Rattle.std.proofs.Common.{arith, refl}
use Rattle.std.specs.Prelude.{true, None}
use Rattle.wx_tree.proofs.ResultLemmas.{ok_always}
use Rattle.wx_journal.specs.declared.entry.Word.TheVariants.{Quiet}
use Rattle.wx_machine.specs.Due.{Open}
use Rattle.wx_machine.proofs.WordLaws.{steps_alone}
use Rattle.wx_file_turns.proofs.Nexts.{next_found}
use Rattle.wx_file_turns.proofs.Onward.{attends_alone, attends_grown, attends_heard}
use Rattle.wx_file_turns.proofs.Rests.{attends_offered, gone_rested, heard_paid, offered_rested, quiet_rested, ready_rested, rested_paid, same_paid}
use Rattle.wx_file_turns.proofs.Steps.{quiet_due}
use Rattle.wx_file_turns.proofs.Settled.{beside_none, beside_one, heard_harmless, left_harmless, next_silent, walking_left, walking_same, walking_well}
use Rattle.wx_file_turns.proofs.Telling.{rests_heard, rests_silent}
use Rattle.wx_file_turns.proofs.resting.rest.Goals as goal

-- ---- there is nothing to do

pub say-requires : goal.say-requires
say-requires g c =
    let owes = c.requires.1.1.1.0 in
    let next = next_found g.start _ _ _ _ _ c.in_ok-coming.ensures c.in-Rest.is owes.stands.own c.requires.1.1.1.1.0 c.requires.1.1.1.1.1.0 in
    (owes.stands, (quiet_due g.start c.args.journal.now.past owes.due next, steps_alone g.start c.args.journal.now.past Quiet true Open owes.due))

pub returns-in_ok-say-in-Rest-clause-served : goal.returns-in_ok-say-in-Rest-clause-served
returns-in_ok-say-in-Rest-clause-served g c =
    let owes = c.requires.1.1.1.0 in
    let next = next_found g.start _ _ _ _ _ c.in_ok-coming.ensures c.in-Rest.is owes.stands.own c.requires.1.1.1.1.0 c.requires.1.1.1.1.1.0 in
    (quiet_rested g.start _ _ c.args.journal.now.past _ owes.due next c.requires.1.1.1.1.1.1 c.in_ok-say-in-Rest.ensures.said c.requires.1.1.1.1.0 c.requires.1.1.1.1.1.0).served

pub returns-in_ok-say-in-Rest-clause-watching : goal.returns-in_ok-say-in-Rest-clause-watching
returns-in_ok-say-in-Rest-clause-watching g c =
    let owes = c.requires.1.1.1.0 in
    let next = next_found g.start _ _ _ _ _ c.in_ok-coming.ensures c.in-Rest.is owes.stands.own c.requires.1.1.1.1.0 c.requires.1.1.1.1.1.0 in
    (quiet_rested g.start _ _ c.args.journal.now.past _ owes.due next c.requires.1.1.1.1.1.1 c.in_ok-say-in-Rest.ensures.said c.requires.1.1.1.1.0 c.requires.1.1.1.1.1.0).watching

pub returns-in_ok-say-in-Rest-clause-intake : goal.returns-in_ok-say-in-Rest-clause-intake
returns-in_ok-say-in-Rest-clause-intake g c =
    let owes = c.requires.1.1.1.0 in
    let next = next_found g.start _ _ _ _ _ c.in_ok-coming.ensures c.in-Rest.is owes.stands.own c.requires.1.1.1.1.0 c.requires.1.1.1.1.1.0 in
    (quiet_rested g.start _ _ c.args.journal.now.past _ owes.due next c.requires.1.1.1.1.1.1 c.in_ok-say-in-Rest.ensures.said c.requires.1.1.1.1.0 c.requires.1.1.1.1.1.0).intake

pub returns-in_ok-say-in-Rest-clause-paid : goal.returns-in_ok-say-in-Rest-clause-paid
returns-in_ok-say-in-Rest-clause-paid g c =
    let owes = c.requires.1.1.1.0 in
    let next = next_found g.start _ _ _ _ _ c.in_ok-coming.ensures c.in-Rest.is owes.stands.own c.requires.1.1.1.1.0 c.requires.1.1.1.1.1.0 in
    rested_paid g.start _ _ _ _ (g.W.Outside.seen c.args.world.now) (g.W.Outside.seen c.args.world.now) (omega arith) (quiet_rested g.start _ _ c.args.journal.now.past _ owes.due next c.requires.1.1.1.1.1.1 c.in_ok-say-in-Rest.ensures.said c.requires.1.1.1.1.0 c.requires.1.1.1.1.1.0)

pub returns-in_ok-say-in-Rest-clause-attends : goal.returns-in_ok-say-in-Rest-clause-attends
returns-in_ok-say-in-Rest-clause-attends g c = attends_grown _ _ _ g.start _ _ _ _ _ c.say.ensures.grows

pub returns-in_err-say-in-Rest-clause-attends : goal.returns-in_err-say-in-Rest-clause-attends
returns-in_err-say-in-Rest-clause-attends g c = attends_grown _ _ _ g.start _ _ _ _ _ c.say.ensures.grows

pub returns-in_err-say-in-Rest-clause-paid : goal.returns-in_err-say-in-Rest-clause-paid
returns-in_err-say-in-Rest-clause-paid g c = same_paid c.args.journal.now.past _ (g.W.Outside.seen c.args.world.now) (g.W.Outside.seen c.args.world.now) _ (omega arith) c.in_err-say-in-Rest.ensures.err

-- ---- it is told that all is watched

pub tell_ready-requires : goal.tell_ready-requires
tell_ready-requires g c = λ κs lives.
    let owes = c.requires.1.1.1.0 in
    let next = next_found g.start _ _ _ _ _ c.in_ok-coming.ensures c.in-Ready.is owes.stands.own c.requires.1.1.1.1.0 c.requires.1.1.1.1.1.0 in
    (lives.0, (lives.1, (owes, next)))

pub returns-in_ok-tell_ready-in-Ready-clause-served : goal.returns-in_ok-tell_ready-in-Ready-clause-served
returns-in_ok-tell_ready-in-Ready-clause-served g c =
    let owes = c.requires.1.1.1.0 in
    let next = next_found g.start _ _ _ _ _ c.in_ok-coming.ensures c.in-Ready.is owes.stands.own c.requires.1.1.1.1.0 c.requires.1.1.1.1.1.0 in
    (ready_rested g.start _ _ _ c.args.journal.now.past _ _ owes.due next c.requires.1.1.1.1.1.1 c.in_ok-tell_ready-in-Ready.ensures.told.0 c.in_ok-tell_ready-in-Ready.ensures.told.1 c.requires.1.1.1.1.0 c.requires.1.1.1.1.1.0).served

pub returns-in_ok-tell_ready-in-Ready-clause-watching : goal.returns-in_ok-tell_ready-in-Ready-clause-watching
returns-in_ok-tell_ready-in-Ready-clause-watching g c =
    let owes = c.requires.1.1.1.0 in
    let next = next_found g.start _ _ _ _ _ c.in_ok-coming.ensures c.in-Ready.is owes.stands.own c.requires.1.1.1.1.0 c.requires.1.1.1.1.1.0 in
    (ready_rested g.start _ _ _ c.args.journal.now.past _ _ owes.due next c.requires.1.1.1.1.1.1 c.in_ok-tell_ready-in-Ready.ensures.told.0 c.in_ok-tell_ready-in-Ready.ensures.told.1 c.requires.1.1.1.1.0 c.requires.1.1.1.1.1.0).watching

pub returns-in_ok-tell_ready-in-Ready-clause-intake : goal.returns-in_ok-tell_ready-in-Ready-clause-intake
returns-in_ok-tell_ready-in-Ready-clause-intake g c =
    let owes = c.requires.1.1.1.0 in
    let next = next_found g.start _ _ _ _ _ c.in_ok-coming.ensures c.in-Ready.is owes.stands.own c.requires.1.1.1.1.0 c.requires.1.1.1.1.1.0 in
    (ready_rested g.start _ _ _ c.args.journal.now.past _ _ owes.due next c.requires.1.1.1.1.1.1 c.in_ok-tell_ready-in-Ready.ensures.told.0 c.in_ok-tell_ready-in-Ready.ensures.told.1 c.requires.1.1.1.1.0 c.requires.1.1.1.1.1.0).intake

pub returns-in_ok-tell_ready-in-Ready-clause-paid : goal.returns-in_ok-tell_ready-in-Ready-clause-paid
returns-in_ok-tell_ready-in-Ready-clause-paid g c =
    let owes = c.requires.1.1.1.0 in
    let next = next_found g.start _ _ _ _ _ c.in_ok-coming.ensures c.in-Ready.is owes.stands.own c.requires.1.1.1.1.0 c.requires.1.1.1.1.1.0 in
    rested_paid g.start _ _ _ _ (g.W.Outside.seen c.args.world.now) (g.W.Outside.seen c.tell_ready.new.world) (c.tell_ready.ensures.alone.serves None).steady.looked_kept.looks_kept (ready_rested g.start _ _ _ c.args.journal.now.past _ _ owes.due next c.requires.1.1.1.1.1.1 c.in_ok-tell_ready-in-Ready.ensures.told.0 c.in_ok-tell_ready-in-Ready.ensures.told.1 c.requires.1.1.1.1.0 c.requires.1.1.1.1.1.0)

pub returns-in_ok-tell_ready-in-Ready-clause-attends : goal.returns-in_ok-tell_ready-in-Ready-clause-attends
returns-in_ok-tell_ready-in-Ready-clause-attends g c = attends_alone _ _ _ g.start _ _ _ _ _ _ c.tell_ready.ensures.alone

pub returns-in_err-tell_ready-in-Ready-clause-attends : goal.returns-in_err-tell_ready-in-Ready-clause-attends
returns-in_err-tell_ready-in-Ready-clause-attends g c = attends_alone _ _ _ g.start _ _ _ _ _ _ c.tell_ready.ensures.alone

pub returns-in_err-tell_ready-in-Ready-clause-paid : goal.returns-in_err-tell_ready-in-Ready-clause-paid
returns-in_err-tell_ready-in-Ready-clause-paid g c = same_paid c.args.journal.now.past _ (g.W.Outside.seen c.args.world.now) (g.W.Outside.seen c.tell_ready.new.world) _ (c.tell_ready.ensures.alone.serves None).steady.looked_kept.looks_kept c.in_err-tell_ready-in-Ready.ensures.err

-- ---- an item is heard

pub hear-requires : goal.hear-requires
hear-requires g c = λ κs lives.
    let owes = c.requires.1.1.1.0 in
    let next = next_found g.start _ _ _ _ _ c.in_ok-coming.ensures c.in-Hear.is owes.stands.own c.requires.1.1.1.1.0 c.requires.1.1.1.1.1.0 in
    (lives.0, (lives.1, (owes, (next, (c.requires.1.1.1.1.0, (c.requires.1.1.1.1.1.0, c.requires.1.1.1.1.1.1))))))

pub returns-in-Hear-clause-attends : goal.returns-in-Hear-clause-attends
returns-in-Hear-clause-attends g c = attends_heard _ _ _ g.start _ _ _ _ _ _ _ c.hear.ensures.hand

pub returns-in-Hear-clause-paid : goal.returns-in-Hear-clause-paid
returns-in-Hear-clause-paid g c = heard_paid c.args.watching.now c.hear.new.watching c.args.journal.now.past c.hear.new.journal.past (g.W.Outside.seen c.args.world.now) c.hear.ensures.hand.steps_kept c.hear.ensures.hand.work_more c.hear.ensures.idle

-- ---- one is let go

pub let_go-requires : goal.let_go-requires
let_go-requires g c =
    let owes = c.requires.1.1.1.0 in
    let next = next_found g.start _ _ _ _ _ c.in_ok-coming.ensures c.in-LetGo.is owes.stands.own c.requires.1.1.1.1.0 c.requires.1.1.1.1.1.0 in
    (owes, (next.0, next.2))

pub returns-in_ok-let_go-in-LetGo-clause-served : goal.returns-in_ok-let_go-in-LetGo-clause-served
returns-in_ok-let_go-in-LetGo-clause-served g c =
    let owes = c.requires.1.1.1.0 in
    let next = next_found g.start _ _ _ _ _ c.in_ok-coming.ensures c.in-LetGo.is owes.stands.own c.requires.1.1.1.1.0 c.requires.1.1.1.1.1.0 in
    (gone_rested g.start _ _ _ c.args.journal.now.past _ _ _ owes.due next.0 next.1 next.2 c.requires.1.1.1.1.1.1 c.in_ok-let_go-in-LetGo.ensures.gone.0 c.in_ok-let_go-in-LetGo.ensures.gone.1 c.requires.1.1.1.1.0 c.requires.1.1.1.1.1.0).served

pub returns-in_ok-let_go-in-LetGo-clause-watching : goal.returns-in_ok-let_go-in-LetGo-clause-watching
returns-in_ok-let_go-in-LetGo-clause-watching g c =
    let owes = c.requires.1.1.1.0 in
    let next = next_found g.start _ _ _ _ _ c.in_ok-coming.ensures c.in-LetGo.is owes.stands.own c.requires.1.1.1.1.0 c.requires.1.1.1.1.1.0 in
    (gone_rested g.start _ _ _ c.args.journal.now.past _ _ _ owes.due next.0 next.1 next.2 c.requires.1.1.1.1.1.1 c.in_ok-let_go-in-LetGo.ensures.gone.0 c.in_ok-let_go-in-LetGo.ensures.gone.1 c.requires.1.1.1.1.0 c.requires.1.1.1.1.1.0).watching

pub returns-in_ok-let_go-in-LetGo-clause-intake : goal.returns-in_ok-let_go-in-LetGo-clause-intake
returns-in_ok-let_go-in-LetGo-clause-intake g c =
    let owes = c.requires.1.1.1.0 in
    let next = next_found g.start _ _ _ _ _ c.in_ok-coming.ensures c.in-LetGo.is owes.stands.own c.requires.1.1.1.1.0 c.requires.1.1.1.1.1.0 in
    (gone_rested g.start _ _ _ c.args.journal.now.past _ _ _ owes.due next.0 next.1 next.2 c.requires.1.1.1.1.1.1 c.in_ok-let_go-in-LetGo.ensures.gone.0 c.in_ok-let_go-in-LetGo.ensures.gone.1 c.requires.1.1.1.1.0 c.requires.1.1.1.1.1.0).intake

pub returns-in_ok-let_go-in-LetGo-clause-paid : goal.returns-in_ok-let_go-in-LetGo-clause-paid
returns-in_ok-let_go-in-LetGo-clause-paid g c =
    let owes = c.requires.1.1.1.0 in
    let next = next_found g.start _ _ _ _ _ c.in_ok-coming.ensures c.in-LetGo.is owes.stands.own c.requires.1.1.1.1.0 c.requires.1.1.1.1.1.0 in
    rested_paid g.start _ _ _ _ (g.W.Outside.seen c.args.world.now) (g.W.Outside.seen c.args.world.now) (omega arith) (gone_rested g.start _ _ _ c.args.journal.now.past _ _ _ owes.due next.0 next.1 next.2 c.requires.1.1.1.1.1.1 c.in_ok-let_go-in-LetGo.ensures.gone.0 c.in_ok-let_go-in-LetGo.ensures.gone.1 c.requires.1.1.1.1.0 c.requires.1.1.1.1.1.0)

pub returns-in_ok-let_go-in-LetGo-clause-attends : goal.returns-in_ok-let_go-in-LetGo-clause-attends
returns-in_ok-let_go-in-LetGo-clause-attends g c = attends_grown _ _ _ g.start _ _ _ _ _ c.let_go.ensures.grows

pub returns-in_err-let_go-in-LetGo-clause-attends : goal.returns-in_err-let_go-in-LetGo-clause-attends
returns-in_err-let_go-in-LetGo-clause-attends g c = attends_grown _ _ _ g.start _ _ _ _ _ c.let_go.ensures.grows

pub returns-in_err-let_go-in-LetGo-clause-paid : goal.returns-in_err-let_go-in-LetGo-clause-paid
returns-in_err-let_go-in-LetGo-clause-paid g c = same_paid c.args.journal.now.past _ (g.W.Outside.seen c.args.world.now) (g.W.Outside.seen c.args.world.now) _ (omega arith) c.in_err-let_go-in-LetGo.ensures.err

-- ---- one is offered

pub offer-requires : goal.offer-requires
offer-requires g c =
    let owes = c.requires.1.1.1.0 in
    let next = next_found g.start _ _ _ _ _ c.in_ok-coming.ensures c.in-Offer.is owes.stands.own c.requires.1.1.1.1.0 c.requires.1.1.1.1.1.0 in
    (owes, (next.0, next.1))

pub returns-in_ok-offer-in-Offer-clause-served : goal.returns-in_ok-offer-in-Offer-clause-served
returns-in_ok-offer-in-Offer-clause-served g c =
    let owes = c.requires.1.1.1.0 in
    let next = next_found g.start _ _ _ _ _ c.in_ok-coming.ensures c.in-Offer.is owes.stands.own c.requires.1.1.1.1.0 c.requires.1.1.1.1.1.0 in
    (offered_rested g.start _ _ _ c.args.journal.now.past _ _ _ owes.due next.0 next.1 c.requires.1.1.1.1.1.1 c.in_ok-offer-in-Offer.ensures.offered.0 c.in_ok-offer-in-Offer.ensures.offered.1 c.requires.1.1.1.1.0 c.requires.1.1.1.1.1.0).served

pub returns-in_ok-offer-in-Offer-clause-watching : goal.returns-in_ok-offer-in-Offer-clause-watching
returns-in_ok-offer-in-Offer-clause-watching g c =
    let owes = c.requires.1.1.1.0 in
    let next = next_found g.start _ _ _ _ _ c.in_ok-coming.ensures c.in-Offer.is owes.stands.own c.requires.1.1.1.1.0 c.requires.1.1.1.1.1.0 in
    (offered_rested g.start _ _ _ c.args.journal.now.past _ _ _ owes.due next.0 next.1 c.requires.1.1.1.1.1.1 c.in_ok-offer-in-Offer.ensures.offered.0 c.in_ok-offer-in-Offer.ensures.offered.1 c.requires.1.1.1.1.0 c.requires.1.1.1.1.1.0).watching

pub returns-in_ok-offer-in-Offer-clause-intake : goal.returns-in_ok-offer-in-Offer-clause-intake
returns-in_ok-offer-in-Offer-clause-intake g c =
    let owes = c.requires.1.1.1.0 in
    let next = next_found g.start _ _ _ _ _ c.in_ok-coming.ensures c.in-Offer.is owes.stands.own c.requires.1.1.1.1.0 c.requires.1.1.1.1.1.0 in
    (offered_rested g.start _ _ _ c.args.journal.now.past _ _ _ owes.due next.0 next.1 c.requires.1.1.1.1.1.1 c.in_ok-offer-in-Offer.ensures.offered.0 c.in_ok-offer-in-Offer.ensures.offered.1 c.requires.1.1.1.1.0 c.requires.1.1.1.1.1.0).intake

pub returns-in_ok-offer-in-Offer-clause-paid : goal.returns-in_ok-offer-in-Offer-clause-paid
returns-in_ok-offer-in-Offer-clause-paid g c =
    let owes = c.requires.1.1.1.0 in
    let next = next_found g.start _ _ _ _ _ c.in_ok-coming.ensures c.in-Offer.is owes.stands.own c.requires.1.1.1.1.0 c.requires.1.1.1.1.1.0 in
    rested_paid g.start _ _ _ _ (g.W.Outside.seen c.args.world.now) (g.W.Outside.seen c.args.world.now) (omega arith) (offered_rested g.start _ _ _ c.args.journal.now.past _ _ _ owes.due next.0 next.1 c.requires.1.1.1.1.1.1 c.in_ok-offer-in-Offer.ensures.offered.0 c.in_ok-offer-in-Offer.ensures.offered.1 c.requires.1.1.1.1.0 c.requires.1.1.1.1.1.0)

pub returns-in_ok-offer-in-Offer-clause-attends : goal.returns-in_ok-offer-in-Offer-clause-attends
returns-in_ok-offer-in-Offer-clause-attends g c = attends_offered _ _ _ _ g.start _ _ _ _ _ _ _ _ c.offer.result c.offer.ensures.grows c.offer.ensures.offered c.offer.ensures.err

pub returns-in_err-offer-in-Offer-clause-attends : goal.returns-in_err-offer-in-Offer-clause-attends
returns-in_err-offer-in-Offer-clause-attends g c = attends_offered _ _ _ _ g.start _ _ _ _ _ _ _ _ c.offer.result c.offer.ensures.grows c.offer.ensures.offered c.offer.ensures.err

pub returns-in_err-offer-in-Offer-clause-paid : goal.returns-in_err-offer-in-Offer-clause-paid
returns-in_err-offer-in-Offer-clause-paid g c = same_paid c.args.journal.now.past _ (g.W.Outside.seen c.args.world.now) (g.W.Outside.seen c.args.world.now) _ (omega arith) c.in_err-offer-in-Offer.ensures.err

-- ---- where nothing fails

pub returns-in_err-coming-clause-settles : goal.returns-in_err-coming-clause-settles
returns-in_err-coming-clause-settles g c = walking_left _ _ g.start c.from_residual.result _ c.args.watching.now c.args.watching.now c.args.intake.now c.args.intake.now _ _ _ _ c.from_residual.ensures.1 (beside_none _ _ refl)

pub returns-in_err-say-in-Rest-clause-settles : goal.returns-in_err-say-in-Rest-clause-settles
returns-in_err-say-in-Rest-clause-settles g c = walking_left _ _ g.start c.from_residual-in_err-say-in-Rest.result _ c.args.watching.now c.args.watching.now c.args.intake.now c.args.intake.now _ _ _ _ c.from_residual-in_err-say-in-Rest.ensures.1 (beside_none _ _ c.in_err-say-in-Rest.ensures.err)

pub returns-in_ok-say-in-Rest-clause-settles : goal.returns-in_ok-say-in-Rest-clause-settles
returns-in_ok-say-in-Rest-clause-settles g c = walking_well _ _ g.start c.args.watching.now c.args.watching.now c.args.intake.now c.args.intake.now _ _ _ _ (beside_one _ _ _ (record { none_applied = refl; none_done = refl }) c.in_ok-say-in-Rest.ensures.said) refl (λ h. h)

pub returns-in_err-tell_ready-in-Ready-clause-settles : goal.returns-in_err-tell_ready-in-Ready-clause-settles
returns-in_err-tell_ready-in-Ready-clause-settles g c = walking_left _ _ g.start c.from_residual-in_err-tell_ready-in-Ready.result _ c.args.watching.now c.args.watching.now c.args.intake.now c.tell_ready.new.intake _ _ _ _ c.from_residual-in_err-tell_ready-in-Ready.ensures.1 (beside_none _ _ c.in_err-tell_ready-in-Ready.ensures.err)

pub returns-in_ok-tell_ready-in-Ready-clause-settles : goal.returns-in_ok-tell_ready-in-Ready-clause-settles
returns-in_ok-tell_ready-in-Ready-clause-settles g c = walking_well _ _ g.start c.args.watching.now c.args.watching.now c.args.intake.now c.tell_ready.new.intake _ _ _ _ (beside_one _ _ _ (record { none_applied = refl; none_done = refl }) c.in_ok-tell_ready-in-Ready.ensures.told.0) refl (λ h. rw c.in_ok-tell_ready-in-Ready.ensures.told.1 h)

pub returns-in-Hear-clause-settles : goal.returns-in-Hear-clause-settles
returns-in-Hear-clause-settles g c = walking_same _ _ g.start c.hear.result c.args.watching.now c.hear.new.watching c.args.intake.now c.hear.new.intake _ _ _ _ c.hear.ensures.beside (λ h. ok_always c.hear.result _ (c.hear.ensures.silent (next_silent c.args.watching.now c.args.intake.now _ _ _ c.in_ok-coming.ensures c.in-Hear.is h))) (λ h. heard_harmless c.hear.result c.in-Hear.hearing.name c.args.intake.now c.hear.new.intake c.hear.ensures.lane h)

pub returns-in_err-let_go-in-LetGo-clause-settles : goal.returns-in_err-let_go-in-LetGo-clause-settles
returns-in_err-let_go-in-LetGo-clause-settles g c = walking_left _ _ g.start c.from_residual-in_err-let_go-in-LetGo.result _ c.args.watching.now c.args.watching.now c.args.intake.now c.let_go.new.intake _ _ _ _ c.from_residual-in_err-let_go-in-LetGo.ensures.1 (beside_none _ _ c.in_err-let_go-in-LetGo.ensures.err)

pub returns-in_ok-let_go-in-LetGo-clause-settles : goal.returns-in_ok-let_go-in-LetGo-clause-settles
returns-in_ok-let_go-in-LetGo-clause-settles g c = walking_well _ _ g.start c.args.watching.now c.args.watching.now c.args.intake.now c.let_go.new.intake _ _ _ _ (beside_one _ _ _ (record { none_applied = refl; none_done = refl }) c.in_ok-let_go-in-LetGo.ensures.gone.0) refl (λ h. left_harmless _ _ c.in_ok-let_go-in-LetGo.ensures.gone.1 h)

pub returns-in_err-offer-in-Offer-clause-settles : goal.returns-in_err-offer-in-Offer-clause-settles
returns-in_err-offer-in-Offer-clause-settles g c = walking_left _ _ g.start c.from_residual-in_err-offer-in-Offer.result _ c.args.watching.now c.args.watching.now c.args.intake.now c.offer.new.intake _ _ _ _ c.from_residual-in_err-offer-in-Offer.ensures.1 (beside_none _ _ c.in_err-offer-in-Offer.ensures.err)

pub returns-in_ok-offer-in-Offer-clause-settles : goal.returns-in_ok-offer-in-Offer-clause-settles
returns-in_ok-offer-in-Offer-clause-settles g c = walking_well _ _ g.start c.args.watching.now c.args.watching.now c.args.intake.now c.offer.new.intake _ _ _ _ (beside_one _ _ _ (record { none_applied = refl; none_done = refl }) c.in_ok-offer-in-Offer.ensures.offered.0) refl (λ h. left_harmless _ _ c.in_ok-offer-in-Offer.ensures.offered.1 h)

-- ---- what comes, and is told

pub returns-in_ok-say-in-Rest-clause-rests : goal.returns-in_ok-say-in-Rest-clause-rests
returns-in_ok-say-in-Rest-clause-rests g c =
    let owes = c.requires.1.1.1.0 in
    let next = next_found g.start _ _ _ _ _ c.in_ok-coming.ensures c.in-Rest.is owes.stands.own c.requires.1.1.1.1.0 c.requires.1.1.1.1.1.0 in
    rests_silent g.start c.args.watching.now c.args.journal.now.past _ _ next refl c.in_ok-say-in-Rest.ensures.said

pub returns-in_ok-tell_ready-in-Ready-clause-rests : goal.returns-in_ok-tell_ready-in-Ready-clause-rests
returns-in_ok-tell_ready-in-Ready-clause-rests g c =
    let owes = c.requires.1.1.1.0 in
    let next = next_found g.start _ _ _ _ _ c.in_ok-coming.ensures c.in-Ready.is owes.stands.own c.requires.1.1.1.1.0 c.requires.1.1.1.1.1.0 in
    rests_silent g.start c.args.watching.now c.args.journal.now.past _ _ next refl c.in_ok-tell_ready-in-Ready.ensures.told.0

pub returns-in_ok-let_go-in-LetGo-clause-rests : goal.returns-in_ok-let_go-in-LetGo-clause-rests
returns-in_ok-let_go-in-LetGo-clause-rests g c =
    let owes = c.requires.1.1.1.0 in
    let next = next_found g.start _ _ _ _ _ c.in_ok-coming.ensures c.in-LetGo.is owes.stands.own c.requires.1.1.1.1.0 c.requires.1.1.1.1.1.0 in
    rests_silent g.start c.args.watching.now c.args.journal.now.past _ _ next.0 refl c.in_ok-let_go-in-LetGo.ensures.gone.0

pub returns-in_ok-offer-in-Offer-clause-rests : goal.returns-in_ok-offer-in-Offer-clause-rests
returns-in_ok-offer-in-Offer-clause-rests g c =
    let owes = c.requires.1.1.1.0 in
    let next = next_found g.start _ _ _ _ _ c.in_ok-coming.ensures c.in-Offer.is owes.stands.own c.requires.1.1.1.1.0 c.requires.1.1.1.1.1.0 in
    rests_silent g.start c.args.watching.now c.args.journal.now.past _ _ next.0 refl c.in_ok-offer-in-Offer.ensures.offered.0

pub returns-in-Hear-clause-rests : goal.returns-in-Hear-clause-rests
returns-in-Hear-clause-rests g c =
    let owes = c.requires.1.1.1.0 in
    let next = next_found g.start _ _ _ _ _ c.in_ok-coming.ensures c.in-Hear.is owes.stands.own c.requires.1.1.1.1.0 c.requires.1.1.1.1.1.0 in
    rests_heard g.start c.args.watching.now c.hear.new.watching _ c.args.journal.now.past _ c.hear.result next c.requires.1.1.1.1.0 c.hear.ensures.adds c.hear.ensures.told
