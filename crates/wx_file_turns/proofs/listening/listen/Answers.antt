use Rattle.std.proofs.Common.{refl, arith}
use Rattle.wx_file_turns.proofs.Settled.{asked_harmless, asked_walks, beside_none, beside_one, bring_beside, bring_harmless, quiet_walking, told_since, walking_by, walking_left}
use Rattle.wx_machine.proofs.SteadyLemmas.{only_none}
use Rattle.wx_file_turns.proofs.Listened.{bring_alone, bring_intake, intake_same, listened_bring, listened_from, listened_onward, listened_quiet, may_listen, none_listened, ok_cut, quiet_alone, quiet_intake, watches_asked, works_asked}
use Rattle.wx_file_turns.proofs.Onward.{alone_room, alone_then}
use Rattle.wx_file_turns.proofs.listening.listen.Goals as goal

-- ---- where nothing fails

pub returns-in_err-reserve-clause-settles : goal.returns-in_err-reserve-clause-settles
returns-in_err-reserve-clause-settles g c = walking_left _ _ g.start c.from_residual.result _ c.args.watching.now c.args.watching.now c.args.intake.now c.args.intake.now _ _ _ _ c.from_residual.ensures.1 (beside_none _ _ c.reserve.ensures.same)

pub returns-in_err-reserve_host-clause-settles : goal.returns-in_err-reserve_host-clause-settles
returns-in_err-reserve_host-clause-settles g c = walking_left _ _ g.start c.from_residual-in_err-reserve_host.result _ c.args.watching.now c.args.watching.now c.args.intake.now c.args.intake.now _ _ _ _ c.from_residual-in_err-reserve_host.ensures.1 (beside_none _ _ c.reserve.ensures.same)

pub returns-in-None-clause-settles : goal.returns-in-None-clause-settles
returns-in-None-clause-settles g c =
    let gives = c.ask_next.ensures.gives in
    quiet_walking _ _ g.start c.args.watching.now c.ask_next.new.watching c.args.intake.now _ _ _ _ (beside_one _ _ _ (record { none_applied = refl; none_done = refl }) (rw c.reserve.ensures.same at c.push.ensures.past))
    (λ t ok calm walks.
    let known = told_since t ok g.start _ (g.W.Outside.seen c.args.world.now) (g.W.Outside.seen c.reserve_host.new.host) (g.W.Outside.seen c.ask_next.new.world) c.reserve_host.ensures.rest.steady.looked_kept calm in
    asked_walks _ _ t ok g.start _ c.args.watching.now c.ask_next.new.watching _ _ _ gives.0 gives.1 _ _ walks c.requires.1.1.1.1.0.2.installed gives.2 gives.3 gives.4 c.ask_next.ensures.state c.ask_next.ensures.others.2 c.ask_next.ensures.others.3 known.0 known.1)

pub returns-in-Some-clause-settles : goal.returns-in-Some-clause-settles
returns-in-Some-clause-settles g c =
    walking_by _ _ g.start c.bring.result c.args.watching.now c.ask_next.new.watching c.args.intake.now c.bring.new.intake _ _ _ _ (bring_beside c.bring.result _ _ _ _ _ _ _ c.reserve.ensures.same c.bring.ensures.listed c.bring.ensures.cut)
    (λ t ok calm h walks.
    let gives = c.ask_next.ensures.gives in
    let known = told_since t ok g.start _ (g.W.Outside.seen c.args.world.now) (g.W.Outside.seen c.reserve_host.new.host) (g.W.Outside.seen c.ask_next.new.world) c.reserve_host.ensures.rest.steady.looked_kept calm in
    bring_harmless c.bring.result _ _ _ c.args.intake.now c.bring.new.intake _ c.bring.ensures.brought h (asked_harmless _ _ t ok g.start _ c.args.watching.now _ _ _ _ gives.0 gives.1 _ _ walks gives.2 gives.4 known.0 known.1 c.in-Some.is)
    (asked_walks _ _ t ok g.start _ c.args.watching.now c.ask_next.new.watching _ _ _ gives.0 gives.1 _ _ walks c.requires.1.1.1.1.0.2.installed gives.2 gives.3 gives.4 c.ask_next.ensures.state c.ask_next.ensures.others.2 c.ask_next.ensures.others.3 known.0 known.1))

-- ---- there was no room in the journal

pub returns-in_err-reserve-clause-alone : goal.returns-in_err-reserve-clause-alone
returns-in_err-reserve-clause-alone g c = alone_room g.start _ _ _ _ _ c.requires.1.1.0.stands c.reserve.ensures.same c.reserve.ensures.kept only_none

pub returns-in_err-reserve-clause-onward : goal.returns-in_err-reserve-clause-onward
returns-in_err-reserve-clause-onward g c = listened_onward g.start _ _ _ _ (none_listened g.start c.args.worker.now c.args.watching.now.back c.args.journal.now.past c.reserve.new.journal.past c.reserve.ensures.same c.requires.1.1.0) (omega arith)

pub returns-in_err-reserve-clause-source : goal.returns-in_err-reserve-clause-source
returns-in_err-reserve-clause-source g c = let h = none_listened g.start c.args.worker.now c.args.watching.now.back c.args.journal.now.past c.reserve.new.journal.past c.reserve.ensures.same c.requires.1.1.0 in (h.applied_kept, h.current_kept)

pub returns-in_err-reserve-clause-cut : goal.returns-in_err-reserve-clause-cut
returns-in_err-reserve-clause-cut g c = ok_cut c.from_residual.result (none_listened g.start c.args.worker.now c.args.watching.now.back c.args.journal.now.past c.reserve.new.journal.past c.reserve.ensures.same c.requires.1.1.0).none

pub returns-in_err-reserve-clause-none_unmade : goal.returns-in_err-reserve-clause-none_unmade
returns-in_err-reserve-clause-none_unmade g c = (none_listened g.start c.args.worker.now c.args.watching.now.back c.args.journal.now.past c.reserve.new.journal.past c.reserve.ensures.same c.requires.1.1.0).made

-- ---- or in the world

pub returns-in_err-reserve_host-clause-alone : goal.returns-in_err-reserve_host-clause-alone
returns-in_err-reserve_host-clause-alone g c = alone_room g.start _ _ _ _ _ c.requires.1.1.0.stands c.reserve.ensures.same c.reserve.ensures.kept c.reserve_host.ensures.rest

pub returns-in_err-reserve_host-clause-onward : goal.returns-in_err-reserve_host-clause-onward
returns-in_err-reserve_host-clause-onward g c = listened_onward g.start _ _ _ _ (none_listened g.start c.args.worker.now c.args.watching.now.back c.args.journal.now.past c.reserve.new.journal.past c.reserve.ensures.same c.requires.1.1.0) c.reserve_host.ensures.rest.steady.looked_kept.looks_kept

pub returns-in_err-reserve_host-clause-source : goal.returns-in_err-reserve_host-clause-source
returns-in_err-reserve_host-clause-source g c = let h = none_listened g.start c.args.worker.now c.args.watching.now.back c.args.journal.now.past c.reserve.new.journal.past c.reserve.ensures.same c.requires.1.1.0 in (h.applied_kept, h.current_kept)

pub returns-in_err-reserve_host-clause-cut : goal.returns-in_err-reserve_host-clause-cut
returns-in_err-reserve_host-clause-cut g c = ok_cut c.from_residual-in_err-reserve_host.result (none_listened g.start c.args.worker.now c.args.watching.now.back c.args.journal.now.past c.reserve.new.journal.past c.reserve.ensures.same c.requires.1.1.0).none

pub returns-in_err-reserve_host-clause-none_unmade : goal.returns-in_err-reserve_host-clause-none_unmade
returns-in_err-reserve_host-clause-none_unmade g c = (none_listened g.start c.args.worker.now c.args.watching.now.back c.args.journal.now.past c.reserve.new.journal.past c.reserve.ensures.same c.requires.1.1.0).made

-- ---- it is asked

pub ask_next-requires : goal.ask_next-requires
ask_next-requires g c = record { room = omega (arith, c.in_ok-reserve_host.ensures.room); lends = c.requires.1.1.1.1.0.2.has_backend }

-- ---- it brought nothing

pub returns-in-None-clause-alone : goal.returns-in-None-clause-alone
returns-in-None-clause-alone g c =
    alone_then g.start c.args.worker.now c.args.journal.now c.reserve.new.journal _ _ _ _ (alone_room g.start _ _ _ _ _ c.requires.1.1.0.stands c.reserve.ensures.same c.reserve.ensures.kept c.reserve_host.ensures.rest)
    (quiet_alone _ _ g.start c.args.worker.now c.items-item.result c.args.watching.now.back c.ask_next.result _ _ _ _ _ _ c.in-None.is (may_listen g.start c.args.worker.now c.items-item.result c.args.watching.now.back c.args.journal.now.past c.reserve.new.journal.past c.reserve.ensures.same c.requires.1.1.0 c.requires.1.1.1.0 c.requires.1.1.1.1.1.0 c.requires.1.1.1.1.1.1.0 c.items-item.ensures) c.ask_next.ensures.gives.4 c.push.ensures.past (omega (arith, c.in_ok-reserve.ensures.room, c.push.ensures.room)) c.in_ok-reserve_host.ensures.room)

pub returns-in-None-clause-onward : goal.returns-in-None-clause-onward
returns-in-None-clause-onward g c =
    let room = c.reserve_host.ensures.rest.steady.looked_kept.looks_kept in
    let looked = c.ask_next.ensures.gives.4.looked.looks in
    listened_onward g.start _ _ _ _ (listened_from g.start c.args.journal.now.past c.reserve.new.journal.past _ c.reserve.ensures.same (listened_quiet g.start c.args.worker.now c.items-item.result c.args.watching.now.back c.reserve.new.journal.past _ (may_listen g.start c.args.worker.now c.items-item.result c.args.watching.now.back c.args.journal.now.past c.reserve.new.journal.past c.reserve.ensures.same c.requires.1.1.0 c.requires.1.1.1.0 c.requires.1.1.1.1.1.0 c.requires.1.1.1.1.1.1.0 c.items-item.ensures) c.push.ensures.past).0) (omega (arith, room, looked))

pub returns-in-None-clause-served : goal.returns-in-None-clause-served
returns-in-None-clause-served g c = (listened_quiet g.start c.args.worker.now c.items-item.result c.args.watching.now.back c.reserve.new.journal.past _ (may_listen g.start c.args.worker.now c.items-item.result c.args.watching.now.back c.args.journal.now.past c.reserve.new.journal.past c.reserve.ensures.same c.requires.1.1.0 c.requires.1.1.1.0 c.requires.1.1.1.1.1.0 c.requires.1.1.1.1.1.1.0 c.items-item.ensures) c.push.ensures.past).1

pub returns-in-None-clause-intake : goal.returns-in-None-clause-intake
returns-in-None-clause-intake g c = quiet_intake g.start _ c.reserve.new.journal.past _ (intake_same g.start c.args.intake.now _ _ c.reserve.ensures.same c.requires.1.1.1.1.1.1.1) c.push.ensures.past

pub returns-in-None-clause-source : goal.returns-in-None-clause-source
returns-in-None-clause-source g c = let h = listened_from g.start c.args.journal.now.past c.reserve.new.journal.past _ c.reserve.ensures.same (listened_quiet g.start c.args.worker.now c.items-item.result c.args.watching.now.back c.reserve.new.journal.past _ (may_listen g.start c.args.worker.now c.items-item.result c.args.watching.now.back c.args.journal.now.past c.reserve.new.journal.past c.reserve.ensures.same c.requires.1.1.0 c.requires.1.1.1.0 c.requires.1.1.1.1.1.0 c.requires.1.1.1.1.1.1.0 c.items-item.ensures) c.push.ensures.past).0 in (h.applied_kept, h.current_kept)

pub returns-in-None-clause-watches : goal.returns-in-None-clause-watches
returns-in-None-clause-watches g c = λ folder config back h. watches_asked folder config back _ _ _ (record { state = c.ask_next.ensures.state; others = c.ask_next.ensures.others }) c.ask_next.ensures.gives.3 h

pub returns-in-None-clause-works : goal.returns-in-None-clause-works
returns-in-None-clause-works g c = works_asked c.args.watching.now c.ask_next.new.watching (record { state = c.ask_next.ensures.state; others = c.ask_next.ensures.others })

pub returns-in-None-clause-none_unmade : goal.returns-in-None-clause-none_unmade
returns-in-None-clause-none_unmade g c = (listened_quiet g.start c.args.worker.now c.items-item.result c.args.watching.now.back c.reserve.new.journal.past _ (may_listen g.start c.args.worker.now c.items-item.result c.args.watching.now.back c.args.journal.now.past c.reserve.new.journal.past c.reserve.ensures.same c.requires.1.1.0 c.requires.1.1.1.0 c.requires.1.1.1.1.1.0 c.requires.1.1.1.1.1.1.0 c.items-item.ensures) c.push.ensures.past).0.made

-- ---- or something

pub returns-in-Some-clause-alone : goal.returns-in-Some-clause-alone
returns-in-Some-clause-alone g c =
    alone_then g.start c.args.worker.now c.args.journal.now c.reserve.new.journal _ _ _ _ (alone_room g.start _ _ _ _ _ c.requires.1.1.0.stands c.reserve.ensures.same c.reserve.ensures.kept c.reserve_host.ensures.rest)
    (bring_alone _ _ g.start c.args.worker.now c.items-item.result c.args.watching.now.back c.bring.result c.ask_next.result c.in-Some.answer c.args.intake.now.lane _ _ _ _ _ _ (rw c.reserve.ensures.same c.requires.1.1.1.1.1.1.1.lane_kept) c.in-Some.is (may_listen g.start c.args.worker.now c.items-item.result c.args.watching.now.back c.args.journal.now.past c.reserve.new.journal.past c.reserve.ensures.same c.requires.1.1.0 c.requires.1.1.1.0 c.requires.1.1.1.1.1.0 c.requires.1.1.1.1.1.1.0 c.items-item.ensures) c.ask_next.ensures.gives.4 c.bring.ensures.listed c.bring.ensures.cut (omega (arith, c.in_ok-reserve.ensures.room, c.bring.ensures.room)) c.in_ok-reserve_host.ensures.room)

pub returns-in-Some-clause-onward : goal.returns-in-Some-clause-onward
returns-in-Some-clause-onward g c =
    let room = c.reserve_host.ensures.rest.steady.looked_kept.looks_kept in
    let looked = c.ask_next.ensures.gives.4.looked.looks in
    listened_onward g.start _ _ _ _ (listened_from g.start c.args.journal.now.past c.reserve.new.journal.past _ c.reserve.ensures.same (listened_bring g.start c.args.worker.now c.items-item.result c.args.watching.now.back c.reserve.new.journal.past _ c.bring.result c.in-Some.answer c.args.intake.now.lane (rw c.reserve.ensures.same c.requires.1.1.1.1.1.1.1.lane_kept) (may_listen g.start c.args.worker.now c.items-item.result c.args.watching.now.back c.args.journal.now.past c.reserve.new.journal.past c.reserve.ensures.same c.requires.1.1.0 c.requires.1.1.1.0 c.requires.1.1.1.1.1.0 c.requires.1.1.1.1.1.1.0 c.items-item.ensures) c.bring.ensures.listed c.bring.ensures.cut).0) (omega (arith, room, looked))

pub returns-in-Some-clause-served : goal.returns-in-Some-clause-served
returns-in-Some-clause-served g c = (listened_bring g.start c.args.worker.now c.items-item.result c.args.watching.now.back c.reserve.new.journal.past _ c.bring.result c.in-Some.answer c.args.intake.now.lane (rw c.reserve.ensures.same c.requires.1.1.1.1.1.1.1.lane_kept) (may_listen g.start c.args.worker.now c.items-item.result c.args.watching.now.back c.args.journal.now.past c.reserve.new.journal.past c.reserve.ensures.same c.requires.1.1.0 c.requires.1.1.1.0 c.requires.1.1.1.1.1.0 c.requires.1.1.1.1.1.1.0 c.items-item.ensures) c.bring.ensures.listed c.bring.ensures.cut).1

pub returns-in-Some-clause-intake : goal.returns-in-Some-clause-intake
returns-in-Some-clause-intake g c = bring_intake g.start c.args.intake.now _ c.reserve.new.journal.past _ c.items-item.result c.args.watching.now.back c.in-Some.answer c.bring.result (intake_same g.start c.args.intake.now _ _ c.reserve.ensures.same c.requires.1.1.1.1.1.1.1) c.bring.ensures.listed c.bring.ensures.brought

pub returns-in-Some-clause-source : goal.returns-in-Some-clause-source
returns-in-Some-clause-source g c = let h = listened_from g.start c.args.journal.now.past c.reserve.new.journal.past _ c.reserve.ensures.same (listened_bring g.start c.args.worker.now c.items-item.result c.args.watching.now.back c.reserve.new.journal.past _ c.bring.result c.in-Some.answer c.args.intake.now.lane (rw c.reserve.ensures.same c.requires.1.1.1.1.1.1.1.lane_kept) (may_listen g.start c.args.worker.now c.items-item.result c.args.watching.now.back c.args.journal.now.past c.reserve.new.journal.past c.reserve.ensures.same c.requires.1.1.0 c.requires.1.1.1.0 c.requires.1.1.1.1.1.0 c.requires.1.1.1.1.1.1.0 c.items-item.ensures) c.bring.ensures.listed c.bring.ensures.cut).0 in (h.applied_kept, h.current_kept)

pub returns-in-Some-clause-watches : goal.returns-in-Some-clause-watches
returns-in-Some-clause-watches g c = λ folder config back h. watches_asked folder config back _ _ _ (record { state = c.ask_next.ensures.state; others = c.ask_next.ensures.others }) c.ask_next.ensures.gives.3 h

pub returns-in-Some-clause-works : goal.returns-in-Some-clause-works
returns-in-Some-clause-works g c = works_asked c.args.watching.now c.ask_next.new.watching (record { state = c.ask_next.ensures.state; others = c.ask_next.ensures.others })

pub returns-in-Some-clause-none_unmade : goal.returns-in-Some-clause-none_unmade
returns-in-Some-clause-none_unmade g c = (listened_bring g.start c.args.worker.now c.items-item.result c.args.watching.now.back c.reserve.new.journal.past _ c.bring.result c.in-Some.answer c.args.intake.now.lane (rw c.reserve.ensures.same c.requires.1.1.1.1.1.1.1.lane_kept) (may_listen g.start c.args.worker.now c.items-item.result c.args.watching.now.back c.args.journal.now.past c.reserve.new.journal.past c.reserve.ensures.same c.requires.1.1.0 c.requires.1.1.1.0 c.requires.1.1.1.1.1.0 c.requires.1.1.1.1.1.1.0 c.items-item.ensures) c.bring.ensures.listed c.bring.ensures.cut).0.made

pub returns-in-Some-clause-cut : goal.returns-in-Some-clause-cut
returns-in-Some-clause-cut g c = ok_cut c.bring.result (listened_bring g.start c.args.worker.now c.items-item.result c.args.watching.now.back c.reserve.new.journal.past _ c.bring.result c.in-Some.answer c.args.intake.now.lane (rw c.reserve.ensures.same c.requires.1.1.1.1.1.1.1.lane_kept) (may_listen g.start c.args.worker.now c.items-item.result c.args.watching.now.back c.args.journal.now.past c.reserve.new.journal.past c.reserve.ensures.same c.requires.1.1.0 c.requires.1.1.1.0 c.requires.1.1.1.1.1.0 c.requires.1.1.1.1.1.1.0 c.items-item.ensures) c.bring.ensures.listed c.bring.ensures.cut).0.none
