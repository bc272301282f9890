use Rattle.std.proofs.Common.{List, inl, arith, subst}
use Rattle.wx_journal.specs.declared.entry.Entry.{Entry}
use Rattle.wx_worker.specs.Stands.{MayShow}
use Rattle.wx_worker.proofs.Serving.{hooks_none}
use Rattle.wx_file_turns.proofs.Entries.{shown_hand}
use Rattle.wx_file_turns.proofs.Hearings.{error_shows, shown_open}
use Rattle.wx_file_turns.proofs.Onward.{steps_hand_room, steps_hand_then}
use Rattle.wx_file_turns.proofs.hearing.show_owed.Goals as goal

-- there was no room in the journal
pub returns-in_err-reserve-clause-hand : goal.returns-in_err-reserve-clause-hand
returns-in_err-reserve-clause-hand g c = steps_hand_room _ _ _ g.start _ _ _ _ _ c.requires.1.0.stands c.reserve.ensures.same c.reserve.ensures.kept (hooks_none _ _ _)

-- or in the hooks
pub returns-in_err-reserve-2-clause-hand : goal.returns-in_err-reserve-2-clause-hand
returns-in_err-reserve-2-clause-hand g c = steps_hand_room _ _ _ g.start _ _ _ _ _ c.requires.1.0.stands c.reserve.ensures.same c.reserve.ensures.kept c.reserve-2.ensures.rest

-- it is due
pub call_show-requires : goal.call_show-requires
call_show-requires g c = λ κs lives. (lives, (error_shows g.start c.args.worker.now c.args.journal.now.past c.reserve.new.journal.past c.args.error c.reserve.ensures.same c.requires.1.0, record { in_journal = omega (arith, c.in_ok-reserve.ensures.room); in_hooks = c.in_ok-reserve-2.ensures.room }))

-- it was shown
pub returns-clause-hand : goal.returns-clause-hand
returns-clause-hand g c =
    steps_hand_then _ _ _ g.start _ _ _ _ _ _ _ _ _ (steps_hand_room _ _ _ g.start c.args.worker.now c.args.journal.now c.reserve.new.journal c.args.hooks.now c.reserve-2.new.self c.requires.1.0.stands c.reserve.ensures.same c.reserve.ensures.kept c.reserve-2.ensures.rest)
    (shown_hand _ _ _ g.start _ _ _ _ _ _ c.call_show.ensures.within c.call_show.ensures.adds c.in_ok-reserve.ensures.room)

pub returns-clause-served : goal.returns-clause-served
returns-clause-served g c = shown_open g.start c.args.worker.now c.args.journal.now.past c.reserve.new.journal.past c.call_show.new.journal.past c.args.error c.call_show.result c.reserve.ensures.same c.requires.1.0 c.requires.1.1 c.call_show.ensures.done

pub returns-in_err-reserve-clause-adds : goal.returns-in_err-reserve-clause-adds
returns-in_err-reserve-clause-adds g c = inl c.reserve.ensures.same

pub returns-in_err-reserve-2-clause-adds : goal.returns-in_err-reserve-2-clause-adds
returns-in_err-reserve-2-clause-adds g c = inl c.reserve.ensures.same

pub returns-clause-adds : goal.returns-clause-adds
returns-clause-adds g c = subst (λ (p : List Entry). MayShow p c.call_show.new.journal.past) c.reserve.ensures.same c.call_show.ensures.adds
