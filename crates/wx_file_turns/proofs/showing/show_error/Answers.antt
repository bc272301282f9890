use Rattle.std.proofs.Common.{◌∙◌, sym, arith}
use Rattle.wx_file_turns.proofs.Entries.{shown_hand}
use Rattle.wx_file_turns.proofs.Onward.{steps_hand_room, steps_hand_then}
use Rattle.wx_file_turns.proofs.Shown.{open_shows, shut_shows}
use Rattle.wx_file_turns.proofs.Steps.{error_owed}
use Rattle.wx_file_turns.proofs.Walks.{shown_once}
use Rattle.wx_machine.specs.Added.{Same}
use Rattle.wx_file_turns.proofs.showing.show_error.Goals as goal

-- there was no room in the hooks
pub returns-in_err-reserve-2-clause-hand : goal.returns-in_err-reserve-2-clause-hand
returns-in_err-reserve-2-clause-hand g c = steps_hand_room _ _ _ g.start _ _ _ _ _ c.requires.1.0 c.reserve.ensures.same c.reserve.ensures.kept c.reserve-2.ensures.rest

-- it is due
pub call_show-requires : goal.call_show-requires
call_show-requires g c = λ κs lives. (
  lives,
  (
    error_owed g.start c.args.worker.now c.reserve.new.journal.past c.args.error (rw c.reserve.ensures.same c.requires.1.0) (rw c.reserve.ensures.same c.requires.1.1) (sym c.is_closed.ensures ∙ c.if-is_closed.false),
    record { in_journal = omega (arith, c.in_ok-reserve.ensures.room); in_hooks = c.in_ok-reserve-2.ensures.room },
  ),
)

-- it was shown
pub returns-clause-hand : goal.returns-clause-hand
returns-clause-hand g c =
    steps_hand_then _ _ _ g.start _ _ _ _ _ _ _ _ _ (steps_hand_room _ _ _ g.start c.args.worker.now c.args.journal.now c.reserve.new.journal c.args.hooks.now c.reserve-2.new.self c.requires.1.0 c.reserve.ensures.same c.reserve.ensures.kept c.reserve-2.ensures.rest)
    (shown_hand _ _ _ g.start _ _ _ _ _ _ c.call_show.ensures.within c.call_show.ensures.adds c.in_ok-reserve.ensures.room)

pub returns-then-is_closed-clause-shows : goal.returns-then-is_closed-clause-shows
returns-then-is_closed-clause-shows g c = Same

pub returns-clause-shows : goal.returns-clause-shows
returns-clause-shows g c = shown_once c.call_show.result g.start _ _ _ _ c.reserve.ensures.same c.call_show.ensures.done

pub returns-then-is_closed-clause-shown : goal.returns-then-is_closed-clause-shown
returns-then-is_closed-clause-shown g c = shut_shows g.start c.args.worker.now c.args.error c.args.journal.now.past c.requires.1.0 (sym c.is_closed.ensures ∙ c.if-is_closed.true)

pub returns-clause-shown : goal.returns-clause-shown
returns-clause-shown g c = open_shows g.start c.args.worker.now c.args.error c.args.journal.now.past c.reserve.new.journal.past _ c.call_show.result c.requires.1.0 (sym c.is_closed.ensures ∙ c.if-is_closed.false) c.reserve.ensures.same c.call_show.ensures.done
