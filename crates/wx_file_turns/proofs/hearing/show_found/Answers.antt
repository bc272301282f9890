use Rattle.std.proofs.Common.{inl, refl, sym, ◌∙◌}
use Rattle.wx_file_turns.proofs.Hearings.{closed_open, fault_shows}
use Rattle.wx_file_turns.proofs.Onward.{hand_none}
use Rattle.wx_file_turns.proofs.hearing.show_found.Goals as goal

-- the queue is closed
pub returns-then-is_closed-clause-hand : goal.returns-then-is_closed-clause-hand
returns-then-is_closed-clause-hand g c = hand_none _ _ _ g.start _ _ _ c.requires.1.0.stands

pub returns-then-is_closed-clause-served : goal.returns-then-is_closed-clause-served
returns-then-is_closed-clause-served g c = closed_open g.start c.args.worker.now c.args.journal.now.past c.args.kind c.args.fault c.requires.1.0 (sym c.is_closed.ensures ∙ c.if-is_closed.true)

pub returns-then-is_closed-clause-adds : goal.returns-then-is_closed-clause-adds
returns-then-is_closed-clause-adds g c = inl refl

-- or isn't, and there was no memory for the error
pub returns-in_err-err-clause-hand : goal.returns-in_err-err-clause-hand
returns-in_err-err-clause-hand g c = hand_none _ _ _ g.start _ _ _ c.requires.1.0.stands

pub returns-in_err-err-clause-adds : goal.returns-in_err-err-clause-adds
returns-in_err-err-clause-adds g c = inl refl

-- or it was made
pub show_owed-requires : goal.show_owed-requires
show_owed-requires g c = λ κs lives. (lives, (fault_shows g.start c.args.worker.now c.args.journal.now.past c.args.kind c.args.fault c.in_ok-err.err c.in_ok-err.ensures c.requires.1.0 (sym c.is_closed.ensures ∙ c.if-is_closed.false), c.requires.1.1))
