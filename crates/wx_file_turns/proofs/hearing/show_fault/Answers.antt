use Rattle.std.proofs.Common.{inl, refl}
use Rattle.wx_file_turns.proofs.Hearings.{found_owed, none_open}
use Rattle.wx_file_turns.proofs.Onward.{hand_none}
use Rattle.wx_file_turns.proofs.hearing.show_fault.Goals as goal

-- it is none
pub returns-in-None-clause-hand : goal.returns-in-None-clause-hand
returns-in-None-clause-hand g c = hand_none _ _ _ g.start _ _ _ c.requires.1.0.stands

pub returns-in-None-clause-served : goal.returns-in-None-clause-served
returns-in-None-clause-served g c = none_open g.start c.args.journal.now.past _ c.args.kind c.args.fault c.requires.1.0.due c.in-None.is

pub returns-in-None-clause-adds : goal.returns-in-None-clause-adds
returns-in-None-clause-adds g c = inl refl

-- or is one
pub show_found-requires : goal.show_found-requires
show_found-requires g c = λ κs lives. (lives, (found_owed g.start c.args.worker.now c.args.journal.now.past _ c.args.kind c.args.fault c.in-Some.fault c.requires.1.0 c.in-Some.is, c.requires.1.1))
