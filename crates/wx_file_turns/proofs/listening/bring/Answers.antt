use Rattle.wx_file_turns.proofs.Listened.{brought_put, listed_let_go, listed_room}
use Rattle.wx_file_turns.proofs.listening.bring.Goals as goal

-- there is room for it
pub returns-then-branch-clause-listed : goal.returns-then-branch-clause-listed
returns-then-branch-clause-listed c = listed_room c.args.intake.now.lane _ c.args.answer _ c.args.item c.args.back c.args.journal.now.past _ c.in_ok-copied.ensures c.in_ok-put.ensures.room c.if-branch.true c.push.ensures.past

pub returns-then-branch-clause-brought : goal.returns-then-branch-clause-brought
returns-then-branch-clause-brought c = brought_put c.args.intake.now _ c.args.item c.args.back _ c.args.answer c.in_ok-copied.ensures c.in_ok-put.ensures.lane

-- or isn't
pub returns-clause-listed : goal.returns-clause-listed
returns-clause-listed c = listed_let_go c.args.intake.now.lane _ c.args.answer _ c.args.item c.args.back c.args.journal.now.past _ _ c.in_ok-copied.ensures c.in_ok-put.ensures.room c.if-branch.false c.push.ensures.past c.push-2.ensures.past

pub returns-clause-brought : goal.returns-clause-brought
returns-clause-brought c = brought_put c.args.intake.now _ c.args.item c.args.back _ c.args.answer c.in_ok-copied.ensures c.in_ok-put.ensures.lane
