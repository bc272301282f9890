use Rattle.std.proofs.Common.{arith}
use Rattle.wx_file_turns.proofs.Rests.{gone_grows, none_grows}
use Rattle.wx_file_turns.proofs.Steps.{rest_due}
use Rattle.wx_file_turns.proofs.resting.let_go.Goals as goal

pub returns-in_err-reserve-clause-grows : goal.returns-in_err-reserve-clause-grows
returns-in_err-reserve-clause-grows g c = none_grows g.start c.args.worker.now c.args.journal.now _ c.requires.0.stands c.reserve.ensures.same c.reserve.ensures.kept

pub returns-clause-grows : goal.returns-clause-grows
returns-clause-grows g c = gone_grows g.start c.args.worker.now c.args.journal.now _ c.args.item c.args.cause c.requires.0.stands c.requires.1.1 (rest_due g.start c.args.journal.now.past _ c.requires.0.due c.requires.1.0) (rw c.reserve.ensures.same at c.push.ensures.past) (omega (arith, c.in_ok-reserve.ensures.room, c.push.ensures.room))
