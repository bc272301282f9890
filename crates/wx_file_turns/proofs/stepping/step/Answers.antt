use Rattle.wx_file_turns.proofs.Journals.{few_still, follows_adds}
use Rattle.wx_file_turns.proofs.Onward.{attends_grown, attends_then}
use Rattle.wx_file_turns.proofs.Walks.{stepped_walks}
use Rattle.wx_file_turns.proofs.Steps.{brought_stepped}
use Rattle.wx_file_turns.proofs.Settled.{ok_never}
use Rattle.wx_file_turns.proofs.stepping.step.Goals as goal

pub returns-clause-attends : goal.returns-clause-attends
returns-clause-attends g c = attends_then _ _ _ g.start _ _ _ _ _ _ _ _ _ _ _ _ c.work.ensures.steps.attends (attends_grown _ _ _ g.start _ _ _ _ _ c.say.ensures.grows)

pub returns-clause-done : goal.returns-clause-done
returns-clause-done g c = record { worked = c.work.new.journal.past; shows = c.in_ok-work.ensures.shown; said = c.in_ok-say.ensures.said }

-- ---- where nothing fails

pub returns-in_err-work-clause-walks : goal.returns-in_err-work-clause-walks
returns-in_err-work-clause-walks g c = λ t ok calm few shows h work. (few_still g.start t _ _ (follows_adds g.start _ _ _ _ _ _ c.work.ensures.steps.attends.serves.follows) c.work.ensures.steps.onward.steps_kept few, ok_never c.from_residual.result _ _ c.from_residual.ensures.1)

pub returns-in_err-say-clause-walks : goal.returns-in_err-say-clause-walks
returns-in_err-say-clause-walks g c = λ t ok calm few shows h work. (rw c.in_err-say.ensures.err (few_still g.start t _ _ (follows_adds g.start _ _ _ _ _ _ c.work.ensures.steps.attends.serves.follows) c.work.ensures.steps.onward.steps_kept few), ok_never c.from_residual-in_err-say.result _ _ c.from_residual-in_err-say.ensures.1)

pub returns-clause-walks : goal.returns-clause-walks
returns-clause-walks g c = λ t ok calm few shows h work.
    stepped_walks _ _ t ok g.start c.args.journal.now.past c.work.new.journal.past c.say.new.journal.past _ _ c.work.new.watching c.say.result (follows_adds g.start _ _ _ _ _ _ c.work.ensures.steps.attends.serves.follows) c.work.ensures.steps.onward.steps_kept c.in_ok-say.ensures.said calm few (λ before. c.in_ok-work.ensures.walks t ok before shows h work)

pub returns-clause-brought : goal.returns-clause-brought
returns-clause-brought g c = brought_stepped g.start c.args.journal.now.past _ _ c.work.ensures.steps.brought c.in_ok-say.ensures.said
