use Rattle.std.proofs.Common.{ap, None}
use Rattle.wx_file_turns.proofs.Journals.{follows_adds}
use Rattle.wx_file_turns.proofs.Onward.{onward_leaves, steps_by_hand, steps_then}
use Rattle.wx_file_turns.proofs.Rebuilt.{at_step_still, work_worth}
use Rattle.wx_file_turns.proofs.Shown.{step_shows}
use Rattle.wx_file_turns.proofs.Walks.{worked}
use Rattle.wx_file_turns.proofs.stepping.work.Goals as goal

pub returns-in_err-show_errors-clause-steps : goal.returns-in_err-show_errors-clause-steps
returns-in_err-show_errors-clause-steps g c = steps_then _ _ _ g.start _ _ _ _ _ _ _ _ _ _ _ _ c.take_step.ensures.steps (steps_by_hand _ _ _ g.start _ _ _ _ _ _ _ c.show_errors.ensures.hand)

-- where a rebuild is asked for
pub rebuild_where-requires : goal.rebuild_where-requires
rebuild_where-requires g c = λ κs lives. (lives.0, (lives.1.0, (lives.1.1, (c.show_errors.ensures.hand.grows.stands, at_step_still g.start _ _ _ c.in_ok-shown.ensures.at_step c.show_errors.ensures.hand.leaves c.in_ok-show_errors.ensures.stepping))))

pub returns-clause-steps : goal.returns-clause-steps
returns-clause-steps g c = steps_then _ _ _ g.start _ _ _ _ _ _ _ _ _ _ _ _ (steps_then _ _ _ g.start _ _ _ _ _ _ _ _ _ _ _ _ c.take_step.ensures.steps (steps_by_hand _ _ _ g.start _ _ _ _ _ _ _ c.show_errors.ensures.hand)) c.rebuild_where.ensures.steps

pub returns-clause-worthwhile : goal.returns-clause-worthwhile
returns-clause-worthwhile g c = work_worth c.rebuild_where.result _ _ _ _ _ _ _ _ _ _ c.in_ok-shown.ensures.worthwhile c.take_step.ensures.steps.onward (onward_leaves g.start _ _ _ c.show_errors.ensures.hand.leaves) c.rebuild_where.ensures.steps.onward c.rebuild_where.ensures.work c.rebuild_where.ensures.none

pub returns-clause-shown : goal.returns-clause-shown
returns-clause-shown g c = step_shows g.start c.args.watching.now c.take_step.new.watching c.rebuild_where.new.watching _ _ c.args.journal.now.past _ _ _ c.rebuild_where.result c.in_ok-shown.ensures.tells c.take_step.ensures.dirs c.in_ok-show_errors.ensures.all c.rebuild_where.ensures.rebuilds

-- ---- where nothing fails

pub returns-clause-walks : goal.returns-clause-walks
returns-clause-walks g c = λ t ok calm shows h work.
    let shown = c.show_errors.ensures.hand.grows.adds.follows None in
    let rebuilt = c.rebuild_where.ensures.steps.attends.serves in
    worked _ _ t ok g.start c.args.journal.now.past c.take_step.new.journal.past c.show_errors.new.journal.past c.rebuild_where.new.journal.past _ _ _ c.take_step.new.watching c.rebuild_where.new.watching _ _ c.rebuild_where.result (follows_adds g.start _ _ _ _ _ _ shown) (follows_adds g.start _ _ _ _ _ _ rebuilt.follows) rebuilt.steady.looked_kept.faults_kept c.take_step.ensures.dirs c.in_ok-show_errors.ensures.shows c.rebuild_where.ensures.none (λ asked. ap (λ j. j.past) (c.rebuild_where.ensures.still asked)) calm shows (λ first. c.in_ok-shown.ensures.walks t ok first h work)
