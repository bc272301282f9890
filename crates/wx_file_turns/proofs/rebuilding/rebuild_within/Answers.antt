use Rattle.wx_file_turns.specs.Showing.{NoRebuild, OneMore}
use Rattle.wx_file_turns.proofs.Onward.{steps_none, steps_then}
use Rattle.wx_file_turns.proofs.rebuilding.rebuild_within.Goals as goal

pub loop-round-init : goal.loop-round-init
loop-round-init g c = record { steps = steps_none _ _ _ g.start _ _ _ _ c.requires.1.1.1.0; at_step = c.requires.1.1.1.1; rebuilds = NoRebuild }

pub loop-round-preserved : goal.loop-round-preserved
loop-round-preserved g c = record { steps = steps_then _ _ _ g.start _ _ _ _ _ _ _ _ _ _ _ _ c.loop-round.invariant.steps c.rebuild_once.ensures.steps; at_step = c.in_ok-rebuild_once.ensures.at_step; rebuilds = OneMore _ _ _ _ _ c.loop-round.invariant.rebuilds c.in_ok-rebuild_once.ensures.rebuilds }

pub returns-in_err-rebuild_once-clause-steps : goal.returns-in_err-rebuild_once-clause-steps
returns-in_err-rebuild_once-clause-steps g c = steps_then _ _ _ g.start _ _ _ _ _ _ _ _ _ _ _ _ c.loop-round.invariant.steps c.rebuild_once.ensures.steps

pub returns-then-not-branch-clause-steps : goal.returns-then-not-branch-clause-steps
returns-then-not-branch-clause-steps g c = steps_then _ _ _ g.start _ _ _ _ _ _ _ _ _ _ _ _ c.loop-round.invariant.steps c.rebuild_once.ensures.steps

pub returns-then-not-branch-clause-rebuilds : goal.returns-then-not-branch-clause-rebuilds
returns-then-not-branch-clause-rebuilds g c = OneMore _ _ _ _ _ c.loop-round.invariant.rebuilds c.in_ok-rebuild_once.ensures.rebuilds
