use Rattle.std.proofs.Common.{inl, inr, refl}
use Rattle.wx_file_turns.proofs.Onward.{steps_then}
use Rattle.wx_file_turns.proofs.Shown.{rebuilds_first, rebuilds_then}
use Rattle.wx_file_turns.proofs.rebuilding.rebuild.Goals.{then-branch, else-branch}
use Rattle.wx_file_turns.proofs.rebuilding.rebuild.Goals as goal

pub returns-then-not-branch-clause-rebuilds : goal.returns-then-not-branch-clause-rebuilds
returns-then-not-branch-clause-rebuilds g c = record { last = c.rebuild_once.new.watching; rebuilds = rebuilds_first g.start _ _ _ _ _ c.in_ok-rebuild_once.ensures.rebuilds; rest = inl refl }

-- and more rebuilds
pub returns-in_err-rebuild_within-clause-steps : goal.returns-in_err-rebuild_within-clause-steps
returns-in_err-rebuild_within-clause-steps g c = steps_then _ _ _ g.start _ _ _ _ _ _ _ _ _ _ _ _ c.rebuild_once.ensures.steps c.rebuild_within.ensures.steps

pub returns-clause-steps : goal.returns-clause-steps
returns-clause-steps g c = steps_then _ _ _ g.start _ _ _ _ _ _ _ _ _ _ _ _ c.rebuild_once.ensures.steps c.rebuild_within.ensures.steps

pub returns-clause-rebuilds : goal.returns-clause-rebuilds
returns-clause-rebuilds g c =
    let all = rebuilds_then g.start _ _ _ _ _ _ (rebuilds_first g.start _ _ _ _ _ c.in_ok-rebuild_once.ensures.rebuilds) c.in_ok-rebuild_within.ensures.rebuilds in
    elim c.if-branch.branch [
      | then-branch w ↦ record { last = c.rebuild_within.new.watching; rebuilds = all; rest = inr (rw w.watching-is w.defer_replay.ensures.state) }
      | else-branch w ↦ record { last = c.rebuild_within.new.watching; rebuilds = all; rest = inl (rw w.watching-is refl) }
    ]
