use Rattle.std.proofs.Common.{◌≤◌}
use Rattle.wx_lane.specs.Kept.{quiet}
use Rattle.wx_lane.proofs.lane.quiet.Given as goal

abbrev pub invariant-loop-i : goal.invariant-loop-i
invariant-loop-i l = l.i ≤ quiet l.fn.items.items
