use Rattle.std.proofs.Common.{◌≡◌, drop}
use Rattle.wx_lane.specs.Lanes.{fenced}
use Rattle.wx_lane.proofs.lane.fenced.Given as goal

abbrev pub invariant-loop-i : goal.invariant-loop-i
invariant-loop-i l = fenced l.fn.below l.fn.items.items ≡ fenced l.fn.below (drop l.i l.fn.items.items)
