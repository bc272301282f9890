use Rattle.std.proofs.Common.{◌≡◌, ◌++◌, take, drop}
use Rattle.wx_lane.specs.Lanes.{hear}
use Rattle.wx_lane.proofs.lane.place_any.Given as goal

abbrev pub invariant-loop-i : goal.invariant-loop-i
invariant-loop-i l = hear l.fn.name l.fn.items.items ≡ take l.i l.fn.items.items ++ hear l.fn.name (drop l.i l.fn.items.items)
