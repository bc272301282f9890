use Rattle.std.proofs.Common.{◌≡◌, ◌++◌, length}
use Rattle.wx_lane.specs.Messages.{each, message}
use Rattle.wx_lane.proofs.topology.put_each.Given as goal

abbrev pub invariant-loop-rest : goal.invariant-loop-rest
invariant-loop-rest l = l.out ++ each (message l.said) l.rest ≡ l.fn.out ++ each (message l.fn.said) l.fn.paths

abbrev pub decreases-loop-rest : goal.decreases-loop-rest
decreases-loop-rest l = length l.rest
