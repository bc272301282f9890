use Rattle.std.proofs.Common.{◌≡◌, length, ◌++◌}
use Rattle.wx_recursor.specs.Calls.{each_once}
use Rattle.wx_topology.proofs.aliases.each_once.Given as goal

abbrev pub invariant-loop-rest : goal.invariant-loop-rest
invariant-loop-rest l = l.out.items ++ each_once l.rest ≡ each_once l.fn.paths

abbrev pub decreases-loop-rest : goal.decreases-loop-rest
decreases-loop-rest l = length l.rest
