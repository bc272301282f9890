use Rattle.std.proofs.Common.{◌≡◌, length, ◌++◌}
use Rattle.wx_recursor.specs.Calls.{paths_of}
use Rattle.wx_topology.proofs.aliases.put_paths_of.Given as goal

abbrev pub invariant-loop-rest : goal.invariant-loop-rest
invariant-loop-rest l = l.out.items ++ paths_of l.fn.identity l.rest ≡ l.fn.out.items ++ paths_of l.fn.identity l.fn.known

abbrev pub decreases-loop-rest : goal.decreases-loop-rest
decreases-loop-rest l = length l.rest
