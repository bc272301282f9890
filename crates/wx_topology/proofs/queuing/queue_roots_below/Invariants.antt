use Rattle.std.proofs.Common.{◌≡◌, length, ◌++◌}
use Rattle.wx_recursor.specs.Calls.{roots_below}
use Rattle.wx_topology.proofs.queuing.queue_roots_below.Given as goal

abbrev pub invariant-loop-rest : goal.invariant-loop-rest
invariant-loop-rest l = l.queue.items ++ roots_below l.fn.path l.rest ≡ l.fn.queue.items ++ roots_below l.fn.path l.fn.roots

abbrev pub decreases-loop-rest : goal.decreases-loop-rest
decreases-loop-rest l = length l.rest
