use Rattle.std.proofs.Common.{◌≡◌, length, ◌++◌}
use Rattle.wx_recursor.specs.Calls.{guards_below}
use Rattle.wx_topology.proofs.queuing.queue_guards_below.Given as goal

abbrev pub invariant-loop-rest : goal.invariant-loop-rest
invariant-loop-rest l = l.queue.items ++ guards_below l.fn.path l.rest ≡ l.fn.queue.items ++ guards_below l.fn.path l.fn.guards

abbrev pub decreases-loop-rest : goal.decreases-loop-rest
decreases-loop-rest l = length l.rest
