use Rattle.std.proofs.Common.{◌≡◌, length, ◌++◌}
use Rattle.wx_recursor.specs.Calls.{owners_at}
use Rattle.wx_topology.specs.Drafts.{spared}
use Rattle.wx_topology.proofs.queuing.owners_at.Given as goal

abbrev pub invariant-loop-rest : goal.invariant-loop-rest
invariant-loop-rest l = l.found.items ++ owners_at l.fn.path (spared l.fn.cleared l.rest) ≡ owners_at l.fn.path (spared l.fn.cleared l.fn.owners)

abbrev pub decreases-loop-rest : goal.decreases-loop-rest
decreases-loop-rest l = length l.rest
