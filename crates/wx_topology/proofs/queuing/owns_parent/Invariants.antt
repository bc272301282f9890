use Rattle.std.proofs.Common.{◌≡◌, length}
use Rattle.wx_recursor.specs.Steps.{owns_parent}
use Rattle.wx_topology.specs.Drafts.{spared}
use Rattle.wx_topology.proofs.queuing.owns_parent.Given as goal

abbrev pub invariant-loop-rest : goal.invariant-loop-rest
invariant-loop-rest l = owns_parent l.fn.root l.fn.path (spared l.fn.cleared l.rest) ≡ owns_parent l.fn.root l.fn.path (spared l.fn.cleared l.fn.owners)

abbrev pub decreases-loop-rest : goal.decreases-loop-rest
decreases-loop-rest l = length l.rest
