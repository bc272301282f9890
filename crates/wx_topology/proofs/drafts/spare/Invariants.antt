use Rattle.std.proofs.Common.{◌≡◌, length}
use Rattle.wx_topology.specs.Drafts.{spared}
use Rattle.wx_topology.proofs.drafts.spare.Given as goal

abbrev pub invariant-loop-rest : goal.invariant-loop-rest
invariant-loop-rest l = spared l.rest l.owners ≡ spared l.fn.cleared l.fn.owners

abbrev pub decreases-loop-rest : goal.decreases-loop-rest
decreases-loop-rest l = length l.rest
