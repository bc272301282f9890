use Rattle.std.proofs.Common.{◌≡◌, length}
use Rattle.wx_topology.specs.Drafts.{is_lifted}
use Rattle.wx_topology.proofs.drafts.is_lifted.Given as goal

abbrev pub invariant-loop-rest : goal.invariant-loop-rest
invariant-loop-rest l = is_lifted l.fn.path l.rest ≡ is_lifted l.fn.path l.fn.lifted

abbrev pub decreases-loop-rest : goal.decreases-loop-rest
decreases-loop-rest l = length l.rest
