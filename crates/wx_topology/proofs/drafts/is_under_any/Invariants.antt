use Rattle.std.proofs.Common.{◌≡◌, length}
use Rattle.wx_recursor.specs.Rebuilds.{is_under_any}
use Rattle.wx_topology.proofs.drafts.is_under_any.Given as goal

abbrev pub invariant-loop-rest : goal.invariant-loop-rest
invariant-loop-rest l = is_under_any l.fn.path l.rest ≡ is_under_any l.fn.path l.fn.paths

abbrev pub decreases-loop-rest : goal.decreases-loop-rest
decreases-loop-rest l = length l.rest
