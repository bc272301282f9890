use Rattle.std.proofs.Common.{◌≡◌, length}
use Rattle.wx_recursor.specs.Owners.{has_owner}
use Rattle.wx_recursor_lists.proofs.owners.has_owner.Given as goal

abbrev pub invariant-loop-rest : goal.invariant-loop-rest
invariant-loop-rest l = has_owner l.fn.path l.rest ≡ has_owner l.fn.path l.fn.owners

abbrev pub decreases-loop-rest : goal.decreases-loop-rest
decreases-loop-rest l = length l.rest
