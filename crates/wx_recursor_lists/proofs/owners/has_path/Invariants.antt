use Rattle.std.proofs.Common.{◌≡◌, length}
use Rattle.wx_recursor.specs.Owners.{has_path}
use Rattle.wx_recursor_lists.proofs.owners.has_path.Given as goal

abbrev pub invariant-loop-rest : goal.invariant-loop-rest
invariant-loop-rest l = has_path l.fn.path l.rest ≡ has_path l.fn.path l.fn.paths

abbrev pub decreases-loop-rest : goal.decreases-loop-rest
decreases-loop-rest l = length l.rest
