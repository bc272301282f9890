use Rattle.std.proofs.Common.{◌≡◌, length}
use Rattle.wx_recursor.specs.Owners.{has_root}
use Rattle.wx_recursor_lists.proofs.owners.has_root.Given as goal

abbrev pub invariant-loop-rest : goal.invariant-loop-rest
invariant-loop-rest l = has_root l.fn.root l.rest ≡ has_root l.fn.root l.fn.roots

abbrev pub decreases-loop-rest : goal.decreases-loop-rest
decreases-loop-rest l = length l.rest
