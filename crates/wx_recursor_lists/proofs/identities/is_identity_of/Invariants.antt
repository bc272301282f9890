use Rattle.std.proofs.Common.{◌≡◌, length}
use Rattle.wx_recursor.specs.Identities.{identity_of, is_identity}
use Rattle.wx_recursor_lists.proofs.identities.is_identity_of.Given as goal

abbrev pub invariant-loop-rest : goal.invariant-loop-rest
invariant-loop-rest l = is_identity l.fn.identity (identity_of l.fn.path l.rest) ≡ is_identity l.fn.identity (identity_of l.fn.path l.fn.known)

abbrev pub decreases-loop-rest : goal.decreases-loop-rest
decreases-loop-rest l = length l.rest
