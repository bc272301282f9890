use Rattle.std.proofs.Common.{◌≡◌, length, map}
use Rattle.wx_recursor.specs.Identities.{guard_known, has_identity}
use Rattle.wx_recursor_lists.proofs.identities.has_guard_identity.Given as goal

abbrev pub invariant-loop-rest : goal.invariant-loop-rest
invariant-loop-rest l = has_identity l.fn.identity (map guard_known l.rest) ≡ has_identity l.fn.identity (map guard_known l.fn.guards)

abbrev pub decreases-loop-rest : goal.decreases-loop-rest
decreases-loop-rest l = length l.rest
