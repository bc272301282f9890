use Rattle.std.proofs.Common.{◌≡◌, length, map}
use Rattle.wx_recursor.specs.Identities.{guard_known, has_known}
use Rattle.wx_recursor_lists.proofs.identities.has_known_guard.Given as goal

abbrev pub invariant-loop-rest : goal.invariant-loop-rest
invariant-loop-rest l = has_known l.fn.path l.fn.identity (map guard_known l.rest) ≡ has_known l.fn.path l.fn.identity (map guard_known l.fn.guards)

abbrev pub decreases-loop-rest : goal.decreases-loop-rest
decreases-loop-rest l = length l.rest
