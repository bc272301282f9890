use Rattle.std.proofs.Common.{◌≡◌, length, map}
use Rattle.wx_recursor.specs.Identities.{guard_known, is_other}
use Rattle.wx_recursor_lists.proofs.identities.is_other_guard.Given as goal

abbrev pub invariant-loop-rest : goal.invariant-loop-rest
invariant-loop-rest l = is_other l.fn.path l.fn.identity (map guard_known l.rest) ≡ is_other l.fn.path l.fn.identity (map guard_known l.fn.guards)

abbrev pub decreases-loop-rest : goal.decreases-loop-rest
decreases-loop-rest l = length l.rest
