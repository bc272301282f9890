use Rattle.std.proofs.Common.{◌≡◌, length}
use Rattle.wx_recursor.specs.Identities.{has_known}
use Rattle.wx_recursor_lists.proofs.identities.has_known.Given as goal

abbrev pub invariant-loop-rest : goal.invariant-loop-rest
invariant-loop-rest l = has_known l.fn.path l.fn.identity l.rest ≡ has_known l.fn.path l.fn.identity l.fn.known

abbrev pub decreases-loop-rest : goal.decreases-loop-rest
decreases-loop-rest l = length l.rest
