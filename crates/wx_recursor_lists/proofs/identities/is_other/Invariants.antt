use Rattle.std.proofs.Common.{◌≡◌, length}
use Rattle.wx_recursor.specs.Identities.{is_other}
use Rattle.wx_recursor_lists.proofs.identities.is_other.Given as goal

abbrev pub invariant-loop-rest : goal.invariant-loop-rest
invariant-loop-rest l = is_other l.fn.path l.fn.identity l.rest ≡ is_other l.fn.path l.fn.identity l.fn.known

abbrev pub decreases-loop-rest : goal.decreases-loop-rest
decreases-loop-rest l = length l.rest
