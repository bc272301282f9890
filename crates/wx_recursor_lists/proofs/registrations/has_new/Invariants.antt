use Rattle.std.proofs.Common.{◌≡◌, length}
use Rattle.wx_recursor.specs.Steps.{has_new}
use Rattle.wx_recursor_lists.proofs.registrations.has_new.Given as goal

abbrev pub invariant-loop-rest : goal.invariant-loop-rest
invariant-loop-rest l = has_new l.rest l.fn.old ≡ has_new l.fn.paths l.fn.old

abbrev pub decreases-loop-rest : goal.decreases-loop-rest
decreases-loop-rest l = length l.rest
