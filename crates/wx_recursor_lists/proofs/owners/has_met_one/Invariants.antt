use Rattle.std.proofs.Common.{◌≡◌, length}
use Rattle.wx_recursor_lists.specs.Met.{has_met_one}
use Rattle.wx_recursor_lists.proofs.owners.has_met_one.Given as goal

abbrev pub invariant-loop-rest : goal.invariant-loop-rest
invariant-loop-rest l = has_met_one l.fn.root l.fn.identity l.fn.known l.fn.owners l.rest ≡ has_met_one l.fn.root l.fn.identity l.fn.known l.fn.owners l.fn.known

abbrev pub decreases-loop-rest : goal.decreases-loop-rest
decreases-loop-rest l = length l.rest
