use Rattle.std.proofs.Common.{◌≡◌, length}
use Rattle.wx_recursor_lists.specs.Met.{has_seen}
use Rattle.wx_recursor_lists.proofs.owners.has_seen.Given as goal

abbrev pub invariant-loop-rest : goal.invariant-loop-rest
invariant-loop-rest l = has_seen l.fn.root l.fn.path l.rest ≡ has_seen l.fn.root l.fn.path l.fn.owners

abbrev pub decreases-loop-rest : goal.decreases-loop-rest
decreases-loop-rest l = length l.rest
