use Rattle.std.proofs.Common.{◌≡◌, length}
use Rattle.wx_recursor.specs.Calls.{removed_one, for_each}
use Rattle.wx_holding.specs.Holding.{state_of}
use Rattle.wx_topology.specs.Drafts.{drafted}
use Rattle.wx_topology.proofs.changes.remove_each.Given as goal

abbrev pub invariant-loop-rest : goal.invariant-loop-rest
invariant-loop-rest l = for_each removed_one l.rest (drafted (state_of l.fn.held) l.draft) ≡ for_each removed_one l.fn.paths (drafted (state_of l.fn.held) l.fn.draft)

abbrev pub decreases-loop-rest : goal.decreases-loop-rest
decreases-loop-rest l = length l.rest
