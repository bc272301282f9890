use Rattle.std.proofs.Common.{◌≡◌, length, ◌++◌}
use Rattle.std.specs.Prelude.{◌&&◌, filter}
use Rattle.wx_recursor.specs.Steps.{candidates_of, owns_parent}
use Rattle.wx_topology.specs.Drafts.{spared}
use Rattle.wx_topology.proofs.queuing.queue_asked.Given as goal

abbrev pub invariant-loop-rest : goal.invariant-loop-rest
invariant-loop-rest l = l.queue.items ++ candidates_of l.fn.path (filter (λ r. r.recursive && owns_parent r l.fn.path (spared l.fn.cleared l.fn.owners)) l.rest) ≡ l.fn.queue.items ++ candidates_of l.fn.path (filter (λ r. r.recursive && owns_parent r l.fn.path (spared l.fn.cleared l.fn.owners)) l.fn.roots)

abbrev pub decreases-loop-rest : goal.decreases-loop-rest
decreases-loop-rest l = length l.rest
