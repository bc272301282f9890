use Rattle.std.proofs.Common.{◌≡◌, length, ◌++◌}
use Rattle.wx_recursor.specs.Steps.{candidates_of}
use Rattle.wx_step.proofs.probing.queue_candidates.Given as goal

abbrev pub invariant-loop-rest : goal.invariant-loop-rest
invariant-loop-rest l = l.queue.items ++ candidates_of l.fn.path l.rest ≡ l.fn.queue.items ++ candidates_of l.fn.path l.fn.roots

abbrev pub decreases-loop-rest : goal.decreases-loop-rest
decreases-loop-rest l = length l.rest
