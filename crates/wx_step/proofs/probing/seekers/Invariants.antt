use Rattle.std.proofs.Common.{◌≡◌, length, ◌++◌}
use Rattle.wx_recursor.specs.Steps.{seekers}
use Rattle.wx_step.proofs.probing.seekers.Given as goal

abbrev pub invariant-loop-rest : goal.invariant-loop-rest
invariant-loop-rest l = l.found.items ++ seekers l.fn.path l.fn.owned l.rest l.fn.owners ≡ seekers l.fn.path l.fn.owned l.fn.roots l.fn.owners

abbrev pub decreases-loop-rest : goal.decreases-loop-rest
decreases-loop-rest l = length l.rest
