use Rattle.std.proofs.Common.{◌≡◌, length, ◌++◌}
use Rattle.wx_recursor.specs.Steps.{lost_paths}
use Rattle.wx_index.proofs.serving.lost_paths.Given as goal

abbrev pub invariant-loop-rest : goal.invariant-loop-rest
invariant-loop-rest l = l.lost.items ++ lost_paths l.fn.known l.fn.guards l.rest ≡ lost_paths l.fn.known l.fn.guards l.fn.registrations

abbrev pub decreases-loop-rest : goal.decreases-loop-rest
decreases-loop-rest l = length l.rest
