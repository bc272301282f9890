use Rattle.std.proofs.Common.{◌≡◌, ◌++◌, length}
use Rattle.wx_lane.specs.FileEvents.{path_tags}
use Rattle.wx_lane.proofs.event.put_paths.Given as goal

abbrev pub invariant-loop-rest : goal.invariant-loop-rest
invariant-loop-rest l = l.tags ++ path_tags l.rest ≡ l.fn.tags ++ path_tags l.fn.paths

abbrev pub decreases-loop-rest : goal.decreases-loop-rest
decreases-loop-rest l = length l.rest
