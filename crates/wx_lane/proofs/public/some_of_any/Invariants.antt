use Rattle.std.proofs.Common.{◌≡◌, length}
use Rattle.wx_lane.specs.Public.{some_of_any}
use Rattle.wx_lane.proofs.public.some_of_any.Given as goal

abbrev pub invariant-loop-rest : goal.invariant-loop-rest
invariant-loop-rest l = some_of_any l.fn.folder l.fn.roots l.rest ≡ some_of_any l.fn.folder l.fn.roots l.fn.paths

abbrev pub decreases-loop-rest : goal.decreases-loop-rest
decreases-loop-rest l = length l.rest
