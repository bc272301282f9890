use Rattle.std.proofs.Common.{◌≡◌, length}
use Rattle.wx_lane.specs.Public.{is_of_any, named}
use Rattle.wx_lane.proofs.public.is_of_any.Given as goal

abbrev pub invariant-loop-rest : goal.invariant-loop-rest
invariant-loop-rest l = is_of_any l.rest (named l.fn.folder l.fn.path) ≡ is_of_any l.fn.roots (named l.fn.folder l.fn.path)

abbrev pub decreases-loop-rest : goal.decreases-loop-rest
decreases-loop-rest l = length l.rest
