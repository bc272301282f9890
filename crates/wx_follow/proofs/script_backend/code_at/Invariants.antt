use Rattle.std.proofs.Common.{◌≡◌, length}
use Rattle.wx_follow.specs.Backed.{code_at}
use Rattle.wx_follow.proofs.script_backend.code_at.Given as goal

abbrev pub invariant-loop-rest : goal.invariant-loop-rest
invariant-loop-rest l = code_at l.rest l.fn.call ≡ code_at l.fn.failing l.fn.call

abbrev pub decreases-loop-rest : goal.decreases-loop-rest
decreases-loop-rest l = length l.rest
