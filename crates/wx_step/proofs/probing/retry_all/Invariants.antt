use Rattle.std.proofs.Common.{◌≡◌, length}
use Rattle.wx_recursor.specs.Steps.{retry_all}
use Rattle.wx_holding.specs.Holding.{state_of}
use Rattle.wx_step.proofs.probing.retry_all.Given as goal

abbrev pub invariant-loop-rest : goal.invariant-loop-rest
invariant-loop-rest l = retry_all l.fn.path l.rest (state_of l.held) ≡ retry_all l.fn.path l.fn.roots (state_of l.fn.held)

abbrev pub decreases-loop-rest : goal.decreases-loop-rest
decreases-loop-rest l = length l.rest
