use Rattle.std.proofs.Common.{◌≡◌, length, ◌++◌}
use Rattle.wx_rebuild.proofs.standing.put_known.Given as goal

abbrev pub invariant-loop-rest : goal.invariant-loop-rest
invariant-loop-rest l = l.out.items ++ l.rest ≡ l.fn.out.items ++ l.fn.known

abbrev pub decreases-loop-rest : goal.decreases-loop-rest
decreases-loop-rest l = length l.rest
