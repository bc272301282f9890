use Rattle.std.proofs.Common.{◌≡◌, ◌++◌, length}
use Rattle.wx_top.specs.Requests.{ignores_in}
use Rattle.wx_top.proofs.commanding.ignores_in.Given as goal

abbrev pub invariant-loop-rest : goal.invariant-loop-rest
invariant-loop-rest l = l.lines ++ ignores_in l.rest ≡ ignores_in l.words

abbrev pub decreases-loop-rest : goal.decreases-loop-rest
decreases-loop-rest l = length l.rest
