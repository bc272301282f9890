use Rattle.std.proofs.Common.{length}
use Rattle.wx_top.proofs.faulty.first_bad.Given as goal

abbrev pub decreases-loop-rest : goal.decreases-loop-rest
decreases-loop-rest l = length l.rest
