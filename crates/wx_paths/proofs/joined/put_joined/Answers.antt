-- The first part stands alone, and each further one behind a slash.
use Rattle.std.proofs.Common.{arith}
use Rattle.std.proofs.lemmas.Grind.{common_steps}
use Rattle.wx_paths.proofs.JoinLemmas.{join_first, join_more}
use Rattle.wx_paths.proofs.joined.put_joined.Goals as goal
use Rattle.wx_paths.proofs.joined.put_joined.Goals.{then-i-gt0+in_ok-push, else-i-gt0}

pub loop-i-preserved : goal.loop-i-preserved
loop-i-preserved c = elim c.if-i-gt0.branch [
  | then-i-gt0+in_ok-push w ↦ grind (arith, common_steps, join_more c.args.separator c.args.parts.now c.loop-i.i)
  | else-i-gt0 w ↦ grind (arith, common_steps, join_first c.args.separator c.args.parts.now)
]
