use Rattle.wx_queue.proofs.Keeps.{learns}
use Rattle.wx_queue.proofs.steps.count.Goals as goal

pub len_as-requires-clause-rule : goal.len_as-requires-clause-rule
len_as-requires-clause-rule g c = learns _ _ _ c.requires.pass.1
