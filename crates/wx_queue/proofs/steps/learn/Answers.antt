use Rattle.wx_queue.proofs.Keeps.{learns}
use Rattle.wx_queue.proofs.steps.learn.Goals as goal

pub learn_as-requires-clause-rule : goal.learn_as-requires-clause-rule
learn_as-requires-clause-rule g c = learns _ _ _ c.requires.pass.1
