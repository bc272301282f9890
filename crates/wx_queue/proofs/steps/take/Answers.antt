use Rattle.wx_queue.proofs.Keeps.{gets, learns}
use Rattle.wx_queue.proofs.steps.take.Goals as goal

pub pop_as-requires-clause-rule : goal.pop_as-requires-clause-rule
pop_as-requires-clause-rule g c = (gets _ _ _ c.requires.pass.1, learns _ _ _ c.requires.pass.1)
