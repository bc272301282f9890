use Rattle.wx_queue.proofs.Keeps.{forks}
use Rattle.wx_queue.proofs.steps.deal.Goals as goal

pub another-requires-clause-rule : goal.another-requires-clause-rule
another-requires-clause-rule g c = forks _ _ _ c.requires.pass.1
