use Rattle.wx_queue.proofs.Keeps.{sends}
use Rattle.wx_queue.proofs.steps.put.Goals as goal

pub push_as-requires-clause-rule : goal.push_as-requires-clause-rule
push_as-requires-clause-rule g c = (sends _ _ _ _ _ c.requires.pass.1 c.requires.pass.2, λ items views h at. tt)
