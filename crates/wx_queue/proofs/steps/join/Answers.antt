use Rattle.wx_queue.proofs.Keeps.{merges}
use Rattle.wx_queue.proofs.steps.join.Goals as goal

pub absorb-requires-clause-rule : goal.absorb-requires-clause-rule
absorb-requires-clause-rule g c = merges _ _ _ _ _ c.requires.pass.2 c.requires.pass.3
