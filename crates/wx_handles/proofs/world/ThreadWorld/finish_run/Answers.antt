use Rattle.std.proofs.Common.{◌∙◌}
use Rattle.std.proofs.lemmas.Result.{IfOk-weaker}
use Rattle.wx_handles.proofs.Items.{items_listed}
use Rattle.wx_handles.proofs.world.ThreadWorld.finish_run.Goals as goal

pub returns-clause-items : goal.returns-clause-items
returns-clause-items g c = IfOk-weaker c.finish.result _ (λ g. _) (λ given t. items_listed c.args._journal.now.past t.0 _ c.requires.ran t.1 ∙ t.2) c.finish.ensures.turns
