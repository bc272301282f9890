use Rattle.std.proofs.Common.{ap, ◌∙◌}
use Rattle.wx_hooks.specs.Todo.{held_by}
use Rattle.wx_hooks.proofs.handler.created_under.Goals as goal

pub returns-in-Some : goal.returns-in-Some
returns-in-Some c = c.held_by.ensures ∙ ap held_by c.in-Some.ensures
