use Rattle.std.proofs.Common.{sym, ◌∙◌}
use Rattle.wx_hooks.proofs.JobListLemmas.{living_gone, living_here}
use Rattle.wx_hooks.proofs.job_list.push_living.Goals as goal

pub returns-then-not-is_here : goal.returns-then-not-is_here
returns-then-not-is_here c = living_gone c.args.held.now c.args.ids.now.items (sym c.is_here.ensures ∙ c.if-not-is_here.true)

pub returns : goal.returns
returns c = c.in_ok-push.ensures.items ∙ living_here c.args.held.now _ c.args.ids.now.items (sym c.is_here.ensures ∙ c.if-not-is_here.false) c.id-id.ensures
