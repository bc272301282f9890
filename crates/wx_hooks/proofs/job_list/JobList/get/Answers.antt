use Rattle.std.proofs.Common.{ap, ◌∙◌}
use Rattle.std.specs.List.{find}
use Rattle.wx_hooks.specs.HeldJobs.{is_of}
use Rattle.wx_hooks.proofs.ByIdLemmas.{found_by_id}
use Rattle.wx_hooks.proofs.job_list.JobList.get.Goals as goal

pub returns : goal.returns
returns c = c.get.ensures.value ∙ found_by_id c.args.id c.self.inside.items.entries c.self.invariant ∙ ap (find (is_of c.args.id)) c.self.view_is
