use Rattle.std.proofs.Common.{◌≡◌, ◌++◌}
use Rattle.wx_hooks.specs.HeldJobs.{living_ids}
use Rattle.wx_hooks.proofs.job_list.JobList.living.Given as goal

abbrev pub invariant-loop-held : goal.invariant-loop-held
invariant-loop-held l = l.ids.items ++ living_ids l.held-iterator ≡ living_ids l.self
