use Rattle.std.proofs.Common.{rules}
use Rattle.wx_job.proofs.Sets.{steps}
use Rattle.wx_job.proofs.task.JobTask.call_hook.Goals as goal

pub returns-in-Ok-clause-called : goal.returns-in-Ok-clause-called
returns-in-Ok-clause-called g c = record { stood = search (rules, steps); keeps = search (rules, steps); now = search (rules, steps); in_journal = search (rules, steps); in_hooks = search (rules, steps) }

pub returns-in-Err-clause-called : goal.returns-in-Err-clause-called
returns-in-Err-clause-called g c = record { stood = search (rules, steps); keeps = search (rules, steps); now = search (rules, steps); in_journal = search (rules, steps); in_hooks = search (rules, steps) }
