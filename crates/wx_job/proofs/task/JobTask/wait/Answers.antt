use Rattle.std.proofs.Common.{rules}
use Rattle.wx_job.proofs.Sets.{steps}
use Rattle.wx_job.proofs.task.JobTask.wait.Goals as goal

pub returns-in-Ok-clause-ok : goal.returns-in-Ok-clause-ok
returns-in-Ok-clause-ok g c = search (rules, steps)

pub returns-in-Ok-clause-served : goal.returns-in-Ok-clause-served
returns-in-Ok-clause-served g c = record { stood = search (rules, steps); keeps = search (rules, steps); uses = search (rules, steps) }

pub returns-in-Err-clause-err : goal.returns-in-Err-clause-err
returns-in-Err-clause-err g c = search (rules, steps)

pub returns-in-Err-clause-served : goal.returns-in-Err-clause-served
returns-in-Err-clause-served g c = record { stood = search (rules, steps); keeps = search (rules, steps); uses = search (rules, steps) }
