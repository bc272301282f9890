use Rattle.std.proofs.Common.{rules}
use Rattle.wx_job.proofs.Sets.{steps}
use Rattle.wx_job.proofs.task.JobTask.kill.Goals as goal

pub returns-in-Err-clause-err : goal.returns-in-Err-clause-err
returns-in-Err-clause-err g c = search (rules, steps)

pub returns-in-Err-clause-served : goal.returns-in-Err-clause-served
returns-in-Err-clause-served g c = record { stood = search (rules, steps); keeps = search (rules, steps); uses = search (rules, steps) }

pub returns-clause-ok : goal.returns-clause-ok
returns-clause-ok g c = search (rules, steps)

pub returns-clause-served : goal.returns-clause-served
returns-clause-served g c = record { stood = search (rules, steps); keeps = search (rules, steps); uses = search (rules, steps) }
