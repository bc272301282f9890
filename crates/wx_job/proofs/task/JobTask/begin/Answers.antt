use Rattle.std.proofs.Common.{rules}
use Rattle.wx_machine.proofs.CaseLemmas.{leads}
use Rattle.wx_job.proofs.Sets.{steps}
use Rattle.wx_job.proofs.task.JobTask.begin.Goals as goal

pub returns-clause-served : goal.returns-clause-served
returns-clause-served g c = let stands = c.requires.ready.stands in let here = c.requires.ready.here in record { stood = search (rules, steps); keeps = search (rules, steps); uses = search (rules, steps) }

pub returns-clause-begun : goal.returns-clause-begun
returns-clause-begun g c = search (rules, steps)

pub returns-in-Err-clause-failed : goal.returns-in-Err-clause-failed
returns-in-Err-clause-failed g c = search (rules, leads)
