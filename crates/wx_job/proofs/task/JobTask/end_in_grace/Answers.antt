use Rattle.std.proofs.Common.{rules}
use Rattle.wx_machine.proofs.SteadyLemmas.{steady_then}
use Rattle.wx_job.proofs.Sets.{steps}
use Rattle.wx_job.proofs.task.JobTask.end_in_grace.Goals as goal

pub returns-clause-done : goal.returns-clause-done
returns-clause-done g c = search (rules, steps)

pub returns-clause-served : goal.returns-clause-served
returns-clause-served g c = record { stood = search (rules, steps); keeps = search (rules, steps); uses = search (rules, steps) }

pub returns-then-grace-clause-served : goal.returns-then-grace-clause-served
returns-then-grace-clause-served g c = record { stood = search (rules, steps); keeps = search (rules, steps); uses = record { steady = steady_then c.raise_parked.ensures.spends.steady c.start.ensures.served.uses.steady; now = search (rules, steps); in_journal = search (rules, steps); in_host = search (rules, steps); in_hooks = search (rules, steps) } }
