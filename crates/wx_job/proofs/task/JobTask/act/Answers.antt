use Rattle.std.proofs.Common.{rules}
use Rattle.wx_machine.specs.Kept.{Past}
use Rattle.wx_machine.proofs.KeptLemmas.{quiet-followed}
use Rattle.wx_job.proofs.Sets.{steps}
use Rattle.wx_job.proofs.task.JobTask.act.Goals as goal

pub returns-in-Leave-clause-served : goal.returns-in-Leave-clause-served
returns-in-Leave-clause-served g c = record { stood = search (rules, steps); keeps = λ x₀ p₀ k. Past _ _ _ k (quiet-followed _ _ _ _ _ _ c.let_go.ensures.follows); uses = search (rules, steps) }

pub returns-in-Poll-clause-ok : goal.returns-in-Poll-clause-ok
returns-in-Poll-clause-ok g c = search (rules, steps)

pub returns-in-Poll-clause-served : goal.returns-in-Poll-clause-served
returns-in-Poll-clause-served g c = record { stood = search (rules, steps); keeps = search (rules, steps); uses = search (rules, steps) }

pub returns-in-Leave-clause-ok : goal.returns-in-Leave-clause-ok
returns-in-Leave-clause-ok g c = search (rules, steps)

pub returns-in-Nothing-clause-ok : goal.returns-in-Nothing-clause-ok
returns-in-Nothing-clause-ok g c = search (rules, steps)

pub returns-in-Nothing-clause-served : goal.returns-in-Nothing-clause-served
returns-in-Nothing-clause-served g c = record { stood = search (rules, steps); keeps = search (rules, steps); uses = search (rules, steps) }
