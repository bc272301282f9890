use Rattle.std.proofs.Common.{rules}
use Rattle.wx_machine.specs.Kept.{Past}
use Rattle.wx_machine.proofs.KeptLemmas.{quiet-followed}
use Rattle.wx_job.proofs.Sets.{steps}
use Rattle.wx_job.proofs.task.JobTask.control_alone.Goals as goal

pub returns-in-Delete-clause-served : goal.returns-in-Delete-clause-served
returns-in-Delete-clause-served g c = record { stood = search (rules, steps); keeps = λ x₀ p₀ k. Past _ _ _ k (quiet-followed _ _ _ _ _ _ c.delete.ensures.follows); uses = search (rules, steps) }
