-- The lemmas that every call of a case uses.
use Rattle.wx_machine.proofs.CaseLemmas.{leads}
use Rattle.wx_job.proofs.StandsLemmas.{stands, stands-keeps, stands-ending}
use Rattle.wx_machine.proofs.KeptLemmas.{calls}
use Rattle.wx_job.specs.Stands.{AllAsBefore, BehindHook}

pub ruleset steps = (leads, stands, calls, AllAsBefore, BehindHook)

-- those that a call on a task uses, besides
pub ruleset tasks = (steps, stands-keeps, stands-ending)
