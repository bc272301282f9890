use Rattle.std.proofs.Common.{refl, rules}
use Rattle.wx_machine.proofs.CaseLemmas.{ran-says, ran-later, brings-adds}
use Rattle.wx_job.proofs.Sets.{steps}
use Rattle.wx_job.proofs.task.JobTask.poll.Goals as goal

pub returns-then-not-ready-clause-follows : goal.returns-then-not-ready-clause-follows
returns-then-not-ready-clause-follows g c = λ k₀ p₀ a₀ hooks₀ r.
    rw (c.push-then-not-ready.ensures.past, c.push.ensures.past) (ran-says k₀ p₀ a₀ hooks₀ _ _ _ _ _ _ _ refl refl refl refl (ran-later k₀ p₀ a₀ hooks₀ _ _ _ _ _ _ _ _ _ c.if-not-ready.true c.poll-ready.ensures.told.told r) (brings-adds _ _))

pub returns-clause-follows : goal.returns-clause-follows
returns-clause-follows g c = search (rules, steps)

pub returns-clause-served : goal.returns-clause-served
returns-clause-served g c = record { stood = search (rules, steps); keeps = search (rules, steps); uses = search (rules, steps) }

pub returns-then-not-ready-clause-served : goal.returns-then-not-ready-clause-served
returns-then-not-ready-clause-served g c = record { stood = search (rules, steps); keeps = search (rules, steps); uses = search (rules, steps) }
