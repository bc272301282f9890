use Rattle.std.proofs.Common.{rules}
use Rattle.wx_machine.proofs.CaseLemmas.{leads}
use Rattle.wx_job.proofs.Sets.{steps}
use Rattle.wx_job.proofs.StandsLemmas.{stands-spawn-ok}
use Rattle.wx_job.proofs.task.JobTask.spawn.Goals as goal

pub returns-in-Ok-clause-served : goal.returns-in-Ok-clause-served
returns-in-Ok-clause-served g c = let stands = c.requires.ready.ready.stands in let here = c.requires.ready.ready.here in record { stood = rw (c.push.ensures.past, c.in-Ok.is, ← c.requires.ready.now) (stands-spawn-ok c.args.self.now c.args.journal.now.past _ _ _ _ _ stands here c.requires.before); keeps = search (rules, steps); uses = search (rules, steps) }

pub returns-in-Ok-clause-follows : goal.returns-in-Ok-clause-follows
returns-in-Ok-clause-follows g c = search (rules, leads)

pub returns-in-Err-clause-follows : goal.returns-in-Err-clause-follows
returns-in-Err-clause-follows g c = search (rules, leads)

pub returns-in-Err-clause-served : goal.returns-in-Err-clause-served
returns-in-Err-clause-served g c = record { stood = c.show.ensures.called.stood; keeps = search (rules, steps); uses = search (rules, steps) }
