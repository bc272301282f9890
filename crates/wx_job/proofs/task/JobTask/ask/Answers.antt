use Rattle.std.proofs.Common.{refl}
use Rattle.wx_job.proofs.StandsLemmas.{stands-asked}
use Rattle.wx_job.proofs.task.JobTask.ask.Goals as goal

pub returns-clause-stands : goal.returns-clause-stands
returns-clause-stands c = rw c.push.ensures.past (stands-asked c.args.self.now _ c.args.journal.now.past _ _ _ c.requires.stands c.requires.here c.tickets-ticket.ensures c.requires.room.in_parked c.put_reserved.ensures.joins refl)
