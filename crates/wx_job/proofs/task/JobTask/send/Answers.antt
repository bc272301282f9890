use Rattle.wx_machine.proofs.StepLaws.{StepLeft, send_left}
use Rattle.wx_job.proofs.task.JobTask.send.Goals as goal

left : (c : goal.After-put) → StepLeft c.args.self.now.id c.args.journal.now.past c.put.new.journal.past
left c = send_left _ c.put.result c.args.self.now.id c.args.ask c.args.journal.now.past c.put.new.journal.past c.put.ensures.leads c.put.ensures.refused

pub returns-clause-leaves : goal.returns-clause-leaves
returns-clause-leaves c = (left c).leaves

pub returns-clause-adds : goal.returns-clause-adds
returns-clause-adds c = (left c).adds c.requires.stands.placed

pub returns-clause-stands : goal.returns-clause-stands
returns-clause-stands c = record { keeps = c.put.ensures.stands; placed = rw c.put.ensures.job.same_id ((left c).tickets c.requires.stands.placed) }
