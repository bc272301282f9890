use Rattle.std.proofs.Common.{arith}
use Rattle.wx_machine.specs.Added.{Same}
use Rattle.wx_job.proofs.StandsLemmas.{end-is}
use Rattle.wx_machine.proofs.StepLaws.{StepLeft, end_left}
use Rattle.wx_job.proofs.task.JobTask.end.Goals as goal

left : (g : _) (c : goal.After-let_go g) → StepLeft c.args.self.now.id c.args.journal.now.past c.let_go.new.journal.past
left g c = end_left c.args.self.now.id c.args.journal.now.past _ _ c.let_go.new.journal.past _ (end-is c.args.self.now c.args.journal.now.past c.child_of.result c.requires.stands.keeps c.if-self.false c.child_of.ensures) c.let_go.ensures.follows

pub returns-clause-leaves : goal.returns-clause-leaves
returns-clause-leaves g c = (left g c).leaves

pub returns-clause-adds : goal.returns-clause-adds
returns-clause-adds g c = (left g c).adds c.requires.stands.placed

pub returns-then-self-clause-adds : goal.returns-then-self-clause-adds
returns-then-self-clause-adds g c = record { faults = Same; functions = Same; raises = Same; once = λ t. omega arith }

pub returns-clause-stands : goal.returns-clause-stands
returns-clause-stands g c = record { keeps = c.let_go.ensures.stands; placed = rw c.let_go.ensures.fields ((left g c).tickets c.requires.stands.placed) }
