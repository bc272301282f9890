use Rattle.wx_machine.specs.Kept.{Still}
use Rattle.wx_machine.proofs.KeptLemmas.{promised}
use Rattle.wx_machine.proofs.StepLaws.{Stepped}
use Rattle.wx_job.proofs.StopLaws.{stepped, on_stops}
use Rattle.wx_job.proofs.task.JobTask.step.Goals as goal

done : (g : _) (c : goal.After-walk g) → Stepped c.args.self.now.id c.args.journal.now.past (g.H.Outside.seen c.args.host.now).shown.faults c.walk.new.journal.past (g.H.Outside.seen c.walk.new.host).shown.faults
done g c = stepped (λ h. g.H.Outside.seen h) (λ x. (g.K.JobHooks.seen x).told) c.walk.result c.args.self.now.closed c.args.self.now.id c.args.self.now.command _ _ _ _ _ _ _ _ c.walk.ensures.leads c.walk.ensures.err

pub returns-clause-leaves : goal.returns-clause-leaves
returns-clause-leaves g c = (done g c).left.leaves

pub returns-clause-adds : goal.returns-clause-adds
returns-clause-adds g c = (done g c).left.adds c.requires.stands.placed

pub returns-clause-stands : goal.returns-clause-stands
returns-clause-stands g c = record { keeps = c.walk.ensures.stands; placed = rw c.walk.ensures.job.same_id ((done g c).left.tickets c.requires.stands.placed) }

pub returns-clause-faults : goal.returns-clause-faults
returns-clause-faults g c = (done g c).counted

pub returns-clause-promised : goal.returns-clause-promised
returns-clause-promised g c own = promised (λ x. g.K.JobHooks.seen x) (λ plan. g.K.JobHooks.rule plan) (λ x. g.K.JobHooks.stands x) c.args.hooks.now c.args.journal.now.past c.walk.new.hooks c.walk.new.journal.past (λ y. g.met.K.JobHooks.stands_other y) ((done g c).left.leaves.others own).own (c.walk.ensures.keeps _ _ Still)

pub returns-clause-err : goal.returns-clause-err
returns-clause-err g c = on_stops c.walk.result c.args.self.now.closed c.args.self.now.command _ _ _ _ c.args.self.now _ _ _ _ _ _ _ c.requires.stands c.walk.ensures.err
