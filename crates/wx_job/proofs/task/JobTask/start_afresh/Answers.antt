use Rattle.std.proofs.Common.{◌≡◌, Some, None, sym, ◌∙◌, rules}
use Rattle.wx_machine.specs.States.{child_of}
use Rattle.wx_job.proofs.Sets.{steps}
use Rattle.wx_job.proofs.task.JobTask.start_afresh.Goals as goal

pub returns-in-Some-clause-done : goal.returns-in-Some-clause-done
returns-in-Some-clause-done g c = let is : child_of c.args.self.now.state ≡ Some c.in-Some.child = sym c.child_of.ensures ∙ c.in-Some.is in rw is c.restart.ensures.done

pub returns-in-Some-clause-served : goal.returns-in-Some-clause-served
returns-in-Some-clause-served g c = record { stood = search (rules, steps); keeps = search (rules, steps); uses = search (rules, steps) }

pub returns-in-None-clause-done : goal.returns-in-None-clause-done
returns-in-None-clause-done g c = let is : child_of c.args.self.now.state ≡ None = sym c.child_of.ensures ∙ c.in-None.is in rw is c.start.ensures.done

pub returns-in-None-clause-served : goal.returns-in-None-clause-served
returns-in-None-clause-served g c = record { stood = search (rules, steps); keeps = search (rules, steps); uses = search (rules, steps) }
