use Rattle.std.proofs.Common.{rules}
use Rattle.wx_machine.proofs.CaseLemmas.{fresh_hooked}
use Rattle.wx_job.proofs.DoneLemmas.{fresh_gave}
use Rattle.wx_job.proofs.Sets.{steps}
use Rattle.wx_job.proofs.task.JobTask.fresh.Goals as goal

pub returns-clause-ok : goal.returns-clause-ok
returns-clause-ok g c = λ k. fresh_hooked c.args.self.now.id c.args.self.now.command c.args.self.now.handler c.args.self.now.tag c.args.self.now.hook c.in-Some.n c.in_ok-what.what _ _ _ _ _ _ _ _ k c.in-Some.is c.in_ok-what.ensures.adds.0 c.in_ok-what.ensures.adds.1 (rw c.in_ok-what.ensures.fields at c.spawn-2.ensures.follows)

pub returns-clause-served : goal.returns-clause-served
returns-clause-served g c = record { stood = search (rules, steps); keeps = search (rules, steps); uses = search (rules, steps) }

pub returns-in_err-what-clause-err : goal.returns-in_err-what-clause-err
returns-in_err-what-clause-err g c = fresh_gave c.from_residual.result c.args.self.now.id c.args.self.now.command c.args.self.now.handler c.args.self.now.tag c.args.self.now.hook c.in-Some.n _ _ _ _ _ c.in-Some.is c.in_err-what.ensures.err
