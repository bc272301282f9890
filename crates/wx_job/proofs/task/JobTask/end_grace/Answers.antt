use Rattle.std.proofs.Common.{refl, rules}
use Rattle.std.specs.Prelude.{is_some}
use Rattle.wx_job.specs.Stands.{kit_of}
use Rattle.wx_job.proofs.DoneLemmas.{done_over, took_same}
use Rattle.wx_job.proofs.StandsLemmas.{is_some_twice}
use Rattle.wx_job.proofs.Sets.{steps}
use Rattle.wx_job.proofs.task.JobTask.end_grace.Goals as goal

pub returns-clause-done : goal.returns-clause-done
returns-clause-done g c =
    let same = took_same c.args.self.now.grace c.in-Some.standing c.args.grace (search (c.in-Some.ensures.value)) c.requires.stood in
    done_over c.restart.result c.restart.new.self (is_some c.args.what) c.args.self.now.id (kit_of c.args.self.now) (kit_of (record c.args.self.now { grace = c.take.new.self })) c.args.child c.args.grace _ _ _ _ _ _ _
    (rw c.requires.what (is_some_twice c.args.self.now.command c.args.grace.restarts)) refl refl refl refl refl c.push.ensures.past (rw same at c.restart.ensures.done)

pub returns-clause-served : goal.returns-clause-served
returns-clause-served g c = record { stood = search (rules, steps); keeps = search (rules, steps); uses = search (rules, steps) }
