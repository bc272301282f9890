use Rattle.std.proofs.Common.{◌≡◌, true, refl, rules}
use Rattle.std.specs.Prelude.{is_some}
use Rattle.wx_machine.specs.Table.{raises}
use Rattle.wx_job.proofs.DoneLemmas.{done_gave}
use Rattle.wx_job.proofs.Sets.{steps}
use Rattle.wx_job.proofs.task.JobTask.start.Goals as goal

pub returns-in_err-fresh-clause-done : goal.returns-in_err-fresh-clause-done
returns-in_err-fresh-clause-done g c =
    let some : is_some c.args.what ≡ true = rw c.in-Some.is refl in
    rw some (done_gave c.from_residual.result c.fresh.new.self true _ _ _ _ _ _ _ c.from_residual.ensures.0 (c.in_err-fresh.ensures.err (raises c.args.ticket)) refl c.in_err-fresh.ensures.pending)

pub returns-in_err-fresh-clause-served : goal.returns-in_err-fresh-clause-served
returns-in_err-fresh-clause-served g c = record { stood = search (rules, steps); keeps = search (rules, steps); uses = search (rules, steps) }

pub returns-clause-done : goal.returns-clause-done
returns-clause-done g c = search (rules, steps)

pub returns-clause-served : goal.returns-clause-served
returns-clause-served g c = record { stood = search (rules, steps); keeps = search (rules, steps); uses = search (rules, steps) }
