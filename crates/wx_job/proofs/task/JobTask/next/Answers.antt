use Rattle.std.proofs.Common.{◌≡◌, refl, arith, ap, rules}
use Rattle.wx_machine.specs.States.{child_of}
use Rattle.wx_job.specs.Parkings.{Tickets}
use Rattle.wx_job.specs.Stands.{kit_of}
use Rattle.wx_machine.proofs.SteadyLemmas.{steady_none}
use Rattle.wx_job.proofs.DoneLemmas.{done_picked, done_parked, parked_row}
use Rattle.wx_job.proofs.Sets.{steps}
use Rattle.wx_job.proofs.StandsLemmas.{row-is}
use Rattle.wx_job.proofs.task.JobTask.next.Goals as goal

pub returns-in-Some-clause-done : goal.returns-in-Some-clause-done
returns-in-Some-clause-done g c =
    let same = row-is c.args.self.now c.pick.new.self c.in-Some.picked c.args.ticket c.args.control c.pick.ensures.fields c.in-Some.ensures.kept c.in-Some.ensures.picked.0 in
    let runs : child_of c.pick.new.self.state ≡ child_of c.args.self.now.state = rw c.pick.ensures.fields refl in
    done_picked c.control.result _ _ _ _ _ _ _ _ _ _ _ (rw (c.pick.ensures.entry, same, runs) at c.control.ensures.done)

pub returns-in-Some-clause-served : goal.returns-in-Some-clause-served
returns-in-Some-clause-served g c =
    let same : c.pick.new.self.parked.tickets ≡ c.args.self.now.parked.tickets = ap (λ (parking : Tickets). parking.tickets) c.in-Some.ensures.kept in
    let uses = rw same at c.control.ensures.served.uses in
    record { stood = c.control.ensures.served.stood; keeps = search (rules, steps); uses = record { steady = uses.steady; now = rw c.pick.ensures.entry at uses.now; in_journal = omega (arith, uses); in_host = omega (arith, uses); in_hooks = uses.in_hooks } }

pub returns-in-None-clause-done : goal.returns-in-None-clause-done
returns-in-None-clause-done g c = done_parked c.pick.new.self _ c.args.self.now.id c.args.ticket _ _ _ _ _ (parked_row c.args.self.now.id (kit_of c.args.self.now) c.args.ticket c.args.control (child_of c.args.self.now.state) c.args.self.now.state c.in-None.ensures.parks refl) c.pick.ensures.entry

pub returns-in-None-clause-served : goal.returns-in-None-clause-served
returns-in-None-clause-served g c = record { stood = search (rules, steps); keeps = search (rules, steps); uses = record { steady = steady_none; now = search (rules, steps); in_journal = search (rules, steps); in_host = search (rules, steps); in_hooks = search (rules, steps) } }
