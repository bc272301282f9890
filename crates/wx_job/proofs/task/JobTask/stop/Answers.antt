use Rattle.std.proofs.Common.{rules}
use Rattle.wx_machine.proofs.CaseLemmas.{leads}
use Rattle.wx_machine.proofs.SteadyLemmas.{steady_then}
use Rattle.wx_job.proofs.Sets.{steps}
use Rattle.wx_job.proofs.task.JobTask.stop.Goals.{in-Some+in-Ok+in-Some-standing, in-Some+in-Ok+in_default-standing, in_default}
use Rattle.wx_job.proofs.task.JobTask.stop.Goals as goal

pub returns-in_default-reap-clause-follows : goal.returns-in_default-reap-clause-follows
returns-in_default-reap-clause-follows g c = search (rules, steps)

pub returns-in_default-reap-clause-served : goal.returns-in_default-reap-clause-served
returns-in_default-reap-clause-served g c = record { stood = search (rules, steps); keeps = search (rules, steps); uses = search (rules, steps) }

pub returns-clause-follows : goal.returns-clause-follows
returns-clause-follows g c = search (rules, leads)

pub returns-clause-served : goal.returns-clause-served
returns-clause-served g c = record {
  stood = search (rules, steps);
  keeps = search (rules, steps);
  uses = record {
    steady = elim c.match-child_of.branch [
      | in-Some+in-Ok+in-Some-standing w ↦ steady_then w.reap.ensures.served.uses.steady (steady_then w.raise_parked.ensures.spends.steady (steady_then w.raise.ensures.spends.steady (rw w.host-is at c.raise-2.ensures.spends.steady)))
      | in-Some+in-Ok+in_default-standing w ↦ steady_then w.reap.ensures.served.uses.steady (steady_then w.raise_parked.ensures.spends.steady (rw w.host-is at c.raise-2.ensures.spends.steady))
      | in_default w ↦ rw w.host-is at c.raise-2.ensures.spends.steady
    ];
    now = search (rules, steps);
    in_journal = search (rules, steps);
    in_host = search (rules, steps);
    in_hooks = search (rules, steps);
  };
}
