use Rattle.wx_machine.specs.Quits.{stop_asks}
use Rattle.wx_action.specs.Perform.{OwesPlan}
use Rattle.wx_worker.specs.Serves.{Grows}
use Rattle.wx_action.proofs.acts_done.stop_jobs.Given as goal

abbrev pub ghost-stop_job : goal.ghost-stop_job
ghost-stop_job g a = g.start

abbrev pub invariant-loop-id : goal.invariant-loop-id
invariant-loop-id g l = record {
  owes : OwesPlan g.start l.journal.past (stop_asks l.signal l.grace l.id-iterator.rest.items);
  grows : Grows g.start l.initial.worker l.initial.journal l.worker l.journal;
}
