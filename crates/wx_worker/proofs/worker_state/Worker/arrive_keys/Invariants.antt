use Rattle.std.specs.Prelude.{◌≡◌, false, length}
use Rattle.wx_machine.specs.Due.{offers, is_quitting, agenda}
use Rattle.wx_worker.specs.Serves.{Grows}
use Rattle.wx_worker.specs.Stands.{Stands}
use Rattle.wx_worker.proofs.worker_state.Worker.arrive_keys.Given as goal

abbrev pub ghost-arrive : goal.ghost-arrive
ghost-arrive g a = g.start

abbrev pub invariant-loop-event : goal.invariant-loop-event
invariant-loop-event g l = record {
  stands : Stands g.start l.self l.journal.past;
  due : agenda g.start l.journal.past ≡ offers l.left;
  going : is_quitting l.journal.past ≡ false;
  grows : Grows g.start l.fn.self l.fn.journal l.self l.journal;
}

abbrev pub decreases-loop-event : goal.decreases-loop-event
decreases-loop-event g l = length l.left
