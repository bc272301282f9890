use Rattle.std.proofs.Common.{◌≡◌, false, length, drop}
use Rattle.wx_machine.specs.Journal.{closed, bag}
use Rattle.wx_machine.specs.Due.{agenda, sends}
use Rattle.wx_worker.specs.Serves.{AddsAlone}
use Rattle.wx_worker.specs.Stands.{Stands, end_room}
use Rattle.wx_machine.specs.Start.{IsStart}
use Rattle.wx_engine.proofs.running.begin.Given as goal

abbrev pub ghost-send : goal.ghost-send
ghost-send g a = g.start

abbrev pub invariant-loop-item : goal.invariant-loop-item
invariant-loop-item g l = record {
  is_start : IsStart g.start;
  all : l.item-items ≡ g.start.events;
  stands : Stands g.start l.worker l.journal.past;
  room : end_room l.worker ≡ 0;
  due : agenda g.start l.journal.past ≡ sends (drop l.item-index l.item-items);
  count : length (bag l.journal.past) ≡ l.item-index;
  takes : closed l.journal.past ≡ false;
  adds : AddsAlone g.start l.fn.journal.past l.journal.past;
}
