use Rattle.wx_machine.specs.Steady.{OnlyRoom}
use Rattle.std.specs.Prelude.{Option, List}
use Rattle.wx_control.specs.declared.id.Id.{Id}
use Rattle.wx_machine.specs.declared.quit.QuitManner.{QuitManner}
use Rattle.wx_worker.specs.Serves.{AddsAlone}
use Rattle.wx_action.specs.Perform.{OwesActs}
use Rattle.wx_worker.specs.Stands.{Stands, HasEndRoom}
use Rattle.wx_action.proofs.acts_done.perform.Given as goal

abbrev pub ghost-perform_one : goal.ghost-perform_one
ghost-perform_one g a = g.start

abbrev pub invariant-loop-one : goal.invariant-loop-one
invariant-loop-one g l = record {
  owes : (quit : Option QuitManner) (ids : List Id) → OwesActs g.start l.initial.journal.past l.initial.one-iterator.rest.items quit ids → OwesActs g.start l.journal.past l.one-iterator.rest.items quit ids;
  stands : Stands g.start l.worker l.journal.past;
  adds : AddsAlone g.start l.initial.journal.past l.journal.past;
  rest : OnlyRoom (g.W.Outside.seen l.initial.host) (g.W.Outside.seen l.host);
  room : HasEndRoom l.worker l.journal.spare (g.W.Outside.seen l.host).spare;
}
