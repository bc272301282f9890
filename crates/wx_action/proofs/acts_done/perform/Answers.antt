use Rattle.std.proofs.Common.{rules, arith, ◌≡◌, length}
use Rattle.wx_machine.proofs.SteadyLemmas.{only_none, only_then}
use Rattle.wx_worker.proofs.ServesLaws.{adds_none, adds_then}
use Rattle.wx_action.proofs.PerformLemmas.{all_done}
use Rattle.wx_action.proofs.acts_done.perform.Goals as goal

pub loop-one-init : goal.loop-one-init
loop-one-init g c = record {
  owes = λ quit ids o. o;
  stands = c.requires.1.1.stands;
  adds = adds_none _ _;
  rest = only_none;
  room = c.requires.1.1.room;
}

pub perform_one-requires : goal.perform_one-requires
perform_one-requires g c = λ κs lives.
    let i = c.loop-one.invariant in
    let o = c.requires.1.0 in
    let owes = i.owes o.0 o.1 (rw c.into_iter-one-iterator.ensures.into_iter_gives.0 o.2) in
    (lives, ((c.next.new.self.rest.items, o.0, o.1, rw c.in-Some.ensures.steps.0 at owes), record { stands = i.stands; room = i.room }))

pub loop-one-preserved : goal.loop-one-preserved
loop-one-preserved g c =
    let i = c.loop-one.invariant in
    let e = c.perform_one.ensures in
    record {
      owes = λ quit ids o. c.in_ok-perform_one.ensures.does.done c.next.new.self.rest.items quit ids (rw c.in-Some.ensures.steps.0 at (i.owes quit ids o));
      stands = e.performs.ready.stands;
      adds = adds_then _ _ _ _ i.adds e.performs.adds;
      rest = only_then i.rest e.performs.rest;
      room = e.performs.ready.room;
    }

pub returns-in_err-perform_one : goal.returns-in_err-perform_one
returns-in_err-perform_one g c =
    let i = c.loop-one.invariant in
    let e = c.perform_one.ensures in
    record {
      performs = record { ready = record { stands = e.performs.ready.stands; room = e.performs.ready.room }; adds = adds_then _ _ _ _ i.adds e.performs.adds; rest = only_then i.rest e.performs.rest };
      owes = λ quit ids o. (c.loop-one.one-iterator.rest.items, rw c.in_err-perform_one.ensures.does.err (i.owes quit ids (rw c.into_iter-one-iterator.ensures.into_iter_gives.0 o)));
      done = search rules;
    }

pub returns : goal.returns
returns g c =
    let i = c.loop-one.invariant in
    let none : length c.loop-one.one-iterator.rest.items ≡ 0 = omega (arith, c.loop-one.one-iterator.rest.ok.0, c.in-None.ensures.steps.0) in
    record {
      performs = record { ready = record { stands = i.stands; room = i.room }; adds = i.adds; rest = i.rest };
      owes = λ quit ids o. (c.loop-one.one-iterator.rest.items, i.owes quit ids (rw c.into_iter-one-iterator.ensures.into_iter_gives.0 o));
      done = λ quit ids o. all_done g.start c.loop-one.journal.past c.loop-one.one-iterator.rest.items quit ids none (i.owes quit ids (rw c.into_iter-one-iterator.ensures.into_iter_gives.0 o));
    }
