use Rattle.std.proofs.Common.{◌≡◌, false, length, arith, refl}
use Rattle.std.specs.Prelude.{◌==◌}
use Rattle.wx_machine.specs.Journal.{bag}
use Rattle.wx_machine.specs.Due.{Takes, Open, Comes, agenda}
use Rattle.wx_worker.specs.declared.collecting.Collected.TheVariants.{Idle}
use Rattle.wx_worker.specs.Stands.{Stands}
use Rattle.wx_worker.proofs.ArriveLemmas.{steps_add}
use Rattle.wx_worker.proofs.Serving.{hooks_none, hand_adds, hand_room, hand_then}
use Rattle.wx_worker.proofs.WorkLemmas.{TakeDone, idle_done, stop_done, over_done, takes_due, stands_room, leaves_room}
use Rattle.wx_worker.proofs.worker_state.Worker.collect_going.Goals.{After-push, After-reserve-3}
use Rattle.wx_worker.proofs.worker_state.Worker.collect_going.Goals as goal

-- ---- the queue is closed, or the window is due

pub returns-then-is_closed-clause-found : goal.returns-then-is_closed-clause-found
returns-then-is_closed-clause-found g c = stop_done g.start c.args.self.now c.args.journal.now.past c.args.at c.requires.1.0.stands c.requires.1.0.due c.requires.1.1 (rw c.is_closed.ensures at c.if-is_closed.true)

pub returns-then-is_closed-clause-within : goal.returns-then-is_closed-clause-within
returns-then-is_closed-clause-within g c = record { grows = hand_room _ _ _ _ _ _ _ _ _ c.requires.1.0.stands refl (hooks_none _ _ _); end_kept = refl; in_journal = omega arith; in_hooks = omega arith }

pub returns-then-is_over-clause-found : goal.returns-then-is_over-clause-found
returns-then-is_over-clause-found g c = over_done g.start c.args.self.now c.args.journal.now.past c.args.at c.requires.1.0.stands c.requires.1.0.due (rw c.is_closed.ensures at c.if-is_closed.false) (rw c.is_over.ensures at c.if-is_over.true)

pub returns-then-is_over-clause-within : goal.returns-then-is_over-clause-within
returns-then-is_over-clause-within g c = record { grows = hand_room _ _ _ _ _ _ _ _ _ c.requires.1.0.stands refl (hooks_none _ _ _); end_kept = refl; in_journal = omega arith; in_hooks = omega arith }

-- ---- there was no room

pub returns-in_err-reserve-clause-within : goal.returns-in_err-reserve-clause-within
returns-in_err-reserve-clause-within g c = record {
  grows = hand_room _ _ _ _ _ _ _ _ _ c.requires.1.0.stands c.in_err-reserve.ensures.same (hooks_none _ _ _);
  end_kept = refl;
  in_journal = omega (arith, c.in_err-reserve.ensures.kept);
  in_hooks = omega arith;
}

pub returns-in_err-reserve-2-clause-within : goal.returns-in_err-reserve-2-clause-within
returns-in_err-reserve-2-clause-within g c = record {
  grows = hand_room _ _ _ _ _ _ _ _ _ (stands_room g.start c.args.self.now c.args.journal.now.past c.reserve-2.new.self c.requires.1.0.stands c.reserve-2.ensures.names c.reserve-2.ensures.events) c.in_ok-reserve.ensures.same (hooks_none _ _ _);
  end_kept = refl;
  in_journal = omega (arith, c.in_ok-reserve.ensures.kept);
  in_hooks = omega arith;
}

-- ---- there was nothing to take

done : (g : _) (c : After-push g) → TakeDone g.start c.args.self.now c.args.journal.now.past c.push.new.self.past Idle
done g c =
    idle_done g.start c.args.self.now c.args.journal.now.past c.push.new.self.past c.args.at c.requires.1.0 c.requires.1.1 (rw c.is_closed.ensures at c.if-is_closed.false) (rw c.is_over.ensures at c.if-is_over.false) (rw c.is_empty.ensures at c.if-is_empty.true) (rw c.in_ok-reserve.ensures.same at c.push.ensures.past)

pub returns-then-is_empty-clause-within : goal.returns-then-is_empty-clause-within
returns-then-is_empty-clause-within g c = let d = done g c in record {
  grows = hand_adds _ _ _ _ _ _ _ _ d.steps.stands (steps_add _ _ _ _ d.steps);
  end_kept = refl;
  in_journal = omega (arith, c.in_ok-reserve.ensures.kept, c.push.ensures.room);
  in_hooks = omega arith;
}

pub returns-then-is_empty-clause-found : goal.returns-then-is_empty-clause-found
returns-then-is_empty-clause-found g c = (done g c).collects

-- ---- an event was taken

is_due : (g : _) (c : After-reserve-3 g) → (agenda g.start c.args.journal.now.past ≡ Comes Takes Open) × ((length (bag c.args.journal.now.past) == 0) ≡ false)
is_due g c = takes_due g.start c.args.self.now c.args.journal.now.past c.args.at c.requires.1.0.stands c.requires.1.0.due (rw c.is_closed.ensures at c.if-is_closed.false) (rw c.is_over.ensures at c.if-is_over.false) (rw c.is_empty.ensures at c.if-is_empty.false)

-- the worker with room for it
ready : (g : _) (c : After-reserve-3 g) → Stands g.start (record c.args.self.now { batch = c.reserve-2.new.self }) c.args.journal.now.past
ready g c = stands_room g.start c.args.self.now c.args.journal.now.past c.reserve-2.new.self c.requires.1.0.stands c.reserve-2.ensures.names c.reserve-2.ensures.events

pub take-requires : goal.take-requires
take-requires g c = λ κs lives.
    let at = (goal.at.take-requires g c).After-reserve-3 in
    let same = c.in_ok-reserve.ensures.same in
    (lives, (rw same (record { stands = ready g at; due = (is_due g at).0; now = c.requires.1.0.now; going = c.requires.1.0.going }), (rw same (is_due g at).1, (record { in_journal = omega (arith, c.in_ok-reserve.ensures.room); in_hooks = omega (arith, c.in_ok-reserve-3.ensures.room) }, c.in_ok-reserve-2.ensures.room))))

pub returns-in_err-reserve-3-clause-within : goal.returns-in_err-reserve-3-clause-within
returns-in_err-reserve-3-clause-within g c = record {
  grows = hand_room _ _ _ _ _ _ _ _ _ (ready g (goal.at.returns-in_err-reserve-3-clause-within g c).After-reserve-3) c.in_ok-reserve.ensures.same c.reserve-3.ensures.rest;
  end_kept = refl;
  in_journal = omega (arith, c.in_ok-reserve.ensures.kept);
  in_hooks = omega (arith, c.reserve-3.ensures.rest.spare_kept);
}

pub returns-clause-within : goal.returns-clause-within
returns-clause-within g c = record {
  grows = hand_then _ _ _ _ _ _ _ _ _ _ _ _ (hand_room _ _ _ _ _ _ _ _ _ c.requires.1.0.stands c.in_ok-reserve.ensures.same c.reserve-3.ensures.rest) c.take.ensures.within.grows;
  end_kept = c.take.ensures.within.end_kept;
  in_journal = omega (arith, c.in_ok-reserve.ensures.kept, c.take.ensures.within.in_journal);
  in_hooks = omega (arith, c.reserve-3.ensures.rest.spare_kept, c.take.ensures.within.in_hooks);
}

pub returns-clause-left : goal.returns-clause-left
returns-clause-left g c = leaves_room c.take.result _ _ _ (omega (arith, c.in_ok-reserve.ensures.room, c.take.ensures.within.in_journal, c.take.ensures.within.end_kept)) (omega (arith, c.in_ok-reserve-3.ensures.room, c.take.ensures.within.in_hooks))
