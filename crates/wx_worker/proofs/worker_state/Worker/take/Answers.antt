use Rattle.std.proofs.Common.{ap, arith}
use Rattle.wx_worker.specs.Stands.{end_room}
use Rattle.wx_worker.proofs.ArriveLemmas.{steps_add}
use Rattle.wx_worker.proofs.Serving.{hand_adds, hand_then}
use Rattle.wx_worker.proofs.WorkLemmas.{not_empty, TakeDone, take_done, TakenToShow, to_show}
use Rattle.wx_worker.proofs.worker_state.Worker.take.Goals.{Else-is_unseen, After-join}
use Rattle.wx_worker.proofs.worker_state.Worker.take.Goals as goal

pub unreachable-requires : goal.unreachable-requires
unreachable-requires g c = not_empty g.start c.args.self.now c.args.journal.now.past c.requires.1.0.stands c.in_default.ensures.none c.requires.1.1.0

-- ---- it passes unseen

done : (g : _) (c : After-join g) → TakeDone g.start c.join.new.self c.args.journal.now.past c.push.new.self.past c.join.result
done g c =
    rw c.join.ensures.same
    (take_done g.start c.args.self.now c.args.journal.now.past c.push.new.self.past c.args.at c.join.new.self.first (c.in-Some.item, c.in-Some.priority) c.try_recv.new.self c.join.new.self.batch c.join.result
    c.requires.1.0 c.in-Some.ensures.taken c.in-Some.ensures.greatest c.try_recv.ensures.size c.try_recv.ensures.closed
    (rw c.is_unseen.ensures at c.if-is_unseen.true) c.join.ensures.first c.join.ensures.names c.join.ensures.events c.join.ensures.found c.push.ensures.past)

pub returns-then-is_unseen-clause-within : goal.returns-then-is_unseen-clause-within
returns-then-is_unseen-clause-within g c = let d = done g c in record {
  grows = hand_adds _ _ _ _ _ _ _ _ d.steps.stands (steps_add _ _ _ _ d.steps);
  end_kept = ap (λ w. end_room w) c.join.ensures.same;
  in_journal = omega (arith, c.push.ensures.room);
  in_hooks = omega arith;
}

pub returns-then-is_unseen-clause-found : goal.returns-then-is_unseen-clause-found
returns-then-is_unseen-clause-found g c = (done g c).collects

-- ---- it is shown to the filter

shows : (g : _) (c : Else-is_unseen g) → TakenToShow g.start (record c.args.self.now { queue = c.try_recv.new.self }) c.args.journal.now.past c.push.new.self.past c.args.at (c.in-Some.item, c.in-Some.priority)
shows g c =
    to_show g.start c.args.self.now c.args.journal.now.past c.push.new.self.past c.args.at (c.in-Some.item, c.in-Some.priority) c.try_recv.new.self
    c.requires.1.0 c.in-Some.ensures.taken c.in-Some.ensures.greatest c.try_recv.ensures.size c.try_recv.ensures.closed
    (rw c.is_unseen.ensures at c.if-is_unseen.false) c.push.ensures.past

pub judge-requires : goal.judge-requires
judge-requires g c = λ κs lives.
    let s = shows g (goal.at.judge-requires g c).Else-is_unseen in
    let room = c.requires.1.1.1.0 in
    (lives, (record { stands = s.steps.stands; due = s.due; now = s.now; going = s.going }, (s.is_listed, (record { in_journal = omega (arith, room.in_journal, c.push.ensures.room); in_hooks = room.in_hooks }, c.requires.1.1.1.1))))

pub returns-clause-within : goal.returns-clause-within
returns-clause-within g c = let s = shows g (goal.at.returns-clause-within g c).Else-is_unseen in record {
  grows = hand_then _ _ _ _ _ _ _ _ _ _ _ _ (hand_adds _ _ _ _ _ _ _ _ s.steps.stands (steps_add _ _ _ _ s.steps)) c.judge.ensures.within.grows;
  end_kept = c.judge.ensures.within.end_kept;
  in_journal = omega (arith, c.push.ensures.room, c.judge.ensures.within.in_journal);
  in_hooks = c.judge.ensures.within.in_hooks;
}

pub returns-clause-found : goal.returns-clause-found
returns-clause-found g c = (shows g (goal.at.returns-clause-found g c).Else-is_unseen).collects _ _ c.judge.ensures.judged
