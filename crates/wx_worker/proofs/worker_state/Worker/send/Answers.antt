use Rattle.std.proofs.Common.{refl, ap, arith, length, length-append, ◌+◌}
use Rattle.wx_worker.proofs.StandsLemmas.{event_count-small}
use Rattle.wx_worker.proofs.ArriveLemmas.{StepsOver, grows, grows_none, send_done, sent_then}
use Rattle.wx_worker.proofs.worker_state.Worker.send.Goals as goal

pub overflow_add-self : goal.overflow_add-self
overflow_add-self g c =
    omega (arith, event_count-small c.args.journal.now.past, c.requires.0.1.stands.named_kept, ap (λ p. length p) c.in-Ok.ensures.same, c.in-Ok.ensures.room, c.in-Ok.ensures.fits)

done : (g : _) (c : goal.After-push g) → StepsOver g.start (record c.args.self.now { queue = c.offer_to.new.queue; named = c.args.self.now.named + 1 }) c.args.journal.now.past c.push.new.self.past
done g c =
    send_done g.start c.args.self.now c.args.journal.now.past c.push.new.self.past c.args.event c.args.priority _ c.offer_to.new.queue c.offer_to.result c.requires.0.1.stands c.requires.0.1.due c.requires.1.0 c.requires.1.1
    (rw c.in_ok-event.ensures.1 at c.offer_to.ensures.offered) c.offer_to.ensures.size c.offer_to.ensures.closed (rw (c.in-Ok.ensures.same, c.in_ok-event.ensures.0) at c.push.ensures.past)

pub returns-in_default-clause-grows : goal.returns-in_default-clause-grows
returns-in_default-clause-grows g c = grows_none _ _ _ _ _ (rw c.reserve.ensures.same c.requires.0.1.stands) c.reserve.ensures.same refl (λ room. omega (arith, room, c.reserve.ensures.kept))

pub returns-in_default-clause-takes : goal.returns-in_default-clause-takes
returns-in_default-clause-takes g c = rw c.reserve.ensures.same c.requires.1.1

pub returns-in_err-event-clause-grows : goal.returns-in_err-event-clause-grows
returns-in_err-event-clause-grows g c = grows_none _ _ _ _ _ (rw c.reserve.ensures.same c.requires.0.1.stands) c.reserve.ensures.same refl (λ room. omega (arith, room, c.reserve.ensures.kept))

pub returns-in_err-event-clause-takes : goal.returns-in_err-event-clause-takes
returns-in_err-event-clause-takes g c = rw c.reserve.ensures.same c.requires.1.1

pub returns-clause-bag : goal.returns-clause-bag
returns-clause-bag g c = rw (c.push.ensures.past, c.in-Ok.ensures.same) (length-append _ _)

pub returns-clause-takes : goal.returns-clause-takes
returns-clause-takes g c = rw (c.push.ensures.past, c.in-Ok.ensures.same) c.requires.1.1

pub returns-clause-grows : goal.returns-clause-grows
returns-clause-grows g c = grows _ _ _ _ _ (done g c) refl (omega (arith, c.in-Ok.ensures.room, c.push.ensures.room))

pub returns-clause-done : goal.returns-clause-done
returns-clause-done g c =
    sent_then g.start c.args.journal.now.past c.push.new.self.past c.args.self.now.named c.args.event c.args.priority c.args.event c.args.priority (rw (c.in-Ok.ensures.same, c.in_ok-event.ensures.0) at c.push.ensures.past)
