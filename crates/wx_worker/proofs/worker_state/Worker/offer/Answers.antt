use Rattle.std.proofs.Common.{refl, ap, arith, length, ◌+◌}
use Rattle.wx_worker.proofs.StandsLemmas.{event_count-small}
use Rattle.wx_worker.proofs.ArriveLemmas.{StepsOver, grows, grows_none, offer_done, offer_named}
use Rattle.wx_worker.proofs.worker_state.Worker.offer.Goals as goal

pub overflow_add-self : goal.overflow_add-self
overflow_add-self g c =
    omega (arith, event_count-small c.args.journal.now.past, c.requires.0.named_kept, ap (λ p. length p) c.in-Ok.ensures.same, c.in-Ok.ensures.room, c.in-Ok.ensures.fits)

done : (g : _) (c : goal.After-push g) → StepsOver g.start (record c.args.self.now { queue = c.offer_to-result.new.queue; named = c.args.self.now.named + 1 }) c.args.journal.now.past c.push.new.self.past
done g c =
    offer_done g.start c.args.self.now c.args.journal.now.past c.push.new.self.past c.args.item c.args.event c.args.priority c.offer_to-result.new.queue c.offer_to-result.result c.requires.0 c.requires.1.0 c.requires.1.1
    (rw c.in_ok-event.ensures.1 at c.offer_to-result.ensures.offered) c.offer_to-result.ensures.size c.offer_to-result.ensures.closed (rw (c.in-Ok.ensures.same, c.in_ok-event.ensures.0) at c.push.ensures.past)

pub returns-in_default-clause-grows : goal.returns-in_default-clause-grows
returns-in_default-clause-grows g c = grows_none _ _ _ _ _ (rw c.reserve.ensures.same c.requires.0) c.reserve.ensures.same refl (λ room. omega (arith, room, c.reserve.ensures.kept))

pub returns-in_err-event-clause-grows : goal.returns-in_err-event-clause-grows
returns-in_err-event-clause-grows g c = grows_none _ _ _ _ _ (rw c.reserve.ensures.same c.requires.0) c.reserve.ensures.same refl (λ room. omega (arith, room, c.reserve.ensures.kept))

pub returns-clause-grows : goal.returns-clause-grows
returns-clause-grows g c = grows _ _ _ _ _ (done g c) refl (omega (arith, c.in-Ok.ensures.room, c.push.ensures.room))

pub returns-clause-done : goal.returns-clause-done
returns-clause-done g c =
    offer_named g.start c.args.self.now c.args.journal.now.past c.push.new.self.past c.args.item c.args.event c.args.priority c.offer_to-result.new.queue c.offer_to-result.result c.requires.0
    (rw c.in_ok-event.ensures.1 at c.offer_to-result.ensures.offered) (rw (c.in-Ok.ensures.same, c.in_ok-event.ensures.0) at c.push.ensures.past)
