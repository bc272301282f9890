use Rattle.std.proofs.Common.{rules}
use Rattle.prio_channel.proofs.WaitingLemmas.{slots_taken, pairs_taken, pairs_at_most}
use Rattle.prio_channel.proofs.queue.PrioQueue.try_recv.Goals as goal

pub invariant_of-self-2 : goal.invariant_of-self-2
invariant_of-self-2 g c =
    let slots = slots_taken _ _ _ _ _ c.remove.ensures.updates c.in_ok-priority.ensures.permutation c.self.invariant.1 in
    (search rules, slots, search rules, search rules, search rules, search rules, search rules, search rules)

pub returns-clause-taken : goal.returns-clause-taken
returns-clause-taken g c = rw (← c.self.view_is)
    (pairs_taken _ _ _ _ _ _ c.remove.ensures.value c.remove.ensures.updates c.in_ok-priority.ensures.permutation c.self.invariant.1)

pub returns-clause-greatest : goal.returns-clause-greatest
returns-clause-greatest g c = rw (← c.self.view_is)
    (pairs_at_most c.self.inside.values c.in_ok-priority.field-0 _ (c.in_ok-priority.ensures.heap_order c.self.invariant.0).1)
