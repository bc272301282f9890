use Rattle.std.proofs.Common.{rules}
use Rattle.std.proofs.lemmas.Result.{MatchResult-at_ok}
use Rattle.prio_channel.proofs.WaitingLemmas.{slots_sent, pairs_sent}
use Rattle.prio_channel.proofs.queue.PrioQueue.try_send.Goals as goal

pub invariant_of-self : goal.invariant_of-self
invariant_of-self g c =
    let new = c.insert_reserved-slot in
    let moved = MatchResult-at_ok _ _ _ c.unwrap.ensures c.push.ensures.permutation in
    let slots = slots_sent _ _ _ _ _ _ new.ensures.was_vacant new.ensures.updates moved c.self.invariant.1 in
    (search rules, slots, search rules, search rules, search rules, search rules, search rules, search rules)

pub returns-clause-sent : goal.returns-clause-sent
returns-clause-sent g c =
    let new = c.insert_reserved-slot in
    let moved = MatchResult-at_ok _ _ _ c.unwrap.ensures c.push.ensures.permutation in
    rw (← c.self.view_is) (pairs_sent _ _ _ _ _ _ new.ensures.was_vacant new.ensures.updates moved c.self.invariant.1)
