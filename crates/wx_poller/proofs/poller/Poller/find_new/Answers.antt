use Rattle.std.proofs.Common.{refl, sym}
use Rattle.wx_poller.proofs.Fits.{next_fits, quiet_changes, take_gives}
use Rattle.wx_poller.proofs.poller.Poller.find_new.Goals as goal

pub returns-in-Ok-clause-looked : goal.returns-in-Ok-clause-looked
returns-in-Ok-clause-looked g c = c.poll.ensures.looked

pub returns-in-Ok-clause-rest : goal.returns-in-Ok-clause-rest
returns-in-Ok-clause-rest g c = c.poll.ensures.rest

pub returns-in-Ok-clause-place : goal.returns-in-Ok-clause-place
returns-in-Ok-clause-place g c = c.poll.ensures.place

pub returns-in-Ok-clause-polls : goal.returns-in-Ok-clause-polls
returns-in-Ok-clause-polls g c =
    let h = c.poll.ensures.polls in
    record { follow = h.follow; registered = h.registered; brought = h.brought; faults = h.faults }

pub returns-in-Ok-clause-gives : goal.returns-in-Ok-clause-gives
returns-in-Ok-clause-gives g c = take_gives c.take_first.result _ _ _ c.take_first.ensures.none c.take_first.ensures.same c.take_first.ensures.some (sym c.in-Ok.ensures.changes)

pub returns-in-Ok-clause-fits : goal.returns-in-Ok-clause-fits
returns-in-Ok-clause-fits g c = λ t x s k.
    let a = c.in-Ok.ensures.told t x k.named s in
    let m = c.in-Ok.ensures.maps in
    next_fits t c.args.self.now.registered.items _ _ _ c.take_first.result _ c.poll.ensures.polls.registered k.named (quiet_changes t c.args.self.now.registered.items _ _ m.0 m.1 k.agrees a) (take_gives c.take_first.result _ _ _ c.take_first.ensures.none c.take_first.ensures.same c.take_first.ensures.some (sym c.in-Ok.ensures.changes)) a

pub returns-in-Err-clause-looked : goal.returns-in-Err-clause-looked
returns-in-Err-clause-looked g c = c.poll.ensures.looked

pub returns-in-Err-clause-rest : goal.returns-in-Err-clause-rest
returns-in-Err-clause-rest g c = c.poll.ensures.rest

pub returns-in-Err-clause-place : goal.returns-in-Err-clause-place
returns-in-Err-clause-place g c = c.poll.ensures.place

pub returns-in-Err-clause-polls : goal.returns-in-Err-clause-polls
returns-in-Err-clause-polls g c =
    let h = c.poll.ensures.polls in
    record { follow = h.follow; registered = h.registered; brought = h.brought; faults = h.faults }

pub returns-in-Err-clause-unpolled : goal.returns-in-Err-clause-unpolled
returns-in-Err-clause-unpolled g c = c.in-Err.ensures.unpolled

pub returns-in-Err-clause-fits : goal.returns-in-Err-clause-fits
returns-in-Err-clause-fits g c = λ t x s k. c.in-Err.ensures.told t x k.named s
