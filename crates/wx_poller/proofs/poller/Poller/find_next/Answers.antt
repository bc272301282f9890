use Rattle.std.proofs.Common.{refl, sym, ◌∙◌}
use Rattle.std.proofs.lemmas.Result.{IfOk-weaker}
use Rattle.wx_poller.proofs.Fits.{next_fits, none_pending, not_pending, pending_given, take_gives}
use Rattle.wx_poller.proofs.poller.Poller.find_next.Goals as goal
use Rattle.wx_scan.proofs.LookLemmas.{no_looks}

pub returns-then-is_empty-clause-looked : goal.returns-then-is_empty-clause-looked
returns-then-is_empty-clause-looked g c = c.find_new.ensures.looked

pub returns-then-is_empty-clause-rest : goal.returns-then-is_empty-clause-rest
returns-then-is_empty-clause-rest g c = c.find_new.ensures.rest

pub returns-then-is_empty-clause-place : goal.returns-then-is_empty-clause-place
returns-then-is_empty-clause-place g c = c.find_new.ensures.place

pub returns-then-is_empty-clause-polls : goal.returns-then-is_empty-clause-polls
returns-then-is_empty-clause-polls g c =
    let h = c.find_new.ensures.polls in
    record { follow = h.follow; registered = h.registered; brought = h.brought; faults = h.faults }

pub returns-then-is_empty-clause-gives : goal.returns-then-is_empty-clause-gives
returns-then-is_empty-clause-gives g c =
    let e = sym c.is_empty.ensures ∙ c.if-is_empty.true in
    IfOk-weaker c.find_new.result _ _ (λ found h. (none_pending c.args.self.now.pending _ _ found e h, λ i. absurd (not_pending c.args.self.now.pending e i))) c.find_new.ensures.gives

pub returns-then-is_empty-clause-unpolled : goal.returns-then-is_empty-clause-unpolled
returns-then-is_empty-clause-unpolled g c = c.find_new.ensures.unpolled

pub returns-then-is_empty-clause-fits : goal.returns-then-is_empty-clause-fits
returns-then-is_empty-clause-fits g c = c.find_new.ensures.fits

pub returns-clause-looked : goal.returns-clause-looked
returns-clause-looked g c = no_looks _

pub returns-clause-rest : goal.returns-clause-rest
returns-clause-rest g c = refl

pub returns-clause-place : goal.returns-clause-place
returns-clause-place g c = refl

pub returns-clause-polls : goal.returns-clause-polls
returns-clause-polls g c = record { follow = refl; registered = refl; brought = refl; faults = refl }

pub returns-clause-gives : goal.returns-clause-gives
returns-clause-gives g c =
    (pending_given c.args.self.now.pending _ _ c.take_first.result (sym c.is_empty.ensures ∙ c.if-is_empty.false) (take_gives c.take_first.result _ _ _ c.take_first.ensures.none c.take_first.ensures.same c.take_first.ensures.some refl), λ i. refl)

pub returns-clause-fits : goal.returns-clause-fits
returns-clause-fits g c = λ t x s k.
    next_fits t c.args.self.now.registered.items _ _ _ c.take_first.result _ refl k.named k.quiet (take_gives c.take_first.result _ _ _ c.take_first.ensures.none c.take_first.ensures.same c.take_first.ensures.some refl) k.agrees
