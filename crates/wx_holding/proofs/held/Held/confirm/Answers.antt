use Rattle.std.proofs.Common.{inl, inr, refl, ap, ◌∙◌}
use Rattle.wx_holding.specs.Holding.{state_of}
use Rattle.wx_holding.proofs.LettingGo.{unwatched_registrations}
use Rattle.wx_holding.proofs.StandingBy.{never_changed, now_registered, still_before}
use Rattle.wx_recursor.specs.Identities.{refusal}
use Rattle.wx_holding.proofs.held.Held.confirm.Goals as goal

pub returns-then-is_still-clause-watches : goal.returns-then-is_still-clause-watches
returns-then-is_still-clause-watches g c = inl (record { path = c.in_ok-copy.field-0; identity = c.in_ok-copy-2.field-0 }, c.in_ok-copy.ensures, c.in_ok-push.ensures, refl)

pub returns-clause-watches : goal.returns-clause-watches
returns-clause-watches g c =
    let u = c.in_ok-unwatch.ensures.state in
    inr (ap (λ x. x.registrations) u.1 ∙ unwatched_registrations c.args.path.now (refusal u.0) _, c.in_ok-unwatch.ensures.watches)

pub returns-then-is_still-clause-calm : goal.returns-then-is_still-clause-calm
returns-then-is_still-clause-calm g c = λ t links still fit named.
    (now_registered c.args.path.now c.in_ok-copy.field-0 c.args.identity.now c.in_ok-copy-2.field-0 _ _ (state_of c.args.self.now) c.in_ok-copy.ensures c.in_ok-copy-2.ensures c.in_ok-push.ensures c.without.ensures, refl, refl)

pub returns-clause-calm : goal.returns-clause-calm
returns-clause-calm g c = λ t links still fit named.
    never_changed t c.args.path.now c.args.identity.now _ _ _ fit named
    (c.in_ok-second.ensures.told t links (still_before t _ _ _ c.in_ok-unwatch.ensures.looked still) fit.0)
    c.is_still.ensures c.if-is_still.false
