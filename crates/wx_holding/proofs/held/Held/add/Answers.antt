use Rattle.std.proofs.Common.{ap, refl, subst, sym, ◌∙◌}
use Rattle.std.specs.Prelude.{None}
use Rattle.std.proofs.lemmas.Result.{IfOk-weaker}
use Rattle.wx_recursor.specs.declared.answers.Watched.TheVariants.{Failed, Kept}
use Rattle.wx_holding.specs.Holding.{state_of}
use Rattle.wx_holding.proofs.Results.{if_both, ok_map}
use Rattle.wx_holding.proofs.Added.{answers, excludes, leaves, shares}
use Rattle.wx_holding.proofs.Watching.{keeps_failed, keeps_same}
use Rattle.wx_holding.proofs.LettingGo.{keeps_added, not_registered, refused_registrations}
use Rattle.wx_holding.specs.Calm.{StandsBy}
use Rattle.wx_holding.proofs.StandingBy.{at_tree, calm_excludes, calm_leaves, calm_registers, calm_shares, is_exact, none_refused, spell_all, spells_as, stands_more, still_after, still_before}
use Rattle.wx_holding.proofs.held.Held.add.Goals as goal

pub returns-then-is_known_otherwise-clause-state : goal.returns-then-is_known_otherwise-clause-state
returns-then-is_known_otherwise-clause-state g c =
    excludes c.args.path.now c.in_ok-copy.field-0 c.args.identity.now c.push.new.self.items (state_of c.args.self.now) (sym c.is_known_otherwise.ensures ∙ c.if-is_known_otherwise.true) c.in_ok-copy.ensures c.in_ok-push.ensures.items

pub returns-then-is_registered-clause-state : goal.returns-then-is_registered-clause-state
returns-then-is_registered-clause-state g c = shares c.args.path.now c.args.identity.now (state_of c.args.self.now) (sym c.is_known_otherwise.ensures ∙ c.if-is_known_otherwise.false) (sym c.is_registered.ensures ∙ c.if-is_registered.true)

pub returns-then-is_held_back-clause-state : goal.returns-then-is_held_back-clause-state
returns-then-is_held_back-clause-state g c = leaves c.args.path.now c.args.identity.now (state_of c.args.self.now) (sym c.is_known_otherwise.ensures ∙ c.if-is_known_otherwise.false) (sym c.is_registered.ensures ∙ c.if-is_registered.false) (sym c.is_held_back.ensures ∙ c.if-is_held_back.true)

pub returns-in-Ok-clause-state : goal.returns-in-Ok-clause-state
returns-in-Ok-clause-state g c =
    IfOk-weaker c.confirm.result _ _
    (λ end h. answers c.args.path.now c.args.identity.now (Kept h.0) h.1 (state_of c.args.self.now) _ end (sym c.is_known_otherwise.ensures ∙ c.if-is_known_otherwise.false) (sym c.is_registered.ensures ∙ c.if-is_registered.false) (sym c.is_held_back.ensures ∙ c.if-is_held_back.false) h.2 h.3)
    c.confirm.ensures.state

pub returns-clause-state : goal.returns-clause-state
returns-clause-state g c =
    if_both c.refuse.result _ _ _
    (λ end h k. answers c.args.path.now c.args.identity.now (Failed c.in-Err.fault) None (state_of c.args.self.now) _ end (sym c.is_known_otherwise.ensures ∙ c.if-is_known_otherwise.false) (sym c.is_registered.ensures ∙ c.if-is_registered.false) (sym c.is_held_back.ensures ∙ c.if-is_held_back.false) h k)
    c.refuse.ensures.state c.refuse.ensures.end

pub returns-then-is_known_otherwise-clause-watches : goal.returns-then-is_known_otherwise-clause-watches
returns-then-is_known_otherwise-clause-watches g c = keeps_same _ _ _ refl

pub returns-then-is_registered-clause-watches : goal.returns-then-is_registered-clause-watches
returns-then-is_registered-clause-watches g c = keeps_same _ _ _ refl

pub returns-then-is_held_back-clause-watches : goal.returns-then-is_held_back-clause-watches
returns-then-is_held_back-clause-watches g c = keeps_same _ _ _ refl

pub returns-in-Ok-clause-watches : goal.returns-in-Ok-clause-watches
returns-in-Ok-clause-watches g c =
    ok_map c.confirm.result _ _
    (λ h. keeps_added c.args.path.now _ _ _ _ _ _ c.in_ok-spelled.ensures.spelled c.in_ok-spelled.ensures.back
    (not_registered c.args.path.now c.args.identity.now (state_of c.args.self.now) (sym c.is_known_otherwise.ensures ∙ c.if-is_known_otherwise.false) (sym c.is_registered.ensures ∙ c.if-is_registered.false))
    c.in-Ok.ensures.changes h)
    c.confirm.ensures.watches

pub returns-clause-watches : goal.returns-clause-watches
returns-clause-watches g c = ok_map c.refuse.result _ _ (λ h. keeps_failed _ _ _ _ _ _ _ c.in-Err.ensures.changes (ap (λ x. x.registrations) h ∙ refused_registrations c.args.path.now c.in-Err.fault (state_of c.args.self.now))) c.refuse.ensures.state

pub returns-then-is_known_otherwise-clause-calm : goal.returns-then-is_known_otherwise-clause-calm
returns-then-is_known_otherwise-clause-calm g c = λ t calm fit named.
    (calm_excludes t c.args.path.now c.in_ok-copy.field-0 c.args.identity.now c.push.new.self.items (state_of c.args.self.now) (sym c.is_known_otherwise.ensures ∙ c.if-is_known_otherwise.true) c.in_ok-copy.ensures c.in_ok-push.ensures.items, calm.stands)

pub returns-then-is_registered-clause-calm : goal.returns-then-is_registered-clause-calm
returns-then-is_registered-clause-calm g c = λ t calm fit named.
    (calm_shares t c.args.path.now c.args.identity.now (state_of c.args.self.now) (sym c.is_known_otherwise.ensures ∙ c.if-is_known_otherwise.false) (sym c.is_registered.ensures ∙ c.if-is_registered.true), calm.stands)

pub returns-then-is_held_back-clause-calm : goal.returns-then-is_held_back-clause-calm
returns-then-is_held_back-clause-calm g c = λ t calm fit named.
    (calm_leaves t c.args.path.now c.args.identity.now (state_of c.args.self.now) (sym c.is_known_otherwise.ensures ∙ c.if-is_known_otherwise.false) (sym c.is_registered.ensures ∙ c.if-is_registered.false) (sym c.is_held_back.ensures ∙ c.if-is_held_back.true), calm.stands)

pub returns-in-Ok-clause-calm : goal.returns-in-Ok-clause-calm
returns-in-Ok-clause-calm g c = λ t calm fit named.
    let s = state_of c.args.self.now in
    let first = still_before t _ _ _ c.confirm.ensures.looked calm.still in
    let here = at_tree t _ _ _ calm.stands in
    let spells = spells_as t c.args.path.now _ c.in_ok-spelled.ensures.spelled fit.0 in
    let seen = c.in-Ok.ensures.fits t (is_exact t _ _ _ here.exact first) (spell_all t _ c.args.path.now _ _ spells here) (λ never. cc) here.seen in
    IfOk-weaker c.confirm.result _ _
    (λ end h. (
      calm_registers t c.args.path.now c.args.identity.now s _ end (sym c.is_known_otherwise.ensures ∙ c.if-is_known_otherwise.false) (sym c.is_registered.ensures ∙ c.if-is_registered.false) (sym c.is_held_back.ensures ∙ c.if-is_held_back.false) fit named h.0 h.1,
      subst (λ x. StandsBy t (state_of c.confirm.new.self).registrations (g.B.Backend.backing x) (g.B.Backend.fits x t)) (sym h.2)
          (stands_more t c.args.path.now c.args.identity.now _ s.registrations _ _ _ _ _ c.in_ok-spelled.ensures.spelled c.in_ok-spelled.ensures.back fit.0 c.in-Ok.ensures.changes (ap (λ x. x.registrations) h.0) calm.stands seen),
    ))
    (c.confirm.ensures.calm t calm.links (still_after t _ _ _ c.in-Ok.ensures.looked calm.still) fit named)

pub returns-clause-calm : goal.returns-clause-calm
returns-clause-calm g c = λ t calm fit named.
    none_refused t c.args.path.now c.in-Err.fault _ fit (sym c.is_memory.ensures ∙ c.if-is_memory.false)
    (c.in-Err.ensures.exact t c.args.path.now (is_exact t _ _ _ calm.stands.exact calm.still) (spells_as t c.args.path.now _ c.in_ok-spelled.ensures.spelled fit.0))
