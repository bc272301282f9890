use Rattle.std.proofs.Common.{refl, ap, sym, ◌∙◌, inl, inr}
use Rattle.wx_recursor.specs.States.{RecursorState}
use Rattle.wx_recursor.specs.Steps.{swept}
use Rattle.wx_holding.specs.Holding.{state_of}
use Rattle.wx_holding.proofs.Results.{ok_map}
use Rattle.wx_holding.proofs.StandingBy.{stands_same}
use Rattle.wx_step.proofs.Acted.{drop_self, first_asks, firsts_sweep, firsts_work}
use Rattle.wx_step.proofs.Calmed.{first_plain, firsts_calm, sweep_calm}
use Rattle.wx_step.proofs.stepping.first.Goals as goal

pub act-requires : goal.act-requires
act-requires g c = first_asks (g.D.DirCheck.under c.args.dirs.now) c.args.held.now.queue.items c.pop_front.new.self.items c.in-Some.work c.in-Some.ensures.items c.requires

pub returns-in-None-clause-state : goal.returns-in-None-clause-state
returns-in-None-clause-state g c =
    let a = c.in-None.ensures.items in
    firsts_sweep (state_of c.args.held.now) (state_of c.sweep.new.self) (drop_self _ _ a c.in-None.ensures.rest) (c.sweep.ensures ∙ ap (λ q. record (swept (state_of c.args.held.now)) { queue = q }) (sym a))

pub returns-in-Some-clause-state : goal.returns-in-Some-clause-state
returns-in-Some-clause-state g c = ok_map c.act.result _ _ (λ h. firsts_work c.pop_front.new.self.items c.in-Some.work (state_of c.args.held.now) (record (state_of c.args.held.now) { queue = c.pop_front.new.self.items }) (state_of c.act.new.held) c.in-Some.ensures.items refl h) c.act.ensures.state

pub returns-in-None-clause-raised : goal.returns-in-None-clause-raised
returns-in-None-clause-raised g c = inr (drop_self _ _ c.in-None.ensures.items c.in-None.ensures.rest)

pub returns-in-Some-clause-raised : goal.returns-in-Some-clause-raised
returns-in-Some-clause-raised g c = ok_map c.act.result _ _ (λ h. inl h) c.act.ensures.raised

pub returns-in-None-clause-calm : goal.returns-in-None-clause-calm
returns-in-None-clause-calm g c = λ t ok calm named agreed readable.
    let a = c.in-None.ensures.items in (
      sweep_calm t ok (state_of c.args.held.now) (state_of c.sweep.new.self) (drop_self _ _ a c.in-None.ensures.rest) (c.sweep.ensures ∙ ap (λ q. record (swept (state_of c.args.held.now)) { queue = q }) (sym a)),
      stands_same t (state_of c.args.held.now).registrations (state_of c.sweep.new.self).registrations (g.B.Backend.backing c.args.back.now) (g.B.Backend.fits c.args.back.now t) (ap (λ (x : RecursorState). x.registrations) c.sweep.ensures) calm.stands,
    )

pub returns-in-Some-clause-calm : goal.returns-in-Some-clause-calm
returns-in-Some-clause-calm g c = λ t ok calm named agreed readable.
    let p = first_plain t c.args.held.now.queue.items c.pop_front.new.self.items c.in-Some.work c.in-Some.ensures.items readable in
    ok_map c.act.result _ _
    (λ h. (firsts_calm t ok c.pop_front.new.self.items c.in-Some.work p.0 (state_of c.args.held.now) (record (state_of c.args.held.now) { queue = c.pop_front.new.self.items }) (state_of c.act.new.held) c.in-Some.ensures.items refl p.1 h.0, h.1))
    (c.act.ensures.calm t ok p.0 p.1 calm named agreed p.2)
