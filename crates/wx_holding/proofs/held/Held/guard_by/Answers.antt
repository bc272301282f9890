use Rattle.std.proofs.Common.{refl, false}
use Rattle.wx_recursor.specs.declared.answers.AddResult.TheVariants.{LeftOut, Stands, TryAgain, Vanished}
use Rattle.wx_holding.specs.Holding.{state_of}
use Rattle.wx_holding.proofs.Results.{ok_map}
use Rattle.wx_holding.proofs.Acts.{guards_by}
use Rattle.std.proofs.Common.{ap, ◌∙◌}
use Rattle.wx_holding.proofs.Watching.{keeps_more, keeps_same}
use Rattle.wx_holding.proofs.LettingGo.{retry_registrations}
use Rattle.wx_holding.proofs.CalmActs.{calm_sooner, fit_guard, guard_identity, guards_calm_at, still_later}
use Rattle.wx_holding.proofs.held.Held.guard_by.Goals as goal
use Rattle.wx_holding.proofs.StandingBy.{stands_same}

pub returns-in-Stands-clause-state : goal.returns-in-Stands-clause-state
returns-in-Stands-clause-state g c =
    let a = c.in_ok-add.ensures.state in
    ok_map c.put_and_look.result _ _ (λ h. guards_by c.args.root.now c.args.path c.args.identity (state_of c.args.self.now) (state_of c.add.new.self) (state_of c.put_and_look.new.self) a.0 a.1 _ Stands h.0 a.2 a.3 c.in-Stands.is h.1) c.put_and_look.ensures.state

pub returns-in-Vanished-clause-state : goal.returns-in-Vanished-clause-state
returns-in-Vanished-clause-state g c =
    let a = c.in_ok-add.ensures.state in
    ok_map c.keep_retry.result _ _ (λ h. guards_by c.args.root.now c.args.path c.args.identity (state_of c.args.self.now) (state_of c.add.new.self) (state_of c.keep_retry.new.self) a.0 a.1 _ Vanished false a.2 a.3 c.in-Vanished.is h) c.keep_retry.ensures

pub returns-in-TryAgain-clause-state : goal.returns-in-TryAgain-clause-state
returns-in-TryAgain-clause-state g c =
    let a = c.in_ok-add.ensures.state in
    ok_map c.queue_guard.result _ _ (λ h. guards_by c.args.root.now c.args.path c.args.identity (state_of c.args.self.now) (state_of c.add.new.self) (state_of c.queue_guard.new.self) a.0 a.1 _ TryAgain false a.2 a.3 c.in-TryAgain.is h) c.queue_guard.ensures

pub returns-in-LeftOut-clause-state : goal.returns-in-LeftOut-clause-state
returns-in-LeftOut-clause-state g c =
    let a = c.in_ok-add.ensures.state in
    guards_by c.args.root.now c.args.path c.args.identity (state_of c.args.self.now) (state_of c.add.new.self) (state_of c.add.new.self) a.0 a.1 _ LeftOut false a.2 a.3 c.in-LeftOut.is refl

pub returns-in-Stands-clause-watches : goal.returns-in-Stands-clause-watches
returns-in-Stands-clause-watches g c = ok_map c.put_and_look.result _ _ (λ h. keeps_more _ _ _ _ _ _ c.in_ok-add.ensures.watches (keeps_same _ _ _ (ap (λ x. x.registrations) h.1))) c.put_and_look.ensures.state

pub returns-in-Vanished-clause-watches : goal.returns-in-Vanished-clause-watches
returns-in-Vanished-clause-watches g c = ok_map c.keep_retry.result _ _ (λ h. keeps_more _ _ _ _ _ _ c.in_ok-add.ensures.watches (keeps_same _ _ _ (ap (λ x. x.registrations) h ∙ retry_registrations c.args.root.now c.args.root.now.path (state_of c.add.new.self)))) c.keep_retry.ensures

pub returns-in-TryAgain-clause-watches : goal.returns-in-TryAgain-clause-watches
returns-in-TryAgain-clause-watches g c = ok_map c.queue_guard.result _ _ (λ h. keeps_more _ _ _ _ _ _ c.in_ok-add.ensures.watches (keeps_same _ _ _ (ap (λ x. x.registrations) h))) c.queue_guard.ensures

pub returns-in-LeftOut-clause-watches : goal.returns-in-LeftOut-clause-watches
returns-in-LeftOut-clause-watches g c = c.in_ok-add.ensures.watches

pub returns-in-Stands-clause-calm : goal.returns-in-Stands-clause-calm
returns-in-Stands-clause-calm g c = λ t calm names found.
    let a = c.in_ok-add.ensures.calm t (calm_sooner t c.args.follow _ _ _ _ _ _ calm c.put_and_look.ensures.looked) (fit_guard t c.args.root.now c.args.path c.args.identity names found) (guard_identity t c.args.root.now c.args.path c.args.identity found) in
    ok_map c.put_and_look.result _ _
    (λ h. (guards_calm_at t c.args.root.now c.args.path c.args.identity (state_of c.args.self.now) (state_of c.add.new.self) (state_of c.put_and_look.new.self) _ Stands found a.0 c.in-Stands.is h, stands_same t _ _ _ _ (ap (λ x. x.registrations) h) a.1))
    (c.put_and_look.ensures.calm t calm.links (still_later t _ _ _ calm.still c.in_ok-add.ensures.looked) names)

pub returns-in-Vanished-clause-calm : goal.returns-in-Vanished-clause-calm
returns-in-Vanished-clause-calm g c = λ t calm names found.
    let a = c.in_ok-add.ensures.calm t calm (fit_guard t c.args.root.now c.args.path c.args.identity names found) (guard_identity t c.args.root.now c.args.path c.args.identity found) in
    ok_map c.keep_retry.result _ _
    (λ h. (guards_calm_at t c.args.root.now c.args.path c.args.identity (state_of c.args.self.now) (state_of c.add.new.self) (state_of c.keep_retry.new.self) _ Vanished found a.0 c.in-Vanished.is h, stands_same t (state_of c.add.new.self).registrations (state_of c.keep_retry.new.self).registrations _ _ (ap (λ x. x.registrations) h ∙ retry_registrations c.args.root.now c.args.root.now.path (state_of c.add.new.self)) a.1))
    c.keep_retry.ensures

pub returns-in-TryAgain-clause-calm : goal.returns-in-TryAgain-clause-calm
returns-in-TryAgain-clause-calm g c = λ t calm names found.
    let a = c.in_ok-add.ensures.calm t calm (fit_guard t c.args.root.now c.args.path c.args.identity names found) (guard_identity t c.args.root.now c.args.path c.args.identity found) in
    ok_map c.queue_guard.result _ _
    (λ h. (guards_calm_at t c.args.root.now c.args.path c.args.identity (state_of c.args.self.now) (state_of c.add.new.self) (state_of c.queue_guard.new.self) _ TryAgain found a.0 c.in-TryAgain.is h, stands_same t _ _ _ _ (ap (λ x. x.registrations) h) a.1))
    c.queue_guard.ensures

pub returns-in-LeftOut-clause-calm : goal.returns-in-LeftOut-clause-calm
returns-in-LeftOut-clause-calm g c = λ t calm names found.
    let a = c.in_ok-add.ensures.calm t calm (fit_guard t c.args.root.now c.args.path c.args.identity names found) (guard_identity t c.args.root.now c.args.path c.args.identity found) in
    (guards_calm_at t c.args.root.now c.args.path c.args.identity (state_of c.args.self.now) (state_of c.add.new.self) (state_of c.add.new.self) _ LeftOut found a.0 c.in-LeftOut.is refl, a.1)
