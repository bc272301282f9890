use Rattle.std.proofs.Common.{ap}
use Rattle.wx_holding.proofs.Watching.{keeps_more, keeps_same}
use Rattle.wx_holding.proofs.Results.{ok_map}
use Rattle.wx_holding.specs.Holding.{state_of}
use Rattle.wx_recursor.specs.declared.answers.AddResult.TheVariants.{Stands, Vanished}
use Rattle.wx_holding.proofs.StandingBy.{calm_owned, stands_same}
use Rattle.wx_holding.proofs.held.Held.own.Goals as goal

pub returns-in-Stands-clause-watches : goal.returns-in-Stands-clause-watches
returns-in-Stands-clause-watches g c = ok_map c.take_over.result _ _ (λ h. keeps_more _ _ _ _ _ _ c.in_ok-add.ensures.watches (keeps_same _ _ _ (ap (λ x. x.registrations) h))) c.take_over.ensures

pub returns-in-Vanished-clause-watches : goal.returns-in-Vanished-clause-watches
returns-in-Vanished-clause-watches g c = ok_map c.lose_gone.result _ _ (λ h. keeps_more _ _ _ _ _ _ c.in_ok-add.ensures.watches (keeps_same _ _ _ (ap (λ x. x.registrations) h))) c.lose_gone.ensures

pub returns-in-Stands-clause-calm : goal.returns-in-Stands-clause-calm
returns-in-Stands-clause-calm g c = λ t calm fit named.
    let h = c.in_ok-add.ensures.calm t calm fit named in
    ok_map c.take_over.result _ _ (λ e. (calm_owned t c.args.root.now c.args.path.now c.args.identity.now c.args.scans c.args.item (state_of c.args.self.now) _ _ _ Stands c.in-Stands.is h.0 e, stands_same t _ _ _ _ (ap (λ x. x.registrations) e) h.1)) c.take_over.ensures

pub returns-in-Vanished-clause-calm : goal.returns-in-Vanished-clause-calm
returns-in-Vanished-clause-calm g c = λ t calm fit named.
    let h = c.in_ok-add.ensures.calm t calm fit named in
    ok_map c.lose_gone.result _ _ (λ e. (calm_owned t c.args.root.now c.args.path.now c.args.identity.now c.args.scans c.args.item (state_of c.args.self.now) _ _ _ Vanished c.in-Vanished.is h.0 e, stands_same t _ _ _ _ (ap (λ x. x.registrations) e) h.1)) c.lose_gone.ensures
