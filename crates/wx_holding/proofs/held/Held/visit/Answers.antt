use Rattle.std.proofs.Common.{refl}
use Rattle.wx_holding.specs.Holding.{state_of}
use Rattle.wx_holding.proofs.Results.{ok_map}
use Rattle.wx_holding.proofs.Acts.{visits_barred, visits_fault, visits_here, visits_missing, visits_none}
use Rattle.std.proofs.Common.{ap, ◌∙◌}
use Rattle.wx_holding.proofs.Watching.{keeps_more, keeps_same}
use Rattle.wx_holding.proofs.LettingGo.{retry_registrations}
use Rattle.wx_recursor.specs.Holding.{show}
use Rattle.wx_recursor.specs.declared.errors.ScanFault.TheVariants.{Io}
use Rattle.wx_recursor.specs.declared.errors.ShownError.TheVariants.{PathScan}
use Rattle.std.proofs.Common.{sym}
use Rattle.wx_recursor.specs.Guarding.{guarded}
use Rattle.wx_recursor.specs.declared.answers.Found.TheVariants.{Barred, Fault, Missing}
use Rattle.wx_holding.proofs.CalmActs.{calm_same, fit_root, root_identity, visits_calm_guarded, visits_calm_here, visits_calm_none}
use Rattle.wx_holding.proofs.held.Held.visit.Goals as goal

pub returns-in-Missing-clause-state : goal.returns-in-Missing-clause-state
returns-in-Missing-clause-state g c = ok_map c.guard.result _ _ (λ h. visits_missing c.args.root.now c.args.found (state_of c.args.self.now) (state_of c.miss_root.new.self) (state_of c.guard.new.self) c.in-Missing.is c.in_ok-miss_root-in-Missing.ensures h) c.guard.ensures.state

pub returns-in-Barred-clause-state : goal.returns-in-Barred-clause-state
returns-in-Barred-clause-state g c = ok_map c.guard-in-Barred.result _ _ (λ h. visits_barred c.args.root.now c.args.found (state_of c.args.self.now) (state_of c.lose.new.self) _ c.in-Barred.is c.lose.ensures h) c.guard-in-Barred.ensures.state

pub returns-in-Fault-clause-state : goal.returns-in-Fault-clause-state
returns-in-Fault-clause-state g c = ok_map c.guard-in-Fault.result _ _ (λ h. visits_fault c.args.root.now c.args.found c.in-Fault.at c.in-Fault.code (state_of c.args.self.now) (state_of c.show_fault.new.self) _ c.in-Fault.is c.in_ok-show_fault-in-Fault.ensures h) c.guard-in-Fault.ensures.state

pub returns-in-Here-clause-state : goal.returns-in-Here-clause-state
returns-in-Here-clause-state g c = ok_map c.own_root.result _ _ (λ h. visits_here c.args.root.now c.args.found c.in-Here.identity (state_of c.args.self.now) _ c.in-Here.is h) c.own_root.ensures.state

pub returns-in-Rejected-clause-state : goal.returns-in-Rejected-clause-state
returns-in-Rejected-clause-state g c = visits_none c.args.root.now c.args.found _ (state_of c.args.self.now) c.in-Rejected.is (λ e. refl)

pub returns-in-Refused-clause-state : goal.returns-in-Refused-clause-state
returns-in-Refused-clause-state g c = visits_none c.args.root.now c.args.found _ (state_of c.args.self.now) c.in-Refused.is (λ e. refl)

pub returns-clause-state : goal.returns-clause-state
returns-clause-state g c = visits_none c.args.root.now c.args.found _ (state_of c.args.self.now) c.in-Entries.is (λ e. refl)

pub returns-in-Missing-clause-watches : goal.returns-in-Missing-clause-watches
returns-in-Missing-clause-watches g c = ok_map c.guard.result _ _ (λ h. keeps_more _ _ _ _ _ _ (keeps_same _ _ _ (ap (λ x. x.registrations) c.in_ok-miss_root-in-Missing.ensures)) h) c.guard.ensures.watches

pub returns-in-Barred-clause-watches : goal.returns-in-Barred-clause-watches
returns-in-Barred-clause-watches g c = ok_map c.guard-in-Barred.result _ _ (λ h. keeps_more _ _ _ _ _ _ (keeps_same _ _ _ (ap (λ x. x.registrations) c.lose.ensures)) h) c.guard-in-Barred.ensures.watches

pub returns-in-Fault-clause-watches : goal.returns-in-Fault-clause-watches
returns-in-Fault-clause-watches g c = ok_map c.guard-in-Fault.result _ _ (λ h. keeps_more _ _ _ _ _ _ (keeps_same _ _ _ (ap (λ x. x.registrations) c.in_ok-show_fault-in-Fault.ensures ∙ retry_registrations c.args.root.now c.args.root.now.path (show (PathScan c.in-Fault.at (Io c.in-Fault.code)) (state_of c.args.self.now)))) h) c.guard-in-Fault.ensures.watches

pub returns-in-Rejected-clause-watches : goal.returns-in-Rejected-clause-watches
returns-in-Rejected-clause-watches g c = keeps_same _ _ _ refl

pub returns-in-Refused-clause-watches : goal.returns-in-Refused-clause-watches
returns-in-Refused-clause-watches g c = keeps_same _ _ _ refl

pub returns-clause-watches : goal.returns-clause-watches
returns-clause-watches g c = keeps_same _ _ _ refl

pub returns-in-Missing-clause-calm : goal.returns-in-Missing-clause-calm
returns-in-Missing-clause-calm g c = λ t calm names found.
    ok_map c.guard.result _ _
    (λ h. (visits_calm_guarded t c.args.root.now c.args.found Missing (state_of c.args.self.now) (state_of c.miss_root.new.self) (state_of c.guard.new.self) c.in-Missing.is refl found (λ e. ap (guarded c.args.root.now e) (sym c.in_ok-miss_root-in-Missing.ensures)) h.0, h.1))
    (c.guard.ensures.calm t (calm_same t c.args.follow _ _ _ _ _ _ (ap (λ x. x.registrations) c.in_ok-miss_root-in-Missing.ensures) calm) names)

pub returns-in-Barred-clause-calm : goal.returns-in-Barred-clause-calm
returns-in-Barred-clause-calm g c = λ t calm names found.
    ok_map c.guard-in-Barred.result _ _
    (λ h. (visits_calm_guarded t c.args.root.now c.args.found Barred (state_of c.args.self.now) (state_of c.lose.new.self) (state_of c.guard-in-Barred.new.self) c.in-Barred.is refl found (λ e. ap (guarded c.args.root.now e) (sym c.lose.ensures)) h.0, h.1))
    (c.guard-in-Barred.ensures.calm t (calm_same t c.args.follow _ _ _ _ _ _ (ap (λ x. x.registrations) c.lose.ensures) calm) names)

pub returns-in-Here-clause-calm : goal.returns-in-Here-clause-calm
returns-in-Here-clause-calm g c = λ t calm names found.
    ok_map c.own_root.result _ _
    (λ h. (visits_calm_here t c.args.root.now c.args.found c.in-Here.identity (state_of c.args.self.now) (state_of c.own_root.new.self) c.in-Here.is found h.0, h.1))
    (c.own_root.ensures.calm t calm (fit_root t c.args.root.now c.args.found c.in-Here.identity names c.in-Here.is found) (root_identity t c.args.root.now c.args.found c.in-Here.identity c.in-Here.is found))

pub returns-in-Fault-clause-calm : goal.returns-in-Fault-clause-calm
returns-in-Fault-clause-calm g c = λ t calm names found.
    let e = c.in_ok-show_fault-in-Fault.ensures in
    ok_map c.guard-in-Fault.result _ _
    (λ h. (visits_calm_guarded t c.args.root.now c.args.found (Fault c.in-Fault.at c.in-Fault.code) (state_of c.args.self.now) (state_of c.show_fault.new.self) (state_of c.guard-in-Fault.new.self) c.in-Fault.is refl found (λ v. ap (guarded c.args.root.now v) (sym e)) h.0, h.1))
    (c.guard-in-Fault.ensures.calm t (calm_same t c.args.follow _ _ _ _ _ _ (ap (λ x. x.registrations) e ∙ retry_registrations c.args.root.now c.args.root.now.path (show (PathScan c.in-Fault.at (Io c.in-Fault.code)) (state_of c.args.self.now))) calm) names)

pub returns-in-Rejected-clause-calm : goal.returns-in-Rejected-clause-calm
returns-in-Rejected-clause-calm g c = λ t calm names found. (visits_calm_none t c.args.root.now c.args.found _ (state_of c.args.self.now) c.in-Rejected.is (λ e. refl), calm.stands)

pub returns-in-Refused-clause-calm : goal.returns-in-Refused-clause-calm
returns-in-Refused-clause-calm g c = λ t calm names found. (visits_calm_none t c.args.root.now c.args.found _ (state_of c.args.self.now) c.in-Refused.is (λ e. refl), calm.stands)

pub returns-clause-calm : goal.returns-clause-calm
returns-clause-calm g c = λ t calm names found. (visits_calm_none t c.args.root.now c.args.found _ (state_of c.args.self.now) c.in-Entries.is (λ e. refl), calm.stands)
