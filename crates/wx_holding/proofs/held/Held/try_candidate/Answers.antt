use Rattle.std.proofs.Common.{refl}
use Rattle.wx_holding.specs.Holding.{state_of}
use Rattle.wx_holding.proofs.Results.{ok_map}
use Rattle.wx_holding.proofs.Acts.{tries_any, tries_here}
use Rattle.std.proofs.Common.{ap, ◌∙◌}
use Rattle.wx_holding.proofs.Watching.{keeps_same}
use Rattle.wx_holding.proofs.LettingGo.{retry_registrations}
use Rattle.wx_recursor.specs.Holding.{show}
use Rattle.wx_recursor.specs.declared.errors.ScanFault.TheVariants.{Io}
use Rattle.wx_recursor.specs.declared.errors.ShownError.TheVariants.{Filter, PathScan}
use Rattle.wx_holding.proofs.CalmActs.{candidate_identity, fit_candidate, tries_calm}
use Rattle.wx_holding.proofs.held.Held.try_candidate.Goals as goal
use Rattle.wx_holding.proofs.StandingBy.{stands_same}

pub returns-in-Missing-clause-state : goal.returns-in-Missing-clause-state
returns-in-Missing-clause-state g c = ok_map c.miss_candidate.result _ _ (λ h. tries_any c.args.root.now c.args.path.now c.args.found _ (state_of c.args.self.now) _ c.in-Missing.is h) c.miss_candidate.ensures

pub returns-in-Barred-clause-state : goal.returns-in-Barred-clause-state
returns-in-Barred-clause-state g c = tries_any c.args.root.now c.args.path.now c.args.found _ (state_of c.args.self.now) _ c.in-Barred.is c.lose.ensures

pub returns-in-Rejected-clause-state : goal.returns-in-Rejected-clause-state
returns-in-Rejected-clause-state g c = tries_any c.args.root.now c.args.path.now c.args.found _ (state_of c.args.self.now) _ c.in-Rejected.is c.lose-in-Rejected.ensures

pub returns-in-Fault-clause-state : goal.returns-in-Fault-clause-state
returns-in-Fault-clause-state g c = ok_map c.show_fault.result _ _ (λ h. tries_any c.args.root.now c.args.path.now c.args.found _ (state_of c.args.self.now) _ c.in-Fault.is h) c.show_fault.ensures

pub returns-in-Refused-clause-state : goal.returns-in-Refused-clause-state
returns-in-Refused-clause-state g c = ok_map c.show_filter.result _ _ (λ h. tries_any c.args.root.now c.args.path.now c.args.found _ (state_of c.args.self.now) _ c.in-Refused.is h) c.show_filter.ensures

pub returns-in-Here-clause-state : goal.returns-in-Here-clause-state
returns-in-Here-clause-state g c = ok_map c.own_candidate.result _ _ (λ h. tries_here c.args.root.now c.args.path.now c.args.found c.in-Here.identity (state_of c.args.self.now) _ c.in-Here.is h) c.own_candidate.ensures.state

pub returns-clause-state : goal.returns-clause-state
returns-clause-state g c = tries_any c.args.root.now c.args.path.now c.args.found _ (state_of c.args.self.now) _ c.in-Entries.is refl

pub returns-in-Missing-clause-watches : goal.returns-in-Missing-clause-watches
returns-in-Missing-clause-watches g c = ok_map c.miss_candidate.result _ _ (λ h. keeps_same _ _ _ (ap (λ x. x.registrations) h)) c.miss_candidate.ensures

pub returns-in-Barred-clause-watches : goal.returns-in-Barred-clause-watches
returns-in-Barred-clause-watches g c = keeps_same _ _ _ (ap (λ x. x.registrations) c.lose.ensures)

pub returns-in-Rejected-clause-watches : goal.returns-in-Rejected-clause-watches
returns-in-Rejected-clause-watches g c = keeps_same _ _ _ (ap (λ x. x.registrations) c.lose-in-Rejected.ensures)

pub returns-in-Fault-clause-watches : goal.returns-in-Fault-clause-watches
returns-in-Fault-clause-watches g c = ok_map c.show_fault.result _ _ (λ h. keeps_same _ _ _ (ap (λ x. x.registrations) h ∙ retry_registrations c.args.root.now c.args.path.now (show (PathScan c.in-Fault.at (Io c.in-Fault.code)) (state_of c.args.self.now)))) c.show_fault.ensures

pub returns-in-Refused-clause-watches : goal.returns-in-Refused-clause-watches
returns-in-Refused-clause-watches g c = ok_map c.show_filter.result _ _ (λ h. keeps_same _ _ _ (ap (λ x. x.registrations) h ∙ retry_registrations c.args.root.now c.args.path.now (show (Filter c.in-Refused.error) (state_of c.args.self.now)))) c.show_filter.ensures

pub returns-clause-watches : goal.returns-clause-watches
returns-clause-watches g c = keeps_same _ _ _ refl

pub returns-in-Missing-clause-calm : goal.returns-in-Missing-clause-calm
returns-in-Missing-clause-calm g c = λ t ok calm read found.
    ok_map c.miss_candidate.result _ _ (λ h. (tries_calm t ok c.args.root.now c.args.path.now c.args.found _ (state_of c.args.self.now) _ c.in-Missing.is h, stands_same t _ _ _ _ (ap (λ x. x.registrations) h) calm.stands)) c.miss_candidate.ensures

pub returns-in-Barred-clause-calm : goal.returns-in-Barred-clause-calm
returns-in-Barred-clause-calm g c = λ t ok calm read found.
    (tries_calm t ok c.args.root.now c.args.path.now c.args.found _ (state_of c.args.self.now) _ c.in-Barred.is c.lose.ensures, stands_same t _ _ _ _ (ap (λ x. x.registrations) c.lose.ensures) calm.stands)

pub returns-in-Rejected-clause-calm : goal.returns-in-Rejected-clause-calm
returns-in-Rejected-clause-calm g c = λ t ok calm read found.
    (tries_calm t ok c.args.root.now c.args.path.now c.args.found _ (state_of c.args.self.now) _ c.in-Rejected.is c.lose-in-Rejected.ensures, stands_same t _ _ _ _ (ap (λ x. x.registrations) c.lose-in-Rejected.ensures) calm.stands)

pub returns-in-Fault-clause-calm : goal.returns-in-Fault-clause-calm
returns-in-Fault-clause-calm g c = λ t ok calm read found.
    ok_map c.show_fault.result _ _ (λ h. (tries_calm t ok c.args.root.now c.args.path.now c.args.found _ (state_of c.args.self.now) _ c.in-Fault.is h, stands_same t _ _ _ _ (ap (λ x. x.registrations) h ∙ retry_registrations c.args.root.now c.args.path.now (show (PathScan c.in-Fault.at (Io c.in-Fault.code)) (state_of c.args.self.now))) calm.stands)) c.show_fault.ensures

pub returns-in-Refused-clause-calm : goal.returns-in-Refused-clause-calm
returns-in-Refused-clause-calm g c = λ t ok calm read found.
    ok_map c.show_filter.result _ _ (λ h. (tries_calm t ok c.args.root.now c.args.path.now c.args.found _ (state_of c.args.self.now) _ c.in-Refused.is h, stands_same t _ _ _ _ (ap (λ x. x.registrations) h ∙ retry_registrations c.args.root.now c.args.path.now (show (Filter c.in-Refused.error) (state_of c.args.self.now))) calm.stands)) c.show_filter.ensures

pub returns-in-Here-clause-calm : goal.returns-in-Here-clause-calm
returns-in-Here-clause-calm g c = λ t ok calm read found.
    ok_map c.own_candidate.result _ _
    (λ h. (tries_calm t ok c.args.root.now c.args.path.now c.args.found _ (state_of c.args.self.now) _ c.in-Here.is h.0, h.1))
    (c.own_candidate.ensures.calm t calm (fit_candidate t ok c.args.root.now c.args.path.now c.args.found c.in-Here.identity read c.in-Here.is found) (candidate_identity t ok c.args.root.now c.args.path.now c.args.found c.in-Here.identity c.in-Here.is found))

pub returns-clause-calm : goal.returns-clause-calm
returns-clause-calm g c = λ t ok calm read found.
    (tries_calm t ok c.args.root.now c.args.path.now c.args.found _ (state_of c.args.self.now) _ c.in-Entries.is refl, calm.stands)
