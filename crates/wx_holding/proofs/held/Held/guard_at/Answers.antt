use Rattle.wx_holding.specs.Holding.{state_of}
use Rattle.wx_holding.proofs.Results.{ok_map}
use Rattle.wx_holding.proofs.Acts.{guards_faulty, guards_nowhere, not_at, not_faulty}
use Rattle.std.proofs.Common.{ap, sym, ◌∙◌}
use Rattle.wx_tree.proofs.ResultLemmas.{ok_always}
use Rattle.wx_holding.proofs.Watching.{keeps_same}
use Rattle.wx_holding.proofs.LettingGo.{retry_registrations}
use Rattle.wx_tree.specs.Trees.{guard_of}
use Rattle.wx_holding.proofs.CalmActs.{guards_calm_nowhere, never_faulty}
use Rattle.wx_holding.proofs.held.Held.guard_at.Goals as goal
use Rattle.wx_holding.proofs.StandingBy.{stands_same}

pub returns-in-Nowhere-clause-state : goal.returns-in-Nowhere-clause-state
returns-in-Nowhere-clause-state g c =
    ok_map c.look_again.result _ _ (λ h. guards_nowhere c.args.root.now c.args.found (state_of c.args.self.now) (state_of c.unguard.new.self) (state_of c.look_again.new.self) c.in-Nowhere.is c.unguard.ensures h) c.look_again.ensures.state

pub returns-in_ok-show_scan-in-Faulty-clause-state : goal.returns-in_ok-show_scan-in-Faulty-clause-state
returns-in_ok-show_scan-in-Faulty-clause-state g c =
    ok_map c.keep_retry.result _ _ (λ h. guards_faulty c.args.root.now c.args.found c.in-Faulty.path c.in-Faulty.code (state_of c.args.self.now) (state_of c.show_scan.new.self) (state_of c.keep_retry.new.self) c.in-Faulty.is c.in_ok-show_scan-in-Faulty.ensures h) c.keep_retry.ensures

pub returns-in-Nowhere-clause-watches : goal.returns-in-Nowhere-clause-watches
returns-in-Nowhere-clause-watches g c = ok_map c.look_again.result _ _ (λ h. keeps_same _ _ _ (ap (λ x. x.registrations) h.1 ∙ ap (λ x. x.registrations) c.unguard.ensures)) c.look_again.ensures.state

pub returns-in_ok-show_scan-in-Faulty-clause-watches : goal.returns-in_ok-show_scan-in-Faulty-clause-watches
returns-in_ok-show_scan-in-Faulty-clause-watches g c = ok_map c.keep_retry.result _ _ (λ h. keeps_same _ _ _ (ap (λ x. x.registrations) h ∙ (retry_registrations c.args.root.now c.args.root.now.path (state_of c.show_scan.new.self) ∙ ap (λ x. x.registrations) c.in_ok-show_scan-in-Faulty.ensures))) c.keep_retry.ensures

pub returns-in-Nowhere-clause-raised : goal.returns-in-Nowhere-clause-raised
returns-in-Nowhere-clause-raised g c = ok_map c.look_again.result _ _ (λ h e. h) c.look_again.ensures.raised

pub returns-in-At-clause-raised : goal.returns-in-At-clause-raised
returns-in-At-clause-raised g c = ok_always c.guard_by.result _ (not_at c.args.found c.in-At.path c.in-At.identity _ c.in-At.is)

pub returns-in_ok-show_scan-in-Faulty-clause-raised : goal.returns-in_ok-show_scan-in-Faulty-clause-raised
returns-in_ok-show_scan-in-Faulty-clause-raised g c = ok_always c.keep_retry.result _ (not_faulty c.args.found c.in-Faulty.path c.in-Faulty.code _ c.in-Faulty.is)

pub returns-in-Nowhere-clause-calm : goal.returns-in-Nowhere-clause-calm
returns-in-Nowhere-clause-calm g c = λ t calm names found.
    ok_map c.look_again.result _ _
    (λ h. (guards_calm_nowhere t c.args.root.now c.args.found (state_of c.args.self.now) (state_of c.unguard.new.self) (state_of c.look_again.new.self) c.in-Nowhere.is found c.unguard.ensures h, stands_same t _ _ _ _ (ap (λ x. x.registrations) h ∙ ap (λ x. x.registrations) c.unguard.ensures) calm.stands))
    (c.look_again.ensures.told t calm.links calm.still names)

pub returns-in-At-clause-calm : goal.returns-in-At-clause-calm
returns-in-At-clause-calm g c = λ t calm names found. c.guard_by.ensures.calm t calm names (sym c.in-At.is ∙ found)

pub returns-in_ok-show_scan-in-Faulty-clause-calm : goal.returns-in_ok-show_scan-in-Faulty-clause-calm
returns-in_ok-show_scan-in-Faulty-clause-calm g c = λ t calm names found. never_faulty c.in-Faulty.path c.in-Faulty.code c.args.found (guard_of t c.args.root.now.path) _ c.in-Faulty.is found
