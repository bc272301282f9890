use Rattle.std.specs.Prelude.{Some}
use Rattle.wx_holding.proofs.Results.{ok_map}
use Rattle.std.proofs.Common.{sym, subst, ◌∙◌, ◌∷◌, []}
use Rattle.wx_holding.specs.Backed.{LetsGo}
use Rattle.wx_holding.proofs.LettingGo.{lets_go, lets_go_failed}
use Rattle.wx_holding.proofs.StandingBy.{calm_unwatched, is_exact, refused_none, registered_there, spell_there}
use Rattle.wx_holding.proofs.held.Held.unwatch.Goals as goal

pub returns-clause-state : goal.returns-clause-state
returns-clause-state g c = ok_map c.show_refusal.result _ _ (λ h. (Some c.in-Err.fault, h)) c.show_refusal.ensures

pub returns-in-Ok-clause-watches : goal.returns-in-Ok-clause-watches
returns-in-Ok-clause-watches g c = subst (λ x. LetsGo (x ∷ []) (g.B.Backend.backing c.args.back.now) (g.B.Backend.backing c.unwatch.new.self)) c.in_ok-spelled.ensures.spelled (lets_go _ _ _ _ c.in-Ok.ensures.changes)

pub returns-clause-watches : goal.returns-clause-watches
returns-clause-watches g c = ok_map c.show_refusal.result _ _
    (λ h. subst (λ x. LetsGo (x ∷ []) (g.B.Backend.backing c.args.back.now) (g.B.Backend.backing c.unwatch.new.self)) c.in_ok-spelled.ensures.spelled (lets_go_failed _ _ _ _ (sym c.is_memory.ensures ∙ c.if-is_memory.false) c.in-Err.ensures.changes))
    c.show_refusal.ensures

pub returns-in-Ok-clause-calm : goal.returns-in-Ok-clause-calm
returns-in-Ok-clause-calm g c = λ t still h there.
    calm_unwatched t c.args.path.now _ _ _ _ _ _ _ c.in_ok-spelled.ensures.spelled c.in-Ok.ensures.changes h
    (c.in-Ok.ensures.fits t (is_exact t _ _ _ h.exact still) (spell_there t c.args.path.now _ _ _ c.in_ok-spelled.ensures.spelled there h) (λ never. cc) h.seen)

pub returns-clause-calm : goal.returns-clause-calm
returns-clause-calm g c = λ t still h there.
    refused_none c.in-Err.fault _ (sym c.is_memory.ensures ∙ c.if-is_memory.false) (c.in-Err.ensures.exact t (is_exact t _ _ _ h.exact still) (registered_there c.args.path.now _ _ c.in_ok-spelled.ensures.spelled there))
