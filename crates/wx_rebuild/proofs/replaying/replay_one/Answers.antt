use Rattle.std.proofs.Common.{◌∷◌, [], ◌++◌, ◌∙◌, ap, inl, subst, sym}
use Rattle.wx_recursor.specs.declared.answers.Watched.TheVariants.{Failed}
use Rattle.wx_scan.specs.Backings.{is_watch_fault}
use Rattle.wx_holding.specs.Holding.{state_of}
use Rattle.wx_holding.proofs.Results.{ok_map}
use Rattle.wx_holding.proofs.Watching.{keeps_failed, keeps_watch}
use Rattle.wx_rebuild.specs.Shown.{HaveCauses}
use Rattle.wx_rebuild.proofs.Caused.{gone_or_rose, refused_causes}
use Rattle.wx_rebuild.proofs.Replayed.{refused_registrations, replays_kept}
use Rattle.wx_rebuild.proofs.replaying.replay_one.Goals as goal

pub returns-in-Ok-clause-state : goal.returns-in-Ok-clause-state
returns-in-Ok-clause-state g c = replays_kept c.args.registration.now c.in_ok-copy-in-Ok.field-0 _ (state_of c.args.held.now) c.in_ok-push-in-Ok.ensures c.in_ok-copy-in-Ok.ensures

pub returns-in-Ok-clause-watches : goal.returns-in-Ok-clause-watches
returns-in-Ok-clause-watches g c =
    keeps_watch c.args.registration.now _ is_watch_fault _ _ _ _ c.in_ok-spelled.ensures.spelled c.in_ok-spelled.ensures.back c.in-Ok.ensures.changes
    (c.in_ok-push-in-Ok.ensures ∙ ap (λ x. (state_of c.args.held.now).registrations ++ x ∷ []) c.in_ok-copy-in-Ok.ensures)

pub returns-clause-state : goal.returns-clause-state
returns-clause-state g c = ok_map c.refuse.result _ _ (λ h. (Failed c.in-Err.fault, h)) c.refuse.ensures

pub returns-clause-watches : goal.returns-clause-watches
returns-clause-watches g c = ok_map c.refuse.result _ _ (λ h. keeps_failed _ _ _ _ _ _ _ c.in-Err.ensures.changes (ap (λ x. x.registrations) h ∙ refused_registrations c.args.registration.now c.in-Err.fault (state_of c.args.held.now))) c.refuse.ensures

pub returns-in-Ok-clause-causes : goal.returns-in-Ok-clause-causes
returns-in-Ok-clause-causes g c = record { shown = λ x m. inl m; asks = λ asks. inl asks; faults = c.in-Ok.ensures.changes.faults }

pub returns-clause-causes : goal.returns-clause-causes
returns-clause-causes g c =
    let changes = c.in-Err.ensures.changes in
    ok_map c.refuse.result _ _
    (λ h. subst (λ t. HaveCauses (state_of c.args.held.now) t (g.B.Backend.backing c.args.back.now).faults (g.B.Backend.backing c.watch.new.self).faults) (sym h)
    (refused_causes c.args.registration.now c.in-Err.fault (state_of c.args.held.now) _ _ changes.faults (gone_or_rose c.in-Err.fault.kind _ (sym c.is_memory.ensures ∙ c.if-is_memory.false) changes.failed)))
    c.refuse.ensures
