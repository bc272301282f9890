-- What is forgotten before is forgotten after, and the whole is the release.
use Rattle.std.proofs.Common.{◌≡◌, List, [], ◌∷◌, refl, ap, ◌∙◌}
use Rattle.std.specs.Prelude.{Option, Some, None}
use Rattle.wx_watch.specs.declared.notify_fault.NotifyFault.{NotifyFault}
use Rattle.wx_tree.specs.Paths.{Path}
use Rattle.wx_recursor.specs.States.{RecursorState}
use Rattle.wx_recursor.specs.Identities.{refusal}
use Rattle.wx_recursor.specs.Holding.{still_known}
use Rattle.wx_recursor.specs.Owning.{unwatched}
use Rattle.wx_recursor.specs.Steps.{asked_for_lost, idle_registrations, released, serving_registrations, unwatch_each}
use Rattle.wx_recursor.specs.declared.known.Known.{Known}

abbrev with_known : List Known → RecursorState → RecursorState
with_known ks s = record s { known = ks }

unwatched_known : (p : Path) (u : Option NotifyFault) (ks : List Known) (s : RecursorState) → unwatched p u (with_known ks s) ≡ with_known ks (unwatched p u s)
unwatched_known p None ks s = refl
unwatched_known p (Some f) ks s = refl

each_known : (gs : List Known) (us : List (Option NotifyFault)) (ks : List Known) (s : RecursorState) → unwatch_each gs us (with_known ks s) ≡ with_known ks (unwatch_each gs us s)
each_known [] us ks s = refl
each_known (g ∷ gs) [] ks s = refl
each_known (g ∷ gs) (u ∷ us) ks s = ap (λ x. unwatch_each gs us x) (unwatched_known g.path (refusal u) ks s) ∙ each_known gs us ks (unwatched g.path (refusal u) s)

abbrev trims : RecursorState → RecursorState
trims s = record s { registrations = serving_registrations s.known s.guards s.registrations; waiting = serving_registrations s.known s.guards s.waiting }

-- what is given up was idle before
pub idle_from : (s a : RecursorState) (gs hs : List Known) → a ≡ with_known (still_known s.owners s.known) s → gs ≡ idle_registrations a.known a.guards a.registrations → hs ≡ gs → hs ≡ idle_registrations (still_known s.owners s.known) s.guards s.registrations
idle_from s a gs hs e f is = is ∙ (f ∙ ap (λ x. idle_registrations x.known x.guards x.registrations) e)

pub released_from : (s a b d t : RecursorState) (gs hs : List Known) (us : List (Option NotifyFault)) → a ≡ with_known (still_known s.owners s.known) s → gs ≡ idle_registrations a.known a.guards a.registrations → hs ≡ gs → b ≡ unwatch_each hs us a → d ≡ trims b → t ≡ asked_for_lost d → t ≡ released us s
released_from s a b d t gs hs us e f is g h k =
    let ks : List Known = still_known s.owners s.known in
    let idle : List Known = idle_registrations ks s.guards s.registrations in
    let f' : hs ≡ idle = idle_from s a gs hs e f is in
    let g' : b ≡ with_known ks (unwatch_each idle us s) = g ∙ ap (λ x. unwatch_each x us a) f' ∙ ap (λ x. unwatch_each idle us x) e ∙ each_known idle us ks s in
    k ∙ ap asked_for_lost (h ∙ ap trims g')
