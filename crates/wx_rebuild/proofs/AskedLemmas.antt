-- Why a replay asks for a rebuild.
use Rattle.std.proofs.Common.{◌≡◌, true, List, [], ◌∷◌, inl, inr, refl, sym, ◌∙◌}
use Rattle.std.specs.Prelude.{◌⊎◌}
use Rattle.std.proofs.lemmas.Bool.{cases_Bool}
use Rattle.wx_watch.specs.declared.notify_fault.NotifyFault.{NotifyFault}
use Rattle.wx_tree.specs.Lists.{In}
use Rattle.wx_recursor.specs.Identities.{is_path_gone}
use Rattle.wx_recursor.specs.Owning.{is_resource_fault, stop}
use Rattle.wx_recursor.specs.Rebuilds.{is_replay_over, replayed, replayed_all, replayed_one}
use Rattle.wx_recursor.specs.States.{RecursorState}
use Rattle.wx_recursor.specs.declared.answers.Watched.{Watched}
use Rattle.wx_recursor.specs.declared.answers.Watched.TheVariants.{Failed, Kept}
use Rattle.wx_recursor.specs.declared.known.Known.{Known}
use Rattle.wx_rebuild.specs.Asked.{IsWatchFault, ReplayAsksFor}

stop_asks : (f : NotifyFault) (s : RecursorState) → (stop f s).asks_rebuild ≡ s.asks_rebuild
stop_asks f s =
    elim (cases_Bool s.stopped) [
      | inl e ↦ rw e refl
      | inr e ↦ rw e refl
    ]

one_asks : (g : Known) (w : Watched) (s : RecursorState) → (replayed_one g w s).asks_rebuild ≡ true → (s.asks_rebuild ≡ true) ⊎ ((f : NotifyFault) × (w ≡ Failed f) × IsWatchFault f)
one_asks g (Kept look) s h = inl h
one_asks g (Failed f) s h =
    elim (cases_Bool (is_path_gone f)) [
      | inl e ↦ inl (rw e at h)
      | inr e ↦ elim (cases_Bool (is_resource_fault f)) [
        | inl r ↦ inl (sym (stop_asks f s) ∙ (rw (e, r) at h))
        | inr r ↦ inr (f, refl, record { there = e; room = r })
      ]
    ]

all_asks : (gs : List Known) (ws : List Watched) (s : RecursorState) → (replayed_all gs ws s).asks_rebuild ≡ true → (s.asks_rebuild ≡ true) ⊎ ((f : NotifyFault) × In (Failed f) ws × IsWatchFault f)
all_asks [] ws s h = inl h
all_asks (g ∷ gs) [] s h = inl h
all_asks (g ∷ gs) (w ∷ ws) s h =
    elim (cases_Bool (is_replay_over s)) [
      | inl e ↦ inl (rw e at h)
      | inr e ↦ elim (all_asks gs ws (replayed_one g w s) (rw e at h)) [
        | inl a ↦ elim (one_asks g w s a) [
          | inl b ↦ inl b
          | inr c ↦ inr (c.0, inl c.1, c.2)
        ]
        | inr c ↦ inr (c.0, inr c.1, c.2)
      ]
    ]

pub replay_asks : (ws : List Watched) (s : RecursorState) → (replayed ws s).asks_rebuild ≡ true → ReplayAsksFor ws s
replay_asks ws s h = all_asks s.waiting ws (record s { waiting = [] }) h
