-- Errors and wishes for a rebuild have causes.
use Rattle.std.proofs.Common.{◌≡◌, ◌≤◌, ℕ, true, false, [], ◌∷◌, inl, inr, refl, sym, ◌∙◌, subst, arith}
use Rattle.std.specs.Prelude.{◌⊎◌}
use Rattle.wx_watch.specs.declared.notify_fault.NotifyFault.{NotifyFault}
use Rattle.wx_watch.specs.declared.notify_fault.NotifyFaultKind.{NotifyFaultKind}
use Rattle.wx_watch.specs.declared.notify_fault.NotifyFaultKind.TheVariants.{Generic, InvalidConfig, Io, MaxFilesWatch, Memory, PathNotFound, WatchNotFound}
use Rattle.wx_tree.specs.Lists.{In}
use Rattle.wx_tree.proofs.ListLemmas.{In-cases}
use Rattle.wx_scan.specs.Backings.{is_memory, is_watch_fault}
use Rattle.wx_scan.specs.Looked.{Rose}
use Rattle.wx_recursor.specs.Holding.{show}
use Rattle.wx_recursor.specs.Identities.{is_path_gone, is_path_gone_kind}
use Rattle.wx_recursor.specs.Rebuilds.{path_gone, replayed_one, waits_by_alias}
use Rattle.wx_recursor.specs.States.{RecursorState}
use Rattle.wx_recursor.specs.declared.answers.Watched.TheVariants.{Failed}
use Rattle.wx_recursor.specs.declared.errors.ShownError.TheVariants.{PathAdd}
use Rattle.wx_recursor.specs.declared.known.Known.{Known}
use Rattle.wx_holding.proofs.Watching.{rose_later, rose_sooner}
use Rattle.wx_rebuild.specs.Shown.{HaveCauses, SaysGone}

-- what shows nothing and asks for nothing
pub same_causes : (s t : RecursorState) (n : ℕ) → t.shown ≡ s.shown → t.asks_rebuild ≡ s.asks_rebuild → HaveCauses s t n n
same_causes s t n e f = record { shown = λ x m. inl (subst (In x) e m); asks = λ h. inl (sym f ∙ h); faults = omega arith }

-- one call after the other
pub more_causes : (s t u : RecursorState) (a b c : ℕ) → HaveCauses s t a b → HaveCauses t u b c → HaveCauses s u a c
more_causes s t u a b c h k = record {
  shown = λ x m.
      elim (k.shown x m) [
        | inl old ↦ elim (h.shown x old) [
          | inl older ↦ inl older
          | inr new ↦ elim new [ inl gone ↦ inr (inl gone) | inr rose ↦ inr (inr (rose_later a b c rose k.faults)) ]
        ]
        | inr new ↦ elim new [ inl gone ↦ inr (inl gone) | inr rose ↦ inr (inr (rose_sooner a b c h.faults rose)) ]
      ];
  asks = λ asks.
      elim (k.asks asks) [
        | inl before ↦ elim (h.asks before) [ inl earlier ↦ inl earlier | inr rose ↦ inr (rose_later a b c rose k.faults) ]
        | inr rose ↦ inr (rose_sooner a b c h.faults rose)
      ];
  faults = omega (arith, h.faults, k.faults);
}

-- a watch that failed found nothing there, or the count rose
pub gone_or_rose : (kind : NotifyFaultKind) (R : Type 0) → is_memory kind ≡ false → (is_watch_fault kind ≡ true → R) → (is_path_gone_kind kind ≡ true) ⊎ R
gone_or_rose (Generic text) R m h = inr (h refl)
gone_or_rose (Io code) R m h = inr (h refl)
gone_or_rose PathNotFound R m h = inl refl
gone_or_rose WatchNotFound R m h = inr (h refl)
gone_or_rose InvalidConfig R m h = inr (h refl)
gone_or_rose MaxFilesWatch R m h = inr (h refl)
gone_or_rose Memory R m h = cc

gone_causes : (g : Known) (f : NotifyFault) (s : RecursorState) (a b : ℕ) → a ≤ b → is_path_gone f ≡ true → HaveCauses s (waits_by_alias g (path_gone g.path (show (PathAdd g.path f) s))) a b
gone_causes g f s a b le gone = record {
  shown = λ x m.
      elim (In-cases x s.shown (PathAdd g.path f ∷ []) m) [
        | inl old ↦ inl old
        | inr new ↦ elim new [ inl is ↦ inr (inl (subst SaysGone is gone)) | inr never ↦ absurd never ]
      ];
  asks = λ h. inl h;
  faults = le;
}

-- a watch of the replay that failed
pub refused_causes : (g : Known) (f : NotifyFault) (s : RecursorState) (a b : ℕ) → a ≤ b → (is_path_gone f ≡ true) ⊎ Rose a b → HaveCauses s (replayed_one g (Failed f) s) a b
refused_causes g f s a b le h =
    elim h [
      | inl gone ↦
          let is : replayed_one g (Failed f) s ≡ waits_by_alias g (path_gone g.path (show (PathAdd g.path f) s)) = rw gone refl in
          subst (λ t. HaveCauses s t a b) (sym is) (gone_causes g f s a b le gone)
      | inr rose ↦ record { shown = λ x m. inr (inr rose); asks = λ asks. inr rose; faults = le }
    ]
