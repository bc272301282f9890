-- So is a reconcile.
use Rattle.std.proofs.Common.{◌≡◌, ℕ, true, List, [], ◌∷◌, ◌++◌, refl, ap, sym, ◌∙◌, inl, inr}
use Rattle.std.specs.Prelude.{map}
use Rattle.std.proofs.lemmas.Bool.{cases_Bool}
use Rattle.wx_tree.specs.Paths.{Path, same}
use Rattle.wx_tree.specs.declared.root.Root.{Root}
use Rattle.wx_tree.proofs.ListLemmas.{In-filter}
use Rattle.wx_recursor.specs.Calls.{fresh, kept_guard_watches, queued_guards, queued_retries, queued_roots, reconciled}
use Rattle.wx_recursor.specs.Owners.{has_root, unseen}
use Rattle.wx_recursor.specs.States.{RecursorState}
use Rattle.wx_recursor.specs.declared.known.Identity.{Identity}
use Rattle.wx_recursor.specs.declared.owner.GuardWatch.{GuardWatch}
use Rattle.wx_recursor.specs.declared.work.Item.TheVariants.{Guard, Visit}
use Rattle.wx_recursor.specs.declared.work.Retry.{Retry}
use Rattle.wx_recursor.proofs.SoundLemmas.{unseen_has}
use Rattle.wx_walk.specs.Machine.{fresh as walk_fresh, kept_guards, reconciled as walk_reconciled, resets, visits}
use Rattle.wx_settle.specs.Plain.{plain, plain_guard, plain_queue}
use Rattle.wx_settle.proofs.Pieces.{is_plain_append, plain_append}
use Rattle.wx_settle.proofs.Simple.{Simple, is_plain}
use Rattle.wx_settle.proofs.Steps.{Makes, states}

kept_plain : (rs : List Root) (gs : List GuardWatch) → map plain_guard (kept_guard_watches rs gs) ≡ kept_guards rs (map plain_guard gs)
kept_plain rs [] = refl
kept_plain rs (g ∷ gs) =
    let b = kept_plain rs gs in
    elim (cases_Bool (has_root g.root rs)) [
      | inl h ↦ rw h (ap (λ xs. plain_guard g ∷ xs) b)
      | inr h ↦ rw h b
    ]

guards_plain : (gs : List GuardWatch) → plain_queue (queued_guards gs) ≡ resets (map plain_guard gs)
guards_plain [] = refl
guards_plain (g ∷ gs) = ap (λ xs. Guard g.root ∷ xs) (guards_plain gs)

roots_plain : (rs : List Root) → plain_queue (queued_roots rs) ≡ visits rs
roots_plain [] = refl
roots_plain (r ∷ rs) = ap (λ xs. Visit r ∷ xs) (roots_plain rs)

guards_are : (gs : List GuardWatch) → is_plain (queued_guards gs) ≡ true
guards_are [] = refl
guards_are (g ∷ gs) = guards_are gs

roots_are : (rs : List Root) → is_plain (queued_roots rs) ≡ true
roots_are [] = refl
roots_are (r ∷ rs) = roots_are rs

queue_plain : (rs : List Root) (gs : List GuardWatch) (xs : List Retry) → xs ≡ [] → plain_queue (queued_guards (kept_guard_watches rs gs) ++ (queued_retries rs xs ++ queued_roots rs)) ≡ resets (kept_guards rs (map plain_guard gs)) ++ visits rs
queue_plain rs gs xs e =
    rw e (plain_append (queued_guards (kept_guard_watches rs gs)) (queued_roots rs)
    ∙ ap (λ x. x ++ plain_queue (queued_roots rs)) (guards_plain (kept_guard_watches rs gs) ∙ ap resets (kept_plain rs gs))
    ∙ ap (λ x. resets (kept_guards rs (map plain_guard gs)) ++ x) (roots_plain rs))

queue_is : (rs : List Root) (gs : List GuardWatch) (xs : List Retry) → xs ≡ [] → is_plain (queued_guards gs ++ (queued_retries rs xs ++ queued_roots rs)) ≡ true
queue_is rs gs xs e = rw e (is_plain_append (queued_guards gs) (queued_roots rs) (guards_are gs) (roots_are rs))

pub reconcile_makes : (id : Path → Identity) (rs : List Root) (n : ℕ) (s : RecursorState) → Simple id s → Makes id (reconciled rs n s) (walk_reconciled rs (plain s)) s.shown
reconcile_makes id rs n s k = record {
  simple = record {
    right = record {
      known = k.right.known;
      all = λ p h. k.right.all p (sym (unseen_has p s.owners) ∙ h);
      registrations = k.right.registrations;
      guards = λ g h. let a = In-filter (λ g. has_root g.root rs) g s.guards h in k.right.guards g a.0;
    };
    quiet = record { waiting = k.quiet.waiting; retries = refl; failed = refl; skipped = refl; excluded = k.quiet.excluded; tombstones = refl; lost = k.quiet.lost; stopped = refl; deferred = refl; asks_rebuild = k.quiet.asks_rebuild };
    plain = queue_is rs (kept_guard_watches rs s.guards) s.retries k.quiet.retries;
  };
  same = states rs _ _ (unseen s.owners) _ _ _ _ true (queue_plain rs s.guards s.retries k.quiet.retries) (kept_plain rs s.guards) refl;
  shown = refl;
}

pub fresh_makes : (id : Path → Identity) → Makes id fresh walk_fresh []
fresh_makes id = record {
  simple = record {
    right = record { known = λ k h. absurd h; all = λ p h. cc; registrations = λ k h. absurd h; guards = λ g h. absurd h };
    quiet = record { waiting = refl; retries = refl; failed = refl; skipped = refl; excluded = refl; tombstones = refl; lost = refl; stopped = refl; deferred = refl; asks_rebuild = refl };
    plain = refl;
  };
  same = refl;
  shown = refl;
}
