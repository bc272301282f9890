-- What is known of a path or an identity that is there once, or not at all.
use Rattle.std.proofs.Common.{◌≡◌, Bool, true, false, cond, List, [], ◌∷◌, ◌++◌, filter, inl, inr, refl, sym, ap, ◌∙◌}
use Rattle.std.specs.Prelude.{◌&&◌, ◌||◌, not}
use Rattle.std.proofs.lemmas.Bool.{cases_Bool}
use Rattle.wx_tree.specs.Paths.{Path, same}
use Rattle.wx_recursor.specs.Identities.{has_identity, has_known, identity_of, is_identity, is_other, same_identity, without}
use Rattle.wx_recursor.specs.declared.known.Identity.{Identity}
use Rattle.wx_recursor.specs.declared.known.Known.{Known}

pub bool_apart : (b : Bool) → b ≡ true → b ≡ false → ⊥
bool_apart true h k = cc
bool_apart false h k = cc

-- where the path isn't known under another identity, its first is this one as soon as any is
pub only_identity : (p : Path) (i : Identity) (ks : List Known) → is_other p i ks ≡ false → has_known p i ks ≡ is_identity i (identity_of p ks)
only_identity p i [] h = refl
only_identity p i (k ∷ ks) h =
    elim (cases_Bool (same k.path p)) [
      | inl a ↦ elim (cases_Bool (same_identity k.identity i)) [
        | inl b ↦ rw (a, b) refl
        | inr b ↦ (let f : is_other p i (k ∷ ks) ≡ true = (rw (a, b) refl) in absurd (bool_apart (is_other p i (k ∷ ks)) f h))
      ]
      | inr a ↦ (let f : is_other p i (k ∷ ks) ≡ is_other p i ks = (rw a refl) in rw a (only_identity p i ks (sym f ∙ h)))
    ]

-- all stay where none has the identity
pub without_none : (i : Identity) (ks : List Known) → has_identity i ks ≡ false → ks ≡ without i ks
without_none i [] h = refl
without_none i (k ∷ ks) h =
    elim (cases_Bool (same_identity k.identity i)) [
      | inl a ↦ (let f : has_identity i (k ∷ ks) ≡ true = (rw a refl) in absurd (bool_apart (has_identity i (k ∷ ks)) f h))
      | inr a ↦ (let f : has_identity i (k ∷ ks) ≡ has_identity i ks = (rw a refl) in rw a (ap (λ ys. k ∷ ys) (without_none i ks (sym f ∙ h))))
    ]

-- where the first list doesn't have an identity, the second decides
pub has_after : (i : Identity) (ks ls : List Known) → has_identity i ks ≡ false → has_identity i (ks ++ ls) ≡ has_identity i ls
has_after i [] ls h = refl
has_after i (k ∷ ks) ls h =
    elim (cases_Bool (same_identity k.identity i)) [
      | inl e ↦ (let f : has_identity i (k ∷ ks) ≡ true = (rw e refl) in absurd (bool_apart (has_identity i (k ∷ ks)) f h))
      | inr e ↦ (let f : has_identity i (k ∷ ks) ≡ has_identity i ks = (rw e refl) in rw e (has_after i ks ls (sym f ∙ h)))
    ]
