-- Lists of owners.
use Rattle.std.proofs.Common.{◌≡◌, Bool, true, false, List, [], ◌∷◌, refl, ap, sym, inl, inr}
use Rattle.std.specs.Prelude.{◌⊎◌, ◌&&◌, ◌||◌, filter}
use Rattle.std.proofs.lemmas.Bool.{cases_Bool, or_cases, or_left, or_right}
use Rattle.std.proofs.Math.Bool.{and-false}
use Rattle.wx_tree.specs.Lists.{In}
use Rattle.wx_tree.specs.Paths.{Path, has_entry, same}
use Rattle.wx_tree.specs.Roots.{same_root}
use Rattle.wx_tree.specs.declared.root.Root.{Root}
use Rattle.wx_tree.proofs.PathLemmas.{same-sym, same-true}
use Rattle.wx_recursor.specs.Owners.{has_owner, has_path, is_owner, own}
use Rattle.wx_recursor.specs.Steps.{owns_parent}
use Rattle.wx_recursor.specs.declared.owner.Owner.{Owner}

abbrev pub saw : Root → Path → Owner
saw r p = record { root = r; path = p; seen = true }

-- lists

-- owning

pub filter_has : (f : Owner → Bool) (q : Path) (os : List Owner) → has_owner q (filter f os) ≡ true → has_owner q os ≡ true
filter_has f q [] h = h
filter_has f q (o ∷ os) h =
    elim (cases_Bool (f o)) [
      | inl a ↦ elim (or_cases (same o.path q) (has_owner q (filter f os)) (rw a at h)) [
        | inl b ↦ or_left (same o.path q) (has_owner q os) b
        | inr b ↦ or_right (same o.path q) (has_owner q os) (filter_has f q os b)
      ]
      | inr a ↦ or_right (same o.path q) (has_owner q os) (filter_has f q os (rw a at h))
    ]

pub own_has : (r : Root) (p q : Path) (os : List Owner) → has_owner q (own r p os) ≡ true → (has_owner q os ≡ true) ⊎ (p ≡ q)
own_has r p q [] h = elim (or_cases (same p q) false h) [ inl a ↦ inr (same-true p q a) | inr b ↦ cc ]
own_has r p q (o ∷ os) h =
    elim (cases_Bool (is_owner r p o)) [
      | inl a ↦ elim (or_cases (same p q) (has_owner q os) (rw a at h)) [
        | inl b ↦ inr (same-true p q b)
        | inr b ↦ inl (or_right (same o.path q) (has_owner q os) b)
      ]
      | inr a ↦ elim (or_cases (same o.path q) (has_owner q (own r p os)) (rw a at h)) [
        | inl b ↦ inl (or_left (same o.path q) (has_owner q os) b)
        | inr b ↦ elim (own_has r p q os b) [ inl c ↦ inl (or_right (same o.path q) (has_owner q os) c) | inr c ↦ inr c ]
      ]
    ]

pub has_path_in : (p : Path) (qs : List Path) → has_path p qs ≡ true → In p qs
has_path_in p [] h = cc
has_path_in p (q ∷ qs) h = elim (or_cases (same q p) (has_path p qs) h) [ inl a ↦ inl (same-true q p a) | inr b ↦ inr (has_path_in p qs b) ]

pub owns_none : (r : Root) (os : List Owner) → owns_parent r [] os ≡ false
owns_none r [] = refl
owns_none r (o ∷ os) = refl

pub owns_more : (r : Root) (p : Path) (o : Owner) (os : List Owner) → owns_parent r p (o ∷ os) ≡ ((same_root r o.root && has_entry o.path p) || owns_parent r p os)
owns_more r [] o os = rw (and-false (same_root r o.root)) (sym (owns_none r os))
owns_more r (x ∷ p) o os = ap (λ b. (same_root r o.root && b) || owns_parent r (x ∷ p) os) (same-sym p o.path)
