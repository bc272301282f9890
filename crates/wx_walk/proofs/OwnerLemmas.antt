-- Owners that were seen, and those that were not.
use Rattle.std.proofs.Common.{◌≡◌, Bool, true, false, cond, List, [], ◌∷◌, refl, ap, sym, ◌∙◌, inl, inr}
use Rattle.std.specs.Prelude.{◌&&◌, ◌⊎◌, not}
use Rattle.std.proofs.lemmas.Bool.{cases_Bool, and_parts}
use Rattle.wx_tree.specs.Lists.{In}
use Rattle.wx_tree.specs.Paths.{Path, holds, same}
use Rattle.wx_tree.specs.Roots.{same_root}
use Rattle.wx_tree.specs.declared.root.Root.{Root}
use Rattle.wx_tree.proofs.ListLemmas.{In-filter, In-kept}
use Rattle.wx_tree.proofs.PathLemmas.{same-true, same_root-true}
use Rattle.wx_recursor.specs.Owners.{disown, is_owner, own, sweep, unseen}
use Rattle.wx_recursor.specs.declared.owner.Owner.{Owner}
use Rattle.wx_recursor.proofs.OwnerLemmas.{saw}
use Rattle.wx_walk.specs.Machine.{has_seen}

pub is_owner-true : (r : Root) (p : Path) (o : Owner) → is_owner r p o ≡ true → (r ≡ o.root) × (p ≡ o.path)
is_owner-true r p o h =
    let a = and_parts (same_root r o.root) (same p o.path) h in
    (same_root-true r o.root a.0, same-true p o.path a.1)

-- the root has seen what it owns now
pub own-there : (r : Root) (p : Path) (os : List Owner) → In (saw r p) (own r p os)
own-there r p [] = inl refl
own-there r p (o ∷ os) =
    let k = own-there r p os in
    elim (is_owner r p o) as (λ b. In (saw r p) (cond b (saw r p ∷ os) (o ∷ own r p os))) [ true ↦ inl refl | false ↦ inr k ]

pub own-kept : (r s : Root) (p q : Path) (os : List Owner) → In (saw s q) os → In (saw s q) (own r p os)
own-kept r s p q [] h = absurd h
own-kept r s p q (o ∷ os) (inl e) =
    elim (cases_Bool (is_owner r p o)) [
      | inl a ↦
          let b : (r ≡ o.root) × (p ≡ o.path) = is_owner-true r p o a in
          let c : o.root ≡ s = ap (λ x. x.root) e in
          let d : o.path ≡ q = ap (λ x. x.path) e in
          rw a (inl (ap (λ x. saw x p) (b.0 ∙ c) ∙ ap (λ x. saw s x) (b.1 ∙ d)))
      | inr a ↦ rw a (inl e)
    ]
own-kept r s p q (o ∷ os) (inr h) =
    let k = own-kept r s p q os h in
    elim (is_owner r p o) as (λ b. In (saw s q) (cond b (saw r p ∷ os) (o ∷ own r p os))) [ true ↦ inr h | false ↦ inr k ]

pub own-cases : (r s : Root) (p q : Path) (os : List Owner) → In (saw s q) (own r p os) → ((r ≡ s) × (p ≡ q)) ⊎ In (saw s q) os
own-cases r s p q [] (inl e) = inl (ap (λ x. x.root) e, ap (λ x. x.path) e)
own-cases r s p q [] (inr h) = absurd h
own-cases r s p q (o ∷ os) h = go (own-cases r s p q os) (is_owner r p o) h
  where
    go : (In (saw s q) (own r p os) → ((r ≡ s) × (p ≡ q)) ⊎ In (saw s q) os) → (b : Bool) → In (saw s q) (cond b (saw r p ∷ os) (o ∷ own r p os)) → ((r ≡ s) × (p ≡ q)) ⊎ In (saw s q) (o ∷ os)
    go more true (inl e) = inl (ap (λ x. x.root) e, ap (λ x. x.path) e)
    go more true (inr k) = inr (inr k)
    go more false (inl e) = inr (inl e)
    go more false (inr k) = elim (more k) [ inl e ↦ inl e | inr i ↦ inr (inr i) ]

pub make : Root → Path → Bool → Owner
make r p b = record { root = r; path = p; seen = b }

pub saw_is : (o : Owner) (r : Root) (p : Path) → o.root ≡ r → o.path ≡ p → o.seen ≡ true → o ≡ saw r p
unfolding make
saw_is o r p a b c = ap (λ x. make x o.path o.seen) a ∙ (ap (λ x. make r x o.seen) b ∙ ap (λ x. make r p x) c)

pub has_seen-true : (r : Root) (p : Path) (os : List Owner) → has_seen r p os ≡ true → In (saw r p) os
has_seen-true r p [] h = cc
has_seen-true r p (o ∷ os) h =
    elim (cases_Bool (is_owner r p o && o.seen)) [
      | inl a ↦
          let b = and_parts (is_owner r p o) o.seen a in
          let c = is_owner-true r p o b.0 in
          inl (saw_is o r p (sym c.0) (sym c.1) b.1)
      | inr a ↦ inr (has_seen-true r p os (rw a at h))
    ]

pub disown-from : (r s : Root) (p q : Path) (os : List Owner) → In (saw s q) (disown r p os) → In (saw s q) os
disown-from r s p q os h = let k = In-filter (λ (o : Owner). not (same_root r o.root && holds p o.path)) (saw s q) os h in k.0

not-from : (b : Bool) → (b ≡ true → ⊥) → not b ≡ true
not-from true h = absurd (h refl)
not-from false h = refl

pub disown-kept : (r s : Root) (p q : Path) (os : List Owner) → ((same_root r s && holds p q) ≡ true → ⊥) → In (saw s q) os → In (saw s q) (disown r p os)
disown-kept r s p q os apart h =
    let e : not (same_root r s && holds p q) ≡ true = not-from (same_root r s && holds p q) apart in
    In-kept (λ (o : Owner). not (same_root r o.root && holds p o.path)) (saw s q) os e h

pub sweep-kept : (s : Root) (q : Path) (os : List Owner) → In (saw s q) os → In (saw s q) (sweep os)
sweep-kept s q os h = In-kept (λ (o : Owner). o.seen) (saw s q) os refl h

pub sweep-seen : (o : Owner) (os : List Owner) → In o (sweep os) → o.seen ≡ true
sweep-seen o os h = let k = In-filter (λ (o : Owner). o.seen) o os h in k.1

pub sweep-from : (o : Owner) (os : List Owner) → In o (sweep os) → In o os
sweep-from o os h = let k = In-filter (λ (o : Owner). o.seen) o os h in k.0

pub unseen-none : (s : Root) (q : Path) (os : List Owner) → In (saw s q) (unseen os) → ⊥
unseen-none s q [] h = h
unseen-none s q (o ∷ os) (inl e) = let k : false ≡ true = ap (λ x. x.seen) e in cc
unseen-none s q (o ∷ os) (inr h) = unseen-none s q os h
