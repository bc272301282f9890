-- Which paths are the same, and which hold others.
use Rattle.std.proofs.Common.{◌≡◌, suc, ◌≤◌, Bool, true, false, [], ◌∷◌, length, arith, refl, ap, sym, ◌∙◌, eq-eqb, inl, inr}
use Rattle.std.specs.Prelude.{◌==◌}
use Rattle.std.proofs.lemmas.Bool.{and_parts, and_from, or_cases, eqb-true, both_ways, or_left, or_right}
use Rattle.wx_tree.specs.Paths.{Part, Path, same_part, has_entry, holds, holds_below, same}
use Rattle.wx_tree.specs.Roots.{same_bool, same_root}
use Rattle.wx_tree.specs.declared.root.Root.{Root}

pub same_part-true : (x y : Part) → same_part x y ≡ true → x ≡ y
same_part-true [] [] h = refl
same_part-true [] (b ∷ y) h = cc
same_part-true (a ∷ x) [] h = cc
same_part-true (a ∷ x) (b ∷ y) h =
    let c = and_parts (a == b) (same_part x y) h in
    let e : a ≡ b = eqb-true a b c.0 in
    let f : x ≡ y = same_part-true x y c.1 in
    cc

pub same_part-refl : (x : Part) → same_part x x ≡ true
same_part-refl [] = refl
same_part-refl (a ∷ x) = and_from (a == a) (same_part x x) (eq-eqb a a refl) (same_part-refl x)

pub same-true : (p q : Path) → same p q ≡ true → p ≡ q
same-true [] [] h = refl
same-true [] (y ∷ q) h = cc
same-true (x ∷ p) [] h = cc
same-true (x ∷ p) (y ∷ q) h =
    let a = and_parts (same_part x y) (same p q) h in
    let e : x ≡ y = same_part-true x y a.0 in
    let f : p ≡ q = same-true p q a.1 in
    cc

pub same-refl : (p : Path) → same p p ≡ true
same-refl [] = refl
same-refl (x ∷ p) = and_from (same_part x x) (same p p) (same_part-refl x) (same-refl p)

pub same_bool-true : (a b : Bool) → same_bool a b ≡ true → a ≡ b
same_bool-true true b h = sym h
same_bool-true false true h = cc
same_bool-true false false h = refl

pub same_bool-refl : (a : Bool) → same_bool a a ≡ true
same_bool-refl true = refl
same_bool-refl false = refl

the_root : Path → Bool → Root
the_root p b = record { path = p; recursive = b }

root_is : (r s : Root) → r.path ≡ s.path → r.recursive ≡ s.recursive → r ≡ s
unfolding the_root
root_is r s e f = ap (λ p. the_root p r.recursive) e ∙ ap (λ b. the_root s.path b) f

pub same_root-true : (r s : Root) → same_root r s ≡ true → r ≡ s
same_root-true r s h =
    let a = and_parts (same r.path s.path) (same_bool r.recursive s.recursive) h in
    root_is r s (same-true r.path s.path a.0) (same_bool-true r.recursive s.recursive a.1)

pub same_root-refl : (r : Root) → same_root r r ≡ true
same_root-refl r = and_from (same r.path r.path) (same_bool r.recursive r.recursive) (same-refl r.path) (same_bool-refl r.recursive)

pub holds-refl : (p : Path) → holds p p ≡ true
holds-refl [] = refl
holds-refl (x ∷ p) = or_left (same (x ∷ p) (x ∷ p)) (holds (x ∷ p) p) (same-refl (x ∷ p))

-- what is at or below p is at least as long
pub holds-length : (p q : Path) → holds p q ≡ true → length p ≤ length q
holds-length p [] h = let e : p ≡ [] = same-true p [] h in rw e (omega arith)
holds-length p (x ∷ q) h =
    elim (or_cases (same p (x ∷ q)) (holds p q) h) [
      | inl a ↦ let e : p ≡ x ∷ q = same-true p (x ∷ q) a in rw e (omega arith)
      | inr b ↦ let k : length p ≤ length q = holds-length p q b in omega arith
    ]

-- of two paths of one length only one holds q
pub holds-one : (c d q : Path) → length c ≡ length d → holds c q ≡ true → holds d q ≡ true → c ≡ d
holds-one c d [] l h k =
    let e : c ≡ [] = same-true c [] h in
    let f : d ≡ [] = same-true d [] k in
    cc
holds-one c d (x ∷ q) l h k =
    elim (or_cases (same c (x ∷ q)) (holds c q) h) [
      | inl a ↦ elim (or_cases (same d (x ∷ q)) (holds d q) k) [
        | inl b ↦ same-true c (x ∷ q) a ∙ sym (same-true d (x ∷ q) b)
        | inr b ↦
            let e : length c ≡ length (x ∷ q) = ap length (same-true c (x ∷ q) a) in
            let le : length d ≤ length q = holds-length d q b in
            absurd (omega arith)
      ]
      | inr a ↦ elim (or_cases (same d (x ∷ q)) (holds d q) k) [
        | inl b ↦
            let e : length d ≡ length (x ∷ q) = ap length (same-true d (x ∷ q) b) in
            let le : length c ≤ length q = holds-length c q a in
            absurd (omega arith)
        | inr b ↦ holds-one c d q l a b
      ]
    ]

pub entry-length : (p c : Path) → has_entry p c ≡ true → length c ≡ suc (length p)
entry-length p [] h = cc
entry-length p (x ∷ c) h = let e : p ≡ c = same-true p c h in rw e refl

pub below-holds : (p q : Path) → holds_below p q ≡ true → holds p q ≡ true
below-holds p [] h = cc
below-holds p (x ∷ q) h = or_right (same p (x ∷ q)) (holds p q) h

-- what an entry of p holds lies below p
pub entry-below : (p c q : Path) → has_entry p c ≡ true → holds c q ≡ true → holds_below p q ≡ true
entry-below p c [] e h = let f : c ≡ [] = same-true c [] h in absurd (both_ways (has_entry p c) (rw f refl) e)
entry-below p c (x ∷ q) e h =
    elim (or_cases (same c (x ∷ q)) (holds c q) h) [
      | inl a ↦
          let f : c ≡ x ∷ q = same-true c (x ∷ q) a in
          let g : same p q ≡ true = ap (has_entry p) (sym f) ∙ e in
          let k : p ≡ q = same-true p q g in
          rw k (holds-refl q)
      | inr b ↦ below-holds p q (entry-below p c q e b)
    ]

pub same_truth : (a b : Bool) → (a ≡ true → b ≡ true) → (b ≡ true → a ≡ true) → a ≡ b
same_truth true b f g = sym (f refl)
same_truth false true f g = g refl
same_truth false false f g = refl

pub same-turned : (p q : Path) → same p q ≡ true → same q p ≡ true
same-turned p q h = let e : p ≡ q = same-true p q h in rw e (same-refl q)

pub same-sym : (p q : Path) → same p q ≡ same q p
same-sym p q = same_truth (same p q) (same q p) (same-turned p q) (same-turned q p)
