-- What a listing has at a path, as the kit's maps say it.
use Rattle.std.proofs.Common.{◌≡◌, ℕ, ◌≤◌, ◌<◌, ◌-◌, Bool, true, false, cond, Option, None, Some, List, [], ◌∷◌, ◌++◌, length, take, drop, get_or, arith, refl, ap, sym, ◌∙◌, inl, inr}
use native.Mathlib.Numerals.{unary_clauses}
use Rattle.std.specs.Option.{option_or}
use Rattle.std.specs.Prelude.{◌||◌, OnErr, OnOk, Result, Ok, Err}
use Rattle.wx_text.specs.declared.list.Memory.{Memory}
use Rattle.std.specs.BTreeMap.{is_at}
use Rattle.std.specs.Cmp.Lexicographic.{slice_cmp, nat_list_eq_equiv, texts_ties}
use Rattle.std.specs.Map.{lookup}
use Rattle.std.specs.Ordering.{nat_cmp}
use Rattle.std.proofs.lemmas.Bool.{cases_Bool}
use Rattle.std.proofs.Math.Bool.{or-false}
use Rattle.wx_tree.specs.Paths.{same_part}
use Rattle.wx_tree.proofs.PathLemmas.{same_part-true, same_part-refl}
use Rattle.wx_scan.specs.Backings.{is_registered}
use Rattle.wx_poller.specs.declared.seen.Seen.{Seen}
use Rattle.wx_poller.specs.Listings.{Sight, seen_at}

pub at_same : (q k : List ℕ) → is_at (slice_cmp nat_cmp q) k ≡ same_part k q
at_same q k = sym (texts_ties q k) ∙ nat_list_eq_equiv.symm q k

pub found_at : (seen : List Sight) (q : List ℕ) → lookup (is_at (slice_cmp nat_cmp q)) seen ≡ seen_at seen q
found_at [] q = refl
found_at (s ∷ seen) q = rw (at_same q s.0, found_at seen q) refl

-- what an insert leaves
pub put_at : (old new : List Sight) (k : List ℕ) (s : Seen)
    → ((q : List ℕ) → lookup (is_at (slice_cmp nat_cmp q)) new ≡ cond (is_at (slice_cmp nat_cmp k) q) (Some s) (lookup (is_at (slice_cmp nat_cmp q)) old))
    → (q : List ℕ) → seen_at new q ≡ cond (same_part k q) (Some s) (seen_at old q)
put_at old new k s h q = sym (found_at new q) ∙ h q ∙ ap (λ b. cond b (Some s) (lookup (is_at (slice_cmp nat_cmp q)) old)) (at_same k q ∙ nat_list_eq_equiv.symm q k) ∙ ap (cond (same_part k q) (Some s)) (found_at old q)

-- what a removal leaves
pub taken_at : (old new : List Sight) (k : List ℕ)
    → ((q : List ℕ) → lookup (is_at (slice_cmp nat_cmp q)) new ≡ cond (is_at (slice_cmp nat_cmp k) q) None (lookup (is_at (slice_cmp nat_cmp q)) old))
    → (q : List ℕ) → seen_at new q ≡ cond (same_part k q) None (seen_at old q)
taken_at old new k h q = sym (found_at new q) ∙ h q ∙ ap (λ b. cond b None (lookup (is_at (slice_cmp nat_cmp q)) old)) (at_same k q ∙ nat_list_eq_equiv.symm q k) ∙ ap (cond (same_part k q) None) (found_at old q)

-- paths are taken away one after the other
pub taken_more : (k p : List ℕ) (ks : List (List ℕ)) (old new : List Sight) → seen_at new p ≡ cond (same_part k p) None (seen_at old p)
    → cond (is_registered p ks) None (seen_at new p) ≡ cond (is_registered p (k ∷ ks)) None (seen_at old p)
taken_more k p ks old new h = elim (cases_Bool (same_part k p)) [ inl a ↦ rw (h, a) (both (is_registered p ks)) | inr a ↦ rw (h, a) refl ]
  where
    both : (b : Bool) → cond {A = Option Seen} b None None ≡ None
    both true = refl
    both false = refl

-- the first of a list, and the others
pub rest_is : {X : Type 0} (rest : List X) (first d : X) → 1 ≤ length rest → first ≡ get_or rest 0 d → first ∷ take (length rest - 1) (drop 1 rest) ≡ rest
rest_is [] first d h e = absurd (omega arith)
rest_is (x ∷ rest) first d h e = rw e (simp unary_clauses (ap (λ xs. x ∷ xs) (all_taken rest)))
  where
    all_taken : {X : Type 0} (xs : List X) → take (length xs) xs ≡ xs
    all_taken [] = refl
    all_taken (x ∷ xs) = ap (λ ys. x ∷ ys) (all_taken xs)

pub registered_last : (p k : List ℕ) (ks : List (List ℕ)) → is_registered p (ks ++ k ∷ []) ≡ (is_registered p ks || same_part k p)
registered_last p k [] = or-false (same_part k p)
registered_last p k (x ∷ ks) = elim (cases_Bool (same_part x p)) [ inl a ↦ rw a refl | inr a ↦ rw a (registered_last p k ks) ]

-- where a path was put that was new, taking it away again leaves what was
put_apart : (r : Result (Unit {0}) Memory) (old new : List Sight) (k p : List ℕ) (s : Seen) → same_part k p ≡ false
    → OnOk r ((q : List ℕ) → seen_at new q ≡ cond (same_part k q) (Some s) (seen_at old q)) → OnErr r (new ≡ old) → seen_at new p ≡ seen_at old p
put_apart (Ok u) old new k p s a h g = h p ∙ ap (λ b. cond b (Some s) (seen_at old p)) a
put_apart (Err e) old new k p s a h g = ap (λ es. seen_at es p) g

pub put_back : (r : Result (Unit {0}) Memory) (old new : List Sight) (ks : List (List ℕ)) (k p : List ℕ) (s : Seen) → seen_at old k ≡ None
    → OnOk r ((q : List ℕ) → seen_at new q ≡ cond (same_part k q) (Some s) (seen_at old q)) → OnErr r (new ≡ old)
    → cond (is_registered p (ks ++ k ∷ [])) None (seen_at new p) ≡ cond (is_registered p ks) None (seen_at old p)
put_back r old new ks k p s n h g =
    elim (cases_Bool (same_part k p)) [
      | inl a ↦ (let e : seen_at old p ≡ None = ap (seen_at old) (sym (same_part-true k p a)) ∙ n in rw (registered_last p k ks, a, e) (all (is_registered p ks) (seen_at new p)))
      | inr a ↦ rw (registered_last p k ks, a, put_apart r old new k p s a h g) (none (is_registered p ks) (seen_at old p))
    ]
  where
    all : (b : Bool) (x : Option Seen) → cond (b || true) None x ≡ cond {A = Option Seen} b None None
    all true x = refl
    all false x = refl

    none : (b : Bool) (x : Option Seen) → cond (b || false) None x ≡ cond b None x
    none true x = refl
    none false x = refl

-- entries that are new are put one after the other
pub put_next : (old new : List Sight) (s : Sight) (rest : List Sight) (p : List ℕ) → seen_at new p ≡ option_or (seen_at old p) (cond (same_part s.0 p) (Some s.1) None)
    → option_or (seen_at new p) (seen_at rest p) ≡ option_or (seen_at old p) (seen_at (s ∷ rest) p)
put_next old new s rest p h = elim (cases_Bool (same_part s.0 p)) [ inl a ↦ rw (h, a) (here (seen_at old p) (seen_at rest p)) | inr a ↦ rw (h, a) (there (seen_at old p) (seen_at rest p)) ]
  where
    here : (x y : Option Seen) → option_or (option_or x (Some s.1)) y ≡ option_or x (Some s.1)
    here None y = refl
    here (Some z) y = refl

    there : (x y : Option Seen) → option_or (option_or x None) y ≡ option_or x y
    there None y = refl
    there (Some z) y = refl

pub none_left : {X : Type 0} (rest : List X) → length rest < 1 → rest ≡ []
none_left [] h = refl
none_left (x ∷ rest) h = absurd (omega arith)
