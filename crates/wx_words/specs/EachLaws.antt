-- What holds of each item of a list.
use Rattle.std.proofs.Common.{◌≡◌, ℕ, zero, suc, add-one, ◌+◌, ◌<◌, Bool, true, false, cond, Some, List, [], ◌∷◌, ◌++◌, length, take, get_or, slice_get, subst, arith}
use Rattle.std.specs.List.{AllByRecursion, filter}

pub each_append : {X : Type 0} (P : X → Type 0) (xs ys : List X) → AllByRecursion P xs → AllByRecursion P ys → AllByRecursion P (xs ++ ys)
each_append P [] ys p q = q
each_append P (x ∷ xs) ys p q = (p.0, each_append P xs ys p.1 q)

pub each_weaker : {X : Type 0} (P Q : X → Type 0) → ((x : X) → P x → Q x) → (xs : List X) → AllByRecursion P xs → AllByRecursion Q xs
each_weaker P Q weaker [] p = tt
each_weaker P Q weaker (x ∷ xs) p = (weaker x p.0, each_weaker P Q weaker xs p.1)

-- of those that pass a test
kept : {X : Type 0} (P : X → Type 0) (b : Bool) (x : X) (xs : List X) → P x → AllByRecursion P xs → AllByRecursion P (cond b (x ∷ xs) xs)
kept P true x xs p q = (p, q)
kept P false x xs p q = q

pub each_filter : {X : Type 0} (P : X → Type 0) (test : X → Bool) (xs : List X) → AllByRecursion P xs → AllByRecursion P (filter test xs)
each_filter P test [] p = tt
each_filter P test (x ∷ xs) p = kept P (test x) x (filter test xs) p.0 (each_filter P test xs p.1)

-- of the one at a place
pub each_at : {X : Type 0} (P : X → Type 0) (xs : List X) (i : ℕ) (x : X) → AllByRecursion P xs → slice_get xs i ≡ Some x → P x
each_at P [] i x p e = cc
each_at P (y ∷ xs) zero x p e = let same : y ≡ x = cc in subst P same p.0
each_at P (y ∷ xs) (suc i) x p e = each_at P xs i x p.1 e

-- of the items before a place, and of one more
each_next : {X : Type 0} (P : X → Type 0) (xs : List X) (i : ℕ) (d : X) → i < length xs → AllByRecursion P (take i xs) → P (get_or xs i d) → AllByRecursion P (take (suc i) xs)
each_next P [] i d lt all p = absurd (omega arith)
each_next P (x ∷ xs) zero d lt all p = (p, tt)
each_next P (x ∷ xs) (suc i) d lt all p = (all.0, each_next P xs i d (omega arith) all.1 p)

pub each_more : {X : Type 0} (P : X → Type 0) (xs : List X) (i : ℕ) (d : X) → i < length xs → AllByRecursion P (take i xs) → P (get_or xs i d) → AllByRecursion P (take (i + 1) xs)
each_more P xs i d lt all p = rw add-one (each_next P xs i d lt all p)

-- of each, where it does at each place
pub each_from : {X : Type 0} (P : X → Type 0) (d : X) (xs : List X) → ((i : ℕ) → i < length xs → P (get_or xs i d)) → AllByRecursion P xs
each_from P d [] at = tt
each_from P d (x ∷ xs) at = (at 0 (omega arith), each_from P d xs (λ i lt. at (suc i) (omega arith)))
