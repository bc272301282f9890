-- What waits, and the pairs that it stands for.
use Rattle.std.proofs.Common.{◌≡◌, ◌≢◌, ℕ, zero, suc, ◌+◌, ◌≤◌, ◌<◌, true, false, Option, Some, None, is_some, cond, List, [], ◌∷◌, ◌++◌, length, get_or, set, count_by, arith, refl, ap, subst, ◌∙◌, inl, inr}
use Rattle.std.specs.List.{swap}
use Rattle.std.specs.List.Sorted.{IsPermutation}
use Rattle.std.specs.BinaryHeap.{IsUpperBound}
use Rattle.std.specs.declared.cmp.Ordering.{Ordering}
use Rattle.std.specs.Ordering.{is_lt, nat_cmp, ordering_then}
use Rattle.std.proofs.lemmas.Bool.{cases_eq}
use Rattle.std.proofs.lemmas.Bool.Decides.{nat_tests}
use Rattle.std.proofs.lemmas.List.Sorted.{IsPermutation-keeps, sum_by_pushed, sum_by_popped}
use Rattle.std.proofs.lemmas.List.Sums.{sum_by-cons}
use Rattle.slab.specs.Slab.{Slab, get, Updates}
use Rattle.wx_events.specs.declared.priority.Priority.{Priority}
use Rattle.wx_events.specs.Priority.{rank}
use Rattle.prio_channel.specs.declared.waiting.Waiting.{Waiting}
use Rattle.prio_channel.specs.Channel.{AllAtMost}
use Rattle.prio_channel.specs.SameBag.{SameBag, Takes}
use Rattle.prio_channel.specs.Waiting.{waiting_cmp, with_value, pairs, in_slot, HaveSlots}
use Rattle.prio_channel.proofs.BagLaws.{same-refl, same-sym, same-trans}

-- ---- what a permutation keeps

-- A relation holds along each permutation where it is reflexive and transitive, and goes under a head and over an exchange of two heads.
module _ {X : Type 0} (R : List X → List X → Type 0) (same : (xs : List X) → R xs xs)
    (skip : (x : X) (xs ys : List X) → R xs ys → R (x ∷ xs) (x ∷ ys))
    (turn : (x y : X) (xs : List X) → R (x ∷ y ∷ xs) (y ∷ x ∷ xs))
    (chain : (xs ys zs : List X) → R xs ys → R ys zs → R xs zs) where
  to_head : (l : List X) (j : ℕ) (x d : X) → j < length l → R (x ∷ l) (get_or l j d ∷ set l j x)
  to_head [] j x d h = absurd (omega arith)
  to_head (y ∷ l) zero x d h = turn x y l
  to_head (y ∷ l) (suc j) x d h =
      chain _ _ _ (turn x y l) (chain _ _ _ (skip y _ _ (to_head l j x d (omega arith))) (turn y (get_or l j d) (set l j x)))

  exchanged : (l : List X) (i j : ℕ) (d : X) → i < length l → j < length l → R l (set (set l i (get_or l j d)) j (get_or l i d))
  exchanged [] i j d p q = absurd (omega arith)
  exchanged (x ∷ l) zero zero d p q = same (x ∷ l)
  exchanged (x ∷ l) zero (suc j) d p q = to_head l j x d (omega arith)
  exchanged (x ∷ l) (suc i) zero d p q = to_head l i x d (omega arith)
  exchanged (x ∷ l) (suc i) (suc j) d p q = skip x _ _ (exchanged l i j d (omega arith) (omega arith))

  swapped : (l : List X) (i j : ℕ) → i < length l → j < length l → R l (swap l i j)
  swapped [] i j p q = same []
  swapped (x ∷ l) i j p q = exchanged (x ∷ l) i j x p q

  along_permutation : (xs ys : List X) → IsPermutation xs ys → R xs ys
  along_permutation xs = IsPermutation-keeps xs (R xs) (same xs) (λ l i j p q h. chain xs l _ h (swapped l i j p q))

first_not_less : (x y : ℕ) (o : Ordering) → is_lt (ordering_then (nat_cmp x y) o) ≡ false → y ≤ x
first_not_less x y o e = grind (arith, nat_tests, e)

-- ---- the pairs that wait

module _ {T : Type 0} where
  skip_pair : (o : Option T) (p : Priority) (xs ys : List (T × Priority)) → SameBag xs ys → SameBag (with_value o p xs) (with_value o p ys)
  skip_pair None p xs ys b = b
  skip_pair (Some v) p xs ys b = (0, refl, b)

  turn_pairs : (o u : Option T) (p q : Priority) (xs : List (T × Priority)) → SameBag (with_value o p (with_value u q xs)) (with_value u q (with_value o p xs))
  turn_pairs None u p q xs = same-refl (with_value u q xs)
  turn_pairs (Some v) None p q xs = same-refl ((v, p) ∷ xs)
  turn_pairs (Some v) (Some w) p q xs = (1, refl, (0, refl, same-refl xs))

  -- in whatever order they wait, the pairs are the same
  pub pairs_permuted : (values : Slab T) (xs ys : List Waiting) → IsPermutation xs ys → SameBag (pairs values xs) (pairs values ys)
  pairs_permuted values = along_permutation (λ xs ys. SameBag (pairs values xs) (pairs values ys))
      (λ xs. same-refl _)
      (λ w xs ys b. skip_pair (get values w.slot) w.priority _ _ b)
      (λ w u xs. turn_pairs (get values w.slot) (get values u.slot) w.priority u.priority _)
      (λ xs ys zs. same-trans _ _ _)

  -- a slot in which none of these waits can change
  pub pairs_elsewhere : (old new : Slab T) (slot : ℕ) (now : Option T) (waiting : List Waiting) → Updates old new slot now → count_by (in_slot slot) waiting ≡ 0 → pairs new waiting ≡ pairs old waiting
  pairs_elsewhere old new slot now [] updates none = refl
  pairs_elsewhere old new slot now (w ∷ waiting) updates none =
      let counted = sum_by-cons (λ x. cond (in_slot slot x) 1 0) w waiting in
      let apart : w.slot ≢ slot = λ e. grind (arith, nat_tests) in
      let later : count_by (in_slot slot) waiting ≡ 0 = omega (arith, counted, none) in
      rw (updates.others w.slot apart, pairs_elsewhere old new slot now waiting updates later) refl

  -- each waits with a value, so there are as many pairs
  have_values : (values : Slab T) (waiting : List Waiting) → ((slot : ℕ) → count_by (in_slot slot) waiting ≤ cond (is_some (get values slot)) 1 0) → length (pairs values waiting) ≡ length waiting
  have_values values [] has = refl
  have_values values (w ∷ waiting) has =
      let counted : (slot : ℕ) → count_by (in_slot slot) (w ∷ waiting) ≡ cond (in_slot slot w) 1 0 + count_by (in_slot slot) waiting = λ slot. sum_by-cons (λ x. cond (in_slot slot x) 1 0) w waiting in
      let more = have_values values waiting (λ slot. omega (arith, counted slot, has slot)) in
      of_one (get values w.slot) (grind (arith, nat_tests, counted w.slot, has w.slot)) more
    where
      of_one : (o : Option T) → is_some o ≡ true → length (pairs values waiting) ≡ length waiting → length (with_value o w.priority (pairs values waiting)) ≡ suc (length waiting)
      of_one None e more = cc
      of_one (Some v) e more = ap suc more

  pub pairs_length : (values : Slab T) (waiting : List Waiting) → HaveSlots values waiting → length (pairs values waiting) ≡ length waiting
  pairs_length values waiting has = have_values values waiting (λ slot. omega (arith, has slot))

  -- ---- one more, and one less

  -- one waits in a slot that had no value
  pub slots_sent : (old new : Slab T) (w : Waiting) (value : T) (xs ys : List Waiting) → get old w.slot ≡ None → Updates old new w.slot (Some value) → IsPermutation (w ∷ xs) ys → HaveSlots old xs → HaveSlots new ys
  slots_sent old new w value xs ys vacant updates moved has slot =
      let counted = sum_by_pushed (λ x. cond (in_slot slot x) 1 0) w xs ys moved in
      elim (cases_eq slot w.slot) [
        | inl same ↦
            let before : get old slot ≡ None = ap (get old) same ∙ vacant in
            let after : get new slot ≡ Some value = ap (get new) same ∙ updates.changed in
            grind (arith, nat_tests, counted, has slot, before, after, same)
        | inr differs ↦ grind (arith, nat_tests, counted, has slot, updates.others slot differs, differs)
      ]

  -- one waits no more, and its slot has no value
  pub slots_taken : (old new : Slab T) (w : Waiting) (xs ys : List Waiting) → Updates old new w.slot None → IsPermutation xs (w ∷ ys) → HaveSlots old xs → HaveSlots new ys
  slots_taken old new w xs ys updates moved has slot =
      let counted = sum_by_popped (λ x. cond (in_slot slot x) 1 0) w xs ys moved in
      elim (cases_eq slot w.slot) [
        | inl same ↦
            let after : get new slot ≡ None = ap (get new) same ∙ updates.changed in
            grind (arith, nat_tests, counted, has slot, after, same)
        | inr differs ↦ grind (arith, nat_tests, counted, has slot, updates.others slot differs, differs)
      ]

  to_back : (x : T × Priority) (xs : List (T × Priority)) → SameBag (x ∷ xs) (xs ++ x ∷ [])
  to_back x [] = same-refl (x ∷ [])
  to_back x (y ∷ xs) = (1, refl, to_back x xs)

  pub pairs_sent : (old new : Slab T) (w : Waiting) (value : T) (xs ys : List Waiting) → get old w.slot ≡ None → Updates old new w.slot (Some value) → IsPermutation (w ∷ xs) ys → HaveSlots old xs → SameBag (pairs new ys) (pairs old xs ++ (value, w.priority) ∷ [])
  pairs_sent old new w value xs ys vacant updates moved has =
      let none : count_by (in_slot w.slot) xs ≡ 0 = grind (arith, has w.slot, vacant) in
      let first : pairs new (w ∷ xs) ≡ (value, w.priority) ∷ pairs old xs = rw (updates.changed, pairs_elsewhere old new w.slot (Some value) xs updates none) refl in
      same-trans (pairs new ys) ((value, w.priority) ∷ pairs old xs) _ (subst (SameBag (pairs new ys)) first (same-sym _ _ (pairs_permuted new (w ∷ xs) ys moved))) (to_back _ (pairs old xs))

  pub pairs_taken : (old new : Slab T) (w : Waiting) (value : T) (xs ys : List Waiting) → get old w.slot ≡ Some value → Updates old new w.slot None → IsPermutation xs (w ∷ ys) → HaveSlots old xs → Takes (pairs old xs) (value, w.priority) (pairs new ys)
  pairs_taken old new w value xs ys found updates moved has =
      let counted = sum_by_popped (λ x. cond (in_slot w.slot x) 1 0) w xs ys moved in
      let none : count_by (in_slot w.slot) ys ≡ 0 = grind (arith, nat_tests, counted, has w.slot, found) in
      let first : pairs old (w ∷ ys) ≡ (value, w.priority) ∷ pairs new ys = rw (found, pairs_elsewhere old new w.slot None ys updates none) refl in
      let b : SameBag (pairs old xs) ((value, w.priority) ∷ pairs new ys) = subst (SameBag (pairs old xs)) first (pairs_permuted old xs (w ∷ ys) moved) in
      (b.0, b.1, same-sym _ _ b.2)

  -- the pairs of those that wait are no greater
  pub pairs_at_most : (values : Slab T) (w : Waiting) (waiting : List Waiting) → IsUpperBound waiting_cmp w waiting → AllAtMost w.priority (pairs values waiting)
  pairs_at_most values w [] bound = tt
  pairs_at_most values w (u ∷ waiting) bound =
      one_more (get values u.slot) (first_not_less (rank w.priority) (rank u.priority) _ bound.0) (pairs_at_most values w waiting bound.1)
    where
      one_more : (o : Option T) → rank u.priority ≤ rank w.priority → AllAtMost w.priority (pairs values waiting) → AllAtMost w.priority (with_value o u.priority (pairs values waiting))
      one_more None le all = all
      one_more (Some v) le all = (le, all)
