-- What is kept of a lane beside its items stays right.
use Rattle.std.proofs.Common.{◌≡◌, ℕ, suc, zero, ◌+◌, ◌-◌, ◌<◌, ◌≤◌, Bool, true, false, List, [], ◌∷◌, ◌++◌, length, take, drop, arith, refl, ap, sym, subst, ◌∙◌, inl, inr}
use Rattle.std.specs.Prelude.{slice_index_or, ◌==◌, ◌&&◌, Some, None, nat_lt, nat_le}
use Rattle.std.specs.List.Sorted.{IsPartitionedBy, IsPartitionPoint}
use Rattle.std.proofs.lemmas.Bool.{cases_Bool, and_parts}
use Rattle.std.proofs.lemmas.Bool.Decides.{nat_tests}
use Rattle.std.proofs.lemmas.List.{get_or_default}
use Rattle.wx_lane.specs.declared.lane.LaneItem.{LaneItem}
use Rattle.wx_lane.specs.Lanes.{fenced, hear, hear_first, is_unheard, is_waiting, waiting}
use Rattle.wx_lane.specs.Kept.{is_to_be_heard, quiet, risen, Kept, RisesFrom}
use Rattle.wx_lane.proofs.WaitLemmas.{waiting_hear}

-- ---- how many stand before the first that is to be heard

pub quiet_most : (xs : List LaneItem) → quiet xs ≤ length xs
quiet_most [] = omega arith
quiet_most (x ∷ xs) =
    elim (cases_Bool (is_to_be_heard x)) [
      | inl e ↦ rw e (omega arith)
      | inr e ↦ rw e (omega (arith, quiet_most xs))
    ]

-- one more that isn't to be heard
pub quiet_more : (xs : List LaneItem) (i : ℕ) (d : LaneItem) → i < length xs → i ≤ quiet xs → is_to_be_heard (slice_index_or xs i d) ≡ false → i + 1 ≤ quiet xs
quiet_more [] i d lt le e = absurd (omega arith)
quiet_more (x ∷ xs) zero d lt le e = rw e (omega arith)
quiet_more (x ∷ xs) (suc i) d lt le e =
    elim (cases_Bool (is_to_be_heard x)) [
      | inl f ↦ absurd (let h : suc i ≤ 0 = (rw f at le) in omega (arith, h))
      | inr f ↦ rw f (let h : suc i ≤ quiet xs + 1 = (rw f at le) in let k : i + 1 ≤ quiet xs = quiet_more xs i d (omega arith) (omega (arith, h)) e in omega (arith, k))
    ]

-- the first that is to be heard
pub quiet_there : (xs : List LaneItem) (i : ℕ) (d : LaneItem) → i < length xs → is_to_be_heard (slice_index_or xs i d) ≡ true → quiet xs ≤ i
quiet_there [] i d lt e = absurd (omega arith)
quiet_there (x ∷ xs) zero d lt e = rw e (omega arith)
quiet_there (x ∷ xs) (suc i) d lt e =
    elim (cases_Bool (is_to_be_heard x)) [
      | inl f ↦ rw f (omega arith)
      | inr f ↦ rw f (omega (arith, quiet_there xs i d (omega arith) e))
    ]

-- of those that stand before a place, as many stay whatever comes behind it
pub quiet_kept : (xs ys : List LaneItem) (n i : ℕ) → n ≤ i → n ≤ quiet xs → n ≤ quiet (take i xs ++ ys)
quiet_kept xs ys zero i le h = omega arith
quiet_kept xs ys (suc n) zero le h = absurd (omega arith)
quiet_kept [] ys (suc n) (suc i) le h = absurd (omega arith)
quiet_kept (x ∷ xs) ys (suc n) (suc i) le h =
    elim (cases_Bool (is_to_be_heard x)) [
      | inl f ↦ absurd (let k : suc n ≤ 0 = (rw f at h) in omega (arith, k))
      | inr f ↦ rw f (let k : suc n ≤ quiet xs + 1 = (rw f at h) in omega (arith, quiet_kept xs ys n i (omega arith) (omega (arith, k))))
    ]

pub quiet_joined : (xs ys : List LaneItem) → quiet xs ≤ quiet (xs ++ ys)
quiet_joined [] ys = omega arith
quiet_joined (x ∷ xs) ys =
    elim (cases_Bool (is_to_be_heard x)) [
      | inl f ↦ rw f (omega arith)
      | inr f ↦ rw f (omega (arith, quiet_joined xs ys))
    ]

pub quiet_behind : (xs : List LaneItem) → quiet xs - 1 ≤ quiet (drop 1 xs)
quiet_behind [] = omega arith
quiet_behind (x ∷ xs) =
    elim (cases_Bool (is_to_be_heard x)) [
      | inl f ↦ rw f (omega arith)
      | inr f ↦ rw f (omega arith)
    ]

-- ---- names that rise

pub rises_less : (m n : ℕ) (xs : List LaneItem) → m ≤ n → RisesFrom n xs → RisesFrom m xs
rises_less m n [] le h = tt
rises_less m n (x ∷ xs) le h = (omega (arith, h.0), h.1)

pub rises_joined : (n : ℕ) (xs : List LaneItem) (x : LaneItem) → RisesFrom n xs → risen n xs ≤ x.name → RisesFrom n (xs ++ x ∷ [])
rises_joined n [] x h le = (le, tt)
rises_joined n (y ∷ xs) x h le = (h.0, rises_joined (y.name + 1) xs x h.1 le)

rises_first : (n : ℕ) (xs : List LaneItem) → RisesFrom n xs → RisesFrom n (hear_first xs)
rises_first n [] h = tt
rises_first n (x ∷ xs) h =
    elim (cases_Bool (is_waiting x)) [
      | inl e ↦ rw e h
      | inr e ↦ rw e (rises_less n (x.name + 1) xs (omega (arith, h.0)) h.1)
    ]

pub rises_heard : (n name : ℕ) (xs : List LaneItem) → RisesFrom n xs → RisesFrom n (hear name xs)
rises_heard n name [] h = tt
rises_heard n name (x ∷ xs) h =
    elim (cases_Bool (x.name == name)) [
      | inl e ↦ rw e (rises_first n (x ∷ xs) h)
      | inr e ↦ rw e (h.0, rises_heard (x.name + 1) name xs h.1)
    ]

-- the last one tells from where on names may rise
pub risen_last : (n : ℕ) (x : LaneItem) (xs : List LaneItem) (d : LaneItem) → risen n (x ∷ xs) ≡ (slice_index_or (x ∷ xs) (length xs) d).name + 1
risen_last n x [] d = refl
risen_last n x (y ∷ xs) d = risen_last (x.name + 1) y xs d

pub above : (n : ℕ) (xs : List LaneItem) (i : ℕ) (d : LaneItem) → RisesFrom n xs → i < length xs → n ≤ (slice_index_or xs i d).name
above n [] i d h lt = absurd (omega arith)
above n (x ∷ xs) zero d h lt = h.0
above n (x ∷ xs) (suc i) d h lt = omega (arith, h.0, above (x.name + 1) xs i d h.1 (omega arith))

rises_within : (n : ℕ) (xs : List LaneItem) (i j : ℕ) (d : LaneItem) → RisesFrom n xs → i ≤ j → j < length xs → (slice_index_or xs i d).name ≤ (slice_index_or xs j d).name
rises_within n [] i j d h le within = absurd (omega arith)
rises_within n (x ∷ xs) zero zero d h le within = omega arith
rises_within n (x ∷ xs) (suc i) zero d h le within = absurd (omega arith)
rises_within n (x ∷ xs) zero (suc j) d h le within = omega (arith, above (x.name + 1) xs j d h.1 (omega arith))
rises_within n (x ∷ xs) (suc i) (suc j) d h le within = rises_within (x.name + 1) xs i j d h.1 (omega arith) (omega arith)

pub risen_by : (name n : ℕ) (xs : List LaneItem) (x : LaneItem) → n ≡ length xs → 0 < n → x ≡ slice_index_or xs (n - 1) x → nat_lt x.name name ≡ nat_le (risen 0 xs) name
risen_by name n [] x e lt at = absurd (omega arith)
risen_by name n (y ∷ xs) x e lt at =
    let f : n - 1 ≡ length xs = omega arith in
    let g : x ≡ slice_index_or (y ∷ xs) (length xs) x = (rw f at at) in
    let k : risen 0 (y ∷ xs) ≡ x.name + 1 = risen_last 0 y xs x ∙ ap (λ (z : LaneItem). z.name + 1) (sym g) in
    grind (arith, nat_tests, k)

-- ---- an item of a name, where names rise

pub hear_there : (n name : ℕ) (xs : List LaneItem) (i : ℕ) (d : LaneItem) → RisesFrom n xs → i < length xs → ((slice_index_or xs i d).name == name) ≡ true → hear name xs ≡ take i xs ++ hear_first (drop i xs)
hear_there n name [] i d h lt e = absurd (omega arith)
hear_there n name (x ∷ xs) zero d h lt e = rw e refl
hear_there n name (x ∷ xs) (suc i) d h lt e =
    let k : x.name + 1 ≤ (slice_index_or xs i d).name = above (x.name + 1) xs i d h.1 (omega arith) in
    let f : (x.name == name) ≡ false = grind (arith, nat_tests, k, e) in
    rw f (ap (λ (ys : List LaneItem). x ∷ ys) (hear_there (x.name + 1) name xs i d h.1 (omega arith) e))

hear_none : (name : ℕ) (xs : List LaneItem) → ((i : ℕ) (d : LaneItem) → i < length xs → ((slice_index_or xs i d).name == name) ≡ false) → hear name xs ≡ xs
hear_none name [] h = refl
hear_none name (x ∷ xs) h = rw (h 0 x (omega arith)) (ap (λ (ys : List LaneItem). x ∷ ys) (hear_none name xs (λ i d lt. h (suc i) d (omega arith))))

abbrev pub is_below : ℕ → LaneItem → Bool
is_below name y = nat_lt y.name name

pub parted : (name : ℕ) (xs : List LaneItem) → RisesFrom 0 xs → IsPartitionedBy (is_below name) xs
parted name xs h i j d le lt e = let k : (slice_index_or xs i d).name ≤ (slice_index_or xs j d).name = rises_within 0 xs i j d h le lt in grind (arith, nat_tests, k, e)

abbrev pub IsPlace : ℕ → List LaneItem → ℕ → Type 0
IsPlace name xs k = IsPartitionPoint (λ y. is_below name y ≡ true) (λ y. is_below name y ≡ false) xs k

-- what stands at the place has another name
pub hear_absent : (name : ℕ) (xs : List LaneItem) (k : ℕ) (x : LaneItem) → RisesFrom 0 xs → IsPlace name xs k → k < length xs → x ≡ slice_index_or xs k x → (x.name == name) ≡ false → hear name xs ≡ xs
hear_absent name xs k x h p in_range at e = hear_none name xs (λ i d lt.
    elim (cases_Bool (nat_lt i k)) [
      | inl b ↦ let f : is_below name (slice_index_or xs i d) ≡ true = p.0 i d (omega arith) (grind (arith, nat_tests, b)) in grind (arith, nat_tests, f)
      | inr b ↦
          let here : x ≡ slice_index_or xs k d = at ∙ get_or_default xs k x d in_range in
          let f : is_below name (slice_index_or xs k d) ≡ false = p.1 k d (omega arith) in_range in
          let g : ((slice_index_or xs k d).name == name) ≡ false = ap (λ (y : LaneItem). y.name == name) (sym here) ∙ e in
          let le : (slice_index_or xs k d).name ≤ (slice_index_or xs i d).name = rises_within 0 xs k i d h (grind (arith, nat_tests, b)) lt in
          grind (arith, nat_tests, f, g, le)
    ])

-- nothing stands at the place
pub hear_beyond : (name : ℕ) (xs : List LaneItem) (k : ℕ) → IsPlace name xs k → length xs ≤ k → hear name xs ≡ xs
hear_beyond name xs k p out = hear_none name xs (λ i d lt. let f : is_below name (slice_index_or xs i d) ≡ true = p.0 i d (omega arith) (omega arith) in grind (arith, nat_tests, f))

-- ---- the first below a name that is to be heard

-- none is, from this name on
fenced_beyond : (n below : ℕ) (xs : List LaneItem) → below ≤ n → RisesFrom n xs → fenced below xs ≡ None
fenced_beyond n below [] le h = refl
fenced_beyond n below (x ∷ xs) le h =
    let e : nat_lt x.name below ≡ false = grind (arith, nat_tests, h.0, le) in
    rw e (fenced_beyond (x.name + 1) below xs (omega (arith, h.0)) h.1)

unheard_is : (below : ℕ) (x : LaneItem) → is_unheard below x ≡ (nat_lt x.name below && is_to_be_heard x)
unheard_is below x =
    elim (cases_Bool (nat_lt x.name below)) [
      | inl e ↦ rw e refl
      | inr e ↦ rw e refl
    ]

passed : (below : ℕ) (x : LaneItem) → is_to_be_heard x ≡ false → is_unheard below x ≡ false
passed below x f =
    elim (cases_Bool (nat_lt x.name below)) [
      | inl e ↦ unheard_is below x ∙ rw (e, f) refl
      | inr e ↦ unheard_is below x ∙ rw e refl
    ]

pub fenced_none : (below : ℕ) (xs : List LaneItem) → length xs ≤ quiet xs → fenced below xs ≡ None
fenced_none below [] le = refl
fenced_none below (x ∷ xs) le =
    elim (cases_Bool (is_to_be_heard x)) [
      | inl f ↦ absurd (let k : suc (length xs) ≤ 0 = (rw f at le) in omega (arith, k))
      | inr f ↦ rw (passed below x f) (let k : suc (length xs) ≤ quiet xs + 1 = (rw f at le) in fenced_none below xs (omega (arith, k)))
    ]

pub fenced_there : (below : ℕ) (xs : List LaneItem) (i : ℕ) (d : LaneItem) → i < length xs → i ≡ quiet xs → (slice_index_or xs i d).name < below → fenced below xs ≡ Some (slice_index_or xs i d)
fenced_there below [] i d lt at e = absurd (omega arith)
fenced_there below (x ∷ xs) zero d lt at e =
    elim (cases_Bool (is_to_be_heard x)) [
      | inl f ↦ let b : nat_lt x.name below ≡ true = grind (arith, nat_tests, e) in let u : is_unheard below x ≡ true = unheard_is below x ∙ rw (b, f) refl in rw u refl
      | inr f ↦ absurd (let k : 0 ≡ quiet xs + 1 = (rw f at at) in omega (arith, k))
    ]
fenced_there below (x ∷ xs) (suc i) d lt at e =
    elim (cases_Bool (is_to_be_heard x)) [
      | inl f ↦ absurd (let k : suc i ≡ 0 = (rw f at at) in omega (arith, k))
      | inr f ↦ rw (passed below x f) (let k : suc i ≡ quiet xs + 1 = (rw f at at) in fenced_there below xs i d (omega arith) (omega (arith, k)) e)
    ]

pub fenced_risen : (n below : ℕ) (xs : List LaneItem) (i : ℕ) (d : LaneItem) → RisesFrom n xs → i < length xs → i ≡ quiet xs → below ≤ (slice_index_or xs i d).name → fenced below xs ≡ None
fenced_risen n below [] i d h lt at e = absurd (omega arith)
fenced_risen n below (x ∷ xs) zero d h lt at e = fenced_beyond x.name below (x ∷ xs) e (omega arith, h.1)
fenced_risen n below (x ∷ xs) (suc i) d h lt at e =
    elim (cases_Bool (is_to_be_heard x)) [
      | inl f ↦ absurd (let k : suc i ≡ 0 = (rw f at at) in omega (arith, k))
      | inr f ↦ rw (passed below x f) (let k : suc i ≡ quiet xs + 1 = (rw f at at) in fenced_risen (x.name + 1) below xs i d h.1 (omega arith) (omega (arith, k)) e)
    ]

-- ---- all that is kept

waiting_first : (x : LaneItem) (xs : List LaneItem) → waiting (x ∷ xs) ≡ waiting (x ∷ []) + waiting xs
waiting_first x xs =
    elim (cases_Bool (is_waiting x)) [
      | inl e ↦ rw e (omega arith)
      | inr e ↦ rw e (omega arith)
    ]

waiting_joined : (xs : List LaneItem) (x : LaneItem) → waiting (xs ++ x ∷ []) ≡ waiting xs + waiting (x ∷ [])
waiting_joined [] x = omega arith
waiting_joined (y ∷ xs) x =
    let a : waiting (y ∷ xs ++ x ∷ []) ≡ waiting (y ∷ []) + waiting (xs ++ x ∷ []) = waiting_first y (xs ++ x ∷ []) in
    let b : waiting (y ∷ xs) ≡ waiting (y ∷ []) + waiting xs = waiting_first y xs in
    let c : waiting (xs ++ x ∷ []) ≡ waiting xs + waiting (x ∷ []) = waiting_joined xs x in
    omega (arith, a, b, c)

waits_within : (x : LaneItem) (n size : ℕ) → n ≤ size → (is_waiting x ≡ true → n < size) → n + waiting (x ∷ []) ≤ size
waits_within x n size le room =
    elim (cases_Bool (is_waiting x)) [
      | inl e ↦ let k : n < size = room e in rw e (omega (arith, k))
      | inr e ↦ rw e (omega (arith, le))
    ]

pub kept_joined : (xs : List LaneItem) (x : LaneItem) (size count before waits found : ℕ) (rising still : Bool) → Kept xs size count before rising → waits ≡ waiting (x ∷ []) → (is_waiting x ≡ true → waiting xs < size) → still ≡ (rising && nat_le (risen 0 xs) x.name) → found ≡ quiet (xs ++ x ∷ []) → Kept (xs ++ x ∷ []) size (count + waits) found still
kept_joined xs x size count before waits found rising still k w room s q = record {
  within = let le : waiting xs + waiting (x ∷ []) ≤ size = waits_within x (waiting xs) size (omega (arith, k.within, k.counted)) room in omega (arith, le, w, k.counted);
  counted = let e : waiting (xs ++ x ∷ []) ≡ waiting xs + waiting (x ∷ []) = waiting_joined xs x in omega (arith, e, w, k.counted);
  found = q;
  rise = λ e.
      let both = and_parts rising (nat_le (risen 0 xs) x.name) (sym s ∙ e) in
      rises_joined 0 xs x (k.rise both.0) (grind (arith, nat_tests, both.1));
}

pub kept_behind : (x : LaneItem) (xs : List LaneItem) (size count before waits found : ℕ) (rising : Bool) → Kept (x ∷ xs) size count before rising → waits ≡ waiting (x ∷ []) → found ≡ quiet xs → Kept xs size (count - waits) found rising
kept_behind x xs size count before waits found rising k w q =
    let e : waiting (x ∷ xs) ≡ waiting (x ∷ []) + waiting xs = waiting_first x xs in
    record {
      within = omega (arith, k.within);
      counted = omega (arith, e, w, k.counted);
      found = q;
      rise = λ r. rises_less 0 (x.name + 1) xs (omega arith) (k.rise r).1;
    }

pub kept_heard : (name : ℕ) (xs ys : List LaneItem) (size count before found : ℕ) (rising : Bool) → Kept xs size count before rising → ys ≡ hear name xs → found ≡ quiet ys → Kept ys size count found rising
kept_heard name xs ys size count before found rising k e q = record {
  within = k.within;
  counted = k.counted ∙ sym (ap waiting e ∙ waiting_hear name xs);
  found = q;
  rise = λ r. subst (RisesFrom 0) (sym e) (rises_heard 0 name xs (k.rise r));
}

-- what waits is counted among the first and the others
pub counts_first : (x : LaneItem) (xs : List LaneItem) (size count before waits : ℕ) (rising : Bool) → Kept (x ∷ xs) size count before rising → waits ≡ waiting (x ∷ []) → waits ≤ count
counts_first x xs size count before waits rising k w = let e : waiting (x ∷ xs) ≡ waiting (x ∷ []) + waiting xs = waiting_first x xs in omega (arith, e, w, k.counted)
