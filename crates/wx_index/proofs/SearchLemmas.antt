-- How the first entry that is met is found from the end.
use Rattle.std.proofs.Common.{◌≡◌, ℕ, zero, suc, ◌+◌, ◌-◌, ◌≤◌, ◌<◌, Bool, true, false, cond, Option, Some, None, List, [], ◌∷◌, length, slice_get, map, inl, inr, arith, refl, sym, ap, ◌∙◌}
use Rattle.std.specs.Prelude.{◌&&◌, ◌||◌, if◌then◌else◌}
use Rattle.std.proofs.lemmas.Bool.{cases_Bool, cases_lt, both_ways}
use Rattle.std.proofs.lemmas.Option.{slice_get_within, slice_get-map, slice_get_past, same_Some}
use Rattle.wx_index.specs.Chained.{Key, NoneOf, IsEnd, first_at, judged}
use Rattle.std.specs.Option.{unwrap_or}
use Rattle.wx_index.proofs.ChainLemmas.{AreFoundBy}

pub length-mapped : {X Y : Type 0} (f : X → Y) (xs : List X) → length (map f xs) ≡ length xs
length-mapped f [] = refl
length-mapped f (x ∷ xs) = ap suc (length-mapped f xs)

pub first_is : {X : Type 0} (asks : X → Bool) (xs : List X) (n : ℕ) → ((at : ℕ) (x : X) → at < n → slice_get xs at ≡ Some x → asks x ≡ false) → ((x : X) → slice_get xs n ≡ Some x → asks x ≡ true) → n ≤ length xs → n ≡ first_at asks xs
first_is asks [] n none some le = omega arith
first_is asks (x ∷ xs) zero none some le = rw (some x refl) refl
first_is asks (x ∷ xs) (suc n) none some le =
    rw (none 0 x (omega arith) refl) (ap suc (first_is asks xs n (λ at y lt e. none (suc at) y (omega arith) e) some (omega arith)))

-- what is known while so many of them are left
abbrev pub Searched : {X : Type 0} → (X → Bool) → (X → Key) → List X → Key → ℕ → ℕ → Type 0
Searched {X} asks key xs k left found =
    ((at : ℕ) (x : X) → left ≤ at → at < found → slice_get xs at ≡ Some x → asks x ≡ false)
    × ((x : X) → slice_get xs found ≡ Some x → asks x ≡ true)
    × (found ≤ length xs)
    × (0 < left → slice_get (map key xs) (left - 1) ≡ Some k)

-- what has another key isn't met
unmet : {X : Type 0} (asks : X → Bool) (key : X → Key) (xs : List X) (k : Key) (from to at : ℕ) (x : X) → ((y : X) → asks y ≡ true → key y ≡ k) → NoneOf k (map key xs) from to → from ≤ at → at < to → slice_get xs at ≡ Some x → asks x ≡ false
unmet asks key xs k from to at x keyed none le lt e =
    elim (cases_Bool (asks x)) [
      | inl a ↦
          let f : slice_get (map key xs) at ≡ Some (key x) = slice_get-map key xs at ∙ (rw e refl) in
          absurd (none at le lt (f ∙ ap Some (keyed x a)))
      | inr a ↦ a
    ]

pub search_begins : {X : Type 0} (asks : X → Bool) (key : X → Key) (xs : List X) (k : Key) (left : ℕ) → ((y : X) → asks y ≡ true → key y ≡ k) → IsEnd k (map key xs) (length xs) left → Searched asks key xs k left (length xs)
search_begins asks key xs k left keyed is = (
  λ at x le lt e. unmet asks key xs k left (length xs) at x keyed is.2 le lt e,
  λ x e. let lt = slice_get_within xs (length xs) x e in absurd (omega arith),
  omega arith,
  is.1,
)

-- the entry that is looked at is met
search_finds : {X : Type 0} (asks : X → Bool) (key : X → Key) (xs : List X) (k : Key) (at next : ℕ) (y : X) → ((y : X) → asks y ≡ true → key y ≡ k) → IsEnd k (map key xs) at next → slice_get xs at ≡ Some y → asks y ≡ true → Searched asks key xs k next at
search_finds asks key xs k at next y keyed is e met = (
  λ i x le lt h. unmet asks key xs k next at i x keyed is.2 le lt h,
  λ x h. (let f = same_Some x y (sym h ∙ e) in rw f met),
  (let lt = slice_get_within xs at y e in omega arith),
  is.1,
)

-- it isn't met
search_passes : {X : Type 0} (asks : X → Bool) (key : X → Key) (xs : List X) (k : Key) (left found at next : ℕ) → ((y : X) → asks y ≡ true → key y ≡ k) → Searched asks key xs k left found → 0 < left → at ≡ left - 1 → IsEnd k (map key xs) at next → ((x : X) → slice_get xs at ≡ Some x → asks x ≡ false) → Searched asks key xs k next found
search_passes asks key xs k left found at next keyed was lt e is passed = (
  λ i x le lt' h.
      elim (cases_lt i at) [
        | inl a ↦ unmet asks key xs k next at i x keyed is.2 le a h
        | inr a ↦ elim (cases_lt at i) [
          | inl b ↦ was.0 i x (omega arith) lt' h
          | inr b ↦ (let f : i ≡ at = omega arith in passed x (ap (slice_get xs) (sym f) ∙ h))
        ]
      ],
  was.1,
  was.2,
  is.1,
)

goes : {X : Type 0} (asks : X → Bool) (key : X → Key) (xs : List X) (k : Key) (left found at next : ℕ) (o : Option X) → ((y : X) → asks y ≡ true → key y ≡ k) → Searched asks key xs k left found → 0 < left → at ≡ left - 1 → IsEnd k (map key xs) at next → slice_get xs at ≡ o → Searched asks key xs k next (judged asks o at found)
goes asks key xs k left found at next None keyed was lt e is h =
    search_passes asks key xs k left found at next keyed was lt e is (λ x f. (let g = sym h ∙ f in cc))
goes asks key xs k left found at next (Some y) keyed was lt e is h =
    elim (cases_Bool (asks y)) [
      | inl a ↦ rw a (search_finds asks key xs k at next y keyed is h a)
      | inr a ↦ rw a (search_passes asks key xs k left found at next keyed was lt e is (λ x f. (let g = same_Some x y (sym f ∙ h) in rw g a)))
    ]

pub search_goes : {X : Type 0} (asks : X → Bool) (key : X → Key) (xs : List X) (k : Key) (left found at next : ℕ) → ((y : X) → asks y ≡ true → key y ≡ k) → Searched asks key xs k left found → 0 < left → at ≡ left - 1 → IsEnd k (map key xs) at next → Searched asks key xs k next (judged asks (slice_get xs at) at found)
search_goes asks key xs k left found at next keyed was lt e is = goes asks key xs k left found at next (slice_get xs at) keyed was lt e is refl

pub search_ends : {X : Type 0} (asks : X → Bool) (key : X → Key) (xs : List X) (k : Key) (left found : ℕ) → Searched asks key xs k left found → left ≤ 0 → found ≡ first_at asks xs
search_ends asks key xs k left found was le =
    first_is asks xs found (λ i x lt h. was.0 i x (omega arith) lt h) was.1 was.2

pub begins_found : {X : Type 0} (asks : X → Bool) (key : X → Key) (xs : List X) (k : Key) (f : Key → ℕ) (before : List ℕ) (left : ℕ) → ((y : X) → asks y ≡ true → key y ≡ k) → AreFoundBy (map key xs) f before → left ≡ f k → Searched asks key xs k left (length xs)
begins_found asks key xs k f before left keyed is e =
    search_begins asks key xs k left keyed (rw (e, ← length-mapped key xs) (is.1 k))

next_end : {X : Type 0} (asks : X → Bool) (key : X → Key) (xs : List X) (k : Key) (f : Key → ℕ) (before : List ℕ) (left found next : ℕ) → AreFoundBy (map key xs) f before → Searched asks key xs k left found → 0 < left → next ≡ unwrap_or (slice_get before (left - 1)) 0 → IsEnd k (map key xs) (left - 1) next
next_end asks key xs k f before left found next is was lt e = rw e (is.2 (left - 1) k (was.3 lt))

pub goes_found : {X : Type 0} (asks : X → Bool) (key : X → Key) (xs : List X) (k : Key) (f : Key → ℕ) (before : List ℕ) (left found next found' : ℕ) → ((y : X) → asks y ≡ true → key y ≡ k) → AreFoundBy (map key xs) f before → Searched asks key xs k left found → 0 < left → next ≡ unwrap_or (slice_get before (left - 1)) 0 → found' ≡ judged asks (slice_get xs (left - 1)) (left - 1) found → Searched asks key xs k next found'
goes_found asks key xs k f before left found next found' keyed is was lt e h =
    rw h (search_goes asks key xs k left found (left - 1) next keyed was lt refl (next_end asks key xs k f before left found next is was lt e))

pub falls_found : {X : Type 0} (asks : X → Bool) (key : X → Key) (xs : List X) (k : Key) (f : Key → ℕ) (before : List ℕ) (left found next : ℕ) → AreFoundBy (map key xs) f before → Searched asks key xs k left found → 0 < left → next ≡ unwrap_or (slice_get before (left - 1)) 0 → next < left
falls_found asks key xs k f before left found next is was lt e =
    let a = next_end asks key xs k f before left found next is was lt e in
    omega (arith, a.0)
