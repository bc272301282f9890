-- What an entry more leaves found.
use Rattle.std.proofs.Common.{Ordering, Less, Equal, Greater, ◌≡◌, ℕ, zero, suc, ◌+◌, ◌-◌, ◌≤◌, ◌<◌, Bool, true, false, cond, Option, Some, None, List, [], ◌∷◌, ◌++◌, length, slice_get, inl, inr, arith, refl, sym, ap, ◌∙◌}
use Rattle.std.specs.Prelude.{◌&&◌, ◌||◌, ◌==◌, not}
use Rattle.std.specs.Option.{unwrap_or}
use Rattle.std.proofs.lemmas.Bool.{cases_Bool, cases_lt, both_ways}
use Rattle.std.proofs.lemmas.List.{length-append}
use Rattle.std.proofs.lemmas.Option.{slice_get_within, same_Some}
use Rattle.std.proofs.lemmas.Map.Lookups.{exact_bytes}
use Rattle.std.specs.BTreeMap.{BTreeMap, get, is_at, Updates}
use Rattle.std.specs.Cmp.Lexicographic.{slice_cmp}
use Rattle.std.specs.Ordering.{is_eq, nat_cmp}
use Rattle.wx_tree.specs.Paths.{same_part}
use Rattle.wx_tree.proofs.PathLemmas.{same_part-refl, same_part-true}
use Rattle.wx_index.specs.Chained.{Key, NoneOf, IsEnd}

pub get-below : {X : Type 0} (xs : List X) (x : X) (at : ℕ) → at < length xs → slice_get (xs ++ x ∷ []) at ≡ slice_get xs at
get-below [] x at lt = absurd (omega arith)
get-below (y ∷ xs) x zero lt = refl
get-below (y ∷ xs) x (suc at) lt = get-below xs x at (omega arith)

pub get-last : {X : Type 0} (xs : List X) (x : X) → slice_get (xs ++ x ∷ []) (length xs) ≡ Some x
get-last [] x = refl
get-last (y ∷ xs) x = get-last xs x

-- what is found among the first of them is found where there is one more
wider : (q k : Key) (keys : List Key) (to end : ℕ) → to ≤ length keys → IsEnd q keys to end → IsEnd q (keys ++ k ∷ []) to end
wider q k keys to end le is = (
  is.0,
  λ lt. get-below keys k (end - 1) (slice_get_within keys (end - 1) q (is.1 lt)) ∙ is.1 lt,
  λ at from below e. is.2 at from below (sym (get-below keys k at (omega arith)) ∙ e),
)

-- another key ends where it did
wider_other : (q k : Key) (keys : List Key) (end : ℕ) → (q ≡ k → ⊥) → IsEnd q keys (length keys) end → IsEnd q (keys ++ k ∷ []) (length keys + 1) end
wider_other q k keys end apart is = (
  omega (arith, is.0),
  λ lt. get-below keys k (end - 1) (slice_get_within keys (end - 1) q (is.1 lt)) ∙ is.1 lt,
  λ at from below e.
      elim (cases_lt at (length keys)) [
        | inl a ↦ is.2 at from a (sym (get-below keys k at a) ∙ e)
        | inr a ↦
            let is_last : at ≡ length keys = omega arith in
            let f : Some k ≡ Some q = sym (get-last keys k) ∙ (ap (λ n. slice_get (keys ++ k ∷ []) n) (sym is_last) ∙ e) in
            apart (sym (same_Some k q f))
      ],
)

here : (k : Key) (keys : List Key) (end : ℕ) → end ≡ length keys + 1 → IsEnd k (keys ++ k ∷ []) (length keys + 1) end
here k keys end e = (
  omega arith,
  λ lt. (let f : end - 1 ≡ length keys = omega arith in ap (λ n. slice_get (keys ++ k ∷ []) n) f ∙ get-last keys k),
  λ at from below h. absurd (omega arith),
)

abbrev pub AreFoundBy : List Key → (Key → ℕ) → List ℕ → Type 0
AreFoundBy keys f before = (length before ≡ length keys) × ((k : Key) → IsEnd k keys (length keys) (f k)) × ((at : ℕ) (k : Key) → slice_get keys at ≡ Some k → IsEnd k keys at (unwrap_or (slice_get before at) 0))

ends : (keys : List Key) (k : Key) (f g : Key → ℕ) → g k ≡ length keys + 1 → ((q : Key) → (q ≡ k → ⊥) → g q ≡ f q) → ((q : Key) → IsEnd q keys (length keys) (f q)) → (q : Key) → IsEnd q (keys ++ k ∷ []) (length keys + 1) (g q)
ends keys k f g at_key other is q =
    elim (cases_Bool (same_part q k)) [
      | inl a ↦
          let e : q ≡ k = same_part-true q k a in
          rw e (here k keys (g k) at_key)
      | inr a ↦
          let apart : q ≡ k → ⊥ = λ e. both_ways (same_part q k) a (rw e (same_part-refl k)) in
          rw (other q apart) (wider_other q k keys (f q) apart (is q))
    ]

befores : (keys : List Key) (k : Key) (f : Key → ℕ) (before : List ℕ) → AreFoundBy keys f before → (at : ℕ) (q : Key) → slice_get (keys ++ k ∷ []) at ≡ Some q → IsEnd q (keys ++ k ∷ []) at (unwrap_or (slice_get (before ++ f k ∷ []) at) 0)
befores keys k f before is at q e =
    elim (cases_lt at (length keys)) [
      | inl a ↦
          let b = is.2 at q (sym (get-below keys k at a) ∙ e) in
          rw (get-below before (f k) at (omega (arith, is.0))) (wider q k keys at (unwrap_or (slice_get before at) 0) (omega arith) b)
      | inr a ↦
          let len = length-append keys (k ∷ []) in
          let within : at < length (keys ++ k ∷ []) = slice_get_within (keys ++ k ∷ []) at q e in
          let is_last : at ≡ length keys = omega arith in
          let at_end : at ≡ length before = omega (arith, is.0) in
          let g : Some k ≡ Some q = sym (get-last keys k) ∙ (ap (λ n. slice_get (keys ++ k ∷ []) n) (sym is_last) ∙ e) in
          let same : k ≡ q = same_Some k q g in
          let last : slice_get (before ++ f k ∷ []) at ≡ Some (f k) = ap (λ n. slice_get (before ++ f k ∷ []) n) at_end ∙ get-last before (f k) in
          rw (last, ← same, is_last) (wider k k keys (length keys) (f k) (omega arith) (is.1 k))
    ]

pub pushed_found : (keys : List Key) (k : Key) (f g : Key → ℕ) (before : List ℕ) → g k ≡ length keys + 1 → ((q : Key) → (q ≡ k → ⊥) → g q ≡ f q) → AreFoundBy keys f before → AreFoundBy (keys ++ k ∷ []) g (before ++ f k ∷ [])
pushed_found keys k f g before at_key other is =
    let n = length-append keys (k ∷ []) in
    let m = length-append before (f k ∷ []) in
    let len : length (keys ++ k ∷ []) ≡ length keys + 1 = n in (
      omega (arith, is.0),
      λ q. rw len (ends keys k f g at_key other is.1 q),
      befores keys k f before is,
    )

is_eq-true : (o : Ordering) → is_eq o ≡ true → o ≡ Equal
is_eq-true Less h = cc
is_eq-true Equal h = refl
is_eq-true Greater h = cc

apart_at : (k q : Key) → (q ≡ k → ⊥) → is_at (slice_cmp nat_cmp k) q ≡ false
apart_at k q apart =
    elim (cases_Bool (is_at (slice_cmp nat_cmp k) q)) [
      | inl a ↦ absurd (apart (sym (exact_bytes k q (is_eq-true (slice_cmp nat_cmp k q) a))))
      | inr a ↦ a
    ]

abbrev pub end_in : BTreeMap Key ℕ → Key → ℕ
end_in heads k = unwrap_or (get (slice_cmp nat_cmp) heads k) 0

pub pushed : (keys : List Key) (k : Key) (old new : BTreeMap Key ℕ) (before after : List ℕ) (end n : ℕ) → end ≡ end_in old k → after ≡ before ++ end ∷ [] → n ≡ length after → Updates (slice_cmp nat_cmp) old new k (Some n) → AreFoundBy keys (end_in old) before → AreFoundBy (keys ++ k ∷ []) (end_in new) after
pushed keys k old new before after end n e f m up is =
    let len : n ≡ length keys + 1 = m ∙ (ap length f ∙ (length-append before (end ∷ []) ∙ ap (λ a. a + 1) is.0)) in
    let here_now : end_in new k ≡ length keys + 1 = ap (λ o. unwrap_or o 0) up.1 ∙ len in
    let others : (q : Key) → (q ≡ k → ⊥) → end_in new q ≡ end_in old q = λ q apart. ap (λ o. unwrap_or o 0) (up.2 q (apart_at k q apart)) in
    rw (f, e) (pushed_found keys k (end_in old) (end_in new) before here_now others is)
