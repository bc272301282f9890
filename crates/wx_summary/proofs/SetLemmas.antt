-- Texts that rise, and are just those of a list, are the elements of its set.
use Rattle.std.proofs.Common.{◌≡◌, ℕ, T, Bool, true, false, cond, List, [], ◌∷◌, map, refl, sym, ap, subst, ◌∙◌, Option, Some, None, is_some}
use Rattle.std.specs.Prelude.{◌==◌, ◌||◌, ◌&&◌}
use Rattle.std.specs.List.{list_any, dedup, dedup_from, AllByRecursion}
use Rattle.std.specs.List.Retain.{IsFiltered, DiffersFromLast}
use Rattle.std.specs.List.Sorted.{IsStrictlySortedBy, IsSorted, IsPermutation}
use Rattle.std.specs.Ordering.{nat_cmp, eq_by_cmp, is_lt}
use Rattle.std.specs.Cmp.Lexicographic.{pointwise, texts_ties}
use Rattle.std.proofs.lemmas.List.Filters.{dedup_is}
use Rattle.std.proofs.lemmas.List.Kept.{IsStrictlySortedBy-dedup}
use Rattle.std.proofs.lemmas.List.Sorted.{list_any-IsPermutation}
use Rattle.std.proofs.lemmas.Map.Lookups.{exact_bytes}
use Rattle.std.specs.declared.cmp.Ordering.{Ordering}
use Rattle.std.specs.declared.cmp.Ordering.TheVariants.{Less, Equal, Greater}
use Rattle.std.specs.Cmp.Lexicographic.{slice_cmp, nat_list_cmp_total}
use Rattle.std.specs.Cmp.{Equal-is}
use Rattle.std.specs.FinMap as finite
use Rattle.std.specs.FinMap.{nat_cmp-IsAntisymmetric, slice_cmp-IsAntisymmetric}
use Rattle.std.specs.FinMap.Entries.{find, below_all, is_sorted}
use Rattle.std.specs.Str.{bytes_eq}
use Rattle.std.proofs.lemmas.Map.Text.{is_eq-slice_cmp}
use Rattle.wx_summary.specs.Summaries.{set_of, elements}
use Rattle.wx_summary.specs.Laws.{ElementsRise, ElementsAreThese}

-- the order of bytes
abbrev pub by_bytes : List ℕ → List ℕ → Ordering
by_bytes = slice_cmp nat_cmp

abbrev pub marks : List (List ℕ) → List (List ℕ × Unit {0})
marks texts = map (λ text. (text, tt)) texts

abbrev pub marked : Bool → Option (Unit {0})
marked b = cond b (Some tt) None

holds_both : (a b : Bool) → T a → T b → T (a && b)
holds_both true b p q = q
holds_both false b p q = absurd p

below_marks : (x : List ℕ) (texts : List (List ℕ)) → AllByRecursion (λ y. by_bytes x y ≡ Less) texts → T (below_all by_bytes x (marks texts))
below_marks x [] h = tt
below_marks x (y ∷ texts) h = holds_both _ _ (subst (λ o. T (is_lt o)) (sym h.0) tt) (below_marks x texts h.1)

pub rising_marks : (texts : List (List ℕ)) → IsStrictlySortedBy by_bytes texts → T (is_sorted by_bytes (marks texts))
unfolding IsStrictlySortedBy
rising_marks [] h = tt
rising_marks (x ∷ texts) h = holds_both _ _ (below_marks x texts h.0) (rising_marks texts h.1)

find_marks : (q : List ℕ) (texts : List (List ℕ)) → find by_bytes q (marks texts) ≡ marked (list_any (eq_by_cmp by_bytes q) texts)
find_marks q [] = refl
find_marks q (x ∷ texts) =
    elim (eq_by_cmp by_bytes q x) as (λ b. cond b (Some tt) (find by_bytes q (marks texts)) ≡ marked (b || list_any (eq_by_cmp by_bytes q) texts)) [
      | true ↦ refl
      | false ↦ find_marks q texts
    ]

keys_marks : (texts : List (List ℕ)) → map (λ (e : List ℕ × Unit {0}). e.0) (marks texts) ≡ texts
keys_marks [] = refl
keys_marks (x ∷ texts) = ap (λ (v : List (List ℕ)). x ∷ v) (keys_marks texts)

bytes_exact : finite.IsAntisymmetric by_bytes
bytes_exact = slice_cmp-IsAntisymmetric nat_cmp-IsAntisymmetric

-- two lists with the same texts are the same set
pub same_set : (xs ys : List (List ℕ)) → ((q : List ℕ) → list_any (eq_by_cmp by_bytes q) xs ≡ list_any (eq_by_cmp by_bytes q) ys) → set_of xs ≡ set_of ys
same_set xs ys same =
    finite.same_map nat_list_cmp_total bytes_exact (set_of xs) (set_of ys) (λ q.
    finite.get-from_entries nat_list_cmp_total (marks xs) q
    ∙ find_marks q xs ∙ ap marked (same q) ∙ sym (find_marks q ys)
    ∙ sym (finite.get-from_entries nat_list_cmp_total (marks ys) q))

pub rising_elements : (xs ys : List (List ℕ)) → IsStrictlySortedBy by_bytes ys → ((q : List ℕ) → list_any (eq_by_cmp by_bytes q) ys ≡ list_any (eq_by_cmp by_bytes q) xs) → ys ≡ elements xs
rising_elements xs ys rises same =
    let sorted = rising_marks ys rises in
    let set : finite.FinMap by_bytes (Unit {0}) = finite.from_sorted (marks ys) in
    let e : set ≡ set_of xs = finite.same_map nat_list_cmp_total bytes_exact set (set_of xs) (λ q.
    finite.get-from_sorted by_bytes (marks ys) q sorted
    ∙ find_marks q ys ∙ ap marked (same q) ∙ sym (find_marks q xs)
    ∙ sym (finite.get-from_entries nat_list_cmp_total (marks xs) q)) in
    let k : finite.keys set ≡ ys = ap (map (λ (p : List ℕ × Unit {0}). p.0)) (finite.entries-from_sorted by_bytes (marks ys) sorted) ∙ keys_marks ys in
    sym k ∙ ap finite.keys e

-- ---- what `dedup` leaves

-- a test that can't tell equal texts apart passes one of those that are kept where it passes one of all
any_from : (p : List ℕ → Bool) (same : List ℕ → List ℕ → Bool) → ((x y : List ℕ) → same x y ≡ true → p x ≡ p y) → (k : List ℕ) (xs : List (List ℕ)) → list_any p (dedup_from same k xs) ≡ (p k || list_any p xs)
any_from p same alike k [] = refl
any_from p same alike k (x ∷ xs) =
    let P : Bool → Type 0 = λ b. same x k ≡ b → list_any p (cond b (dedup_from same k xs) (k ∷ dedup_from same x xs)) ≡ (p k || (p x || list_any p xs)) in
    elim (same x k) as P [
      | true ↦ λ e. any_from p same alike k xs ∙ twice (p k) (p x) (list_any p xs) (alike x k e)
      | false ↦ λ e. ap (λ b. p k || b) (any_from p same alike x xs)
    ] refl
  where
    twice : (a b c : Bool) → b ≡ a → (a || c) ≡ (a || (b || c))
    twice true b c e = refl
    twice false b c e = rw e refl

pub any_kept : (p : List ℕ → Bool) (same : List ℕ → List ℕ → Bool) → ((x y : List ℕ) → same x y ≡ true → p x ≡ p y) → (xs : List (List ℕ)) → list_any p (dedup same xs) ≡ list_any p xs
any_kept p same alike [] = refl
any_kept p same alike (x ∷ xs) = any_from p same alike x xs

abbrev pub bytes_same : List ℕ → List ℕ → Bool
bytes_same = pointwise ◌==◌

-- texts that tie are equal
tied : (x y : List ℕ) → bytes_same x y ≡ true → by_bytes x y ≡ Equal
tied x y t = (Equal-is (by_bytes x y)).0 (sym (texts_ties x y) ∙ t)

-- what is left of these texts where they are sorted and then kept once
pub sorted_once : (xs ys zs : List (List ℕ)) → IsPermutation xs ys → IsSorted by_bytes ys → IsFiltered (DiffersFromLast bytes_same) [] ys zs → zs ≡ elements xs
sorted_once xs ys zs moved sorted filtered =
    let e : zs ≡ dedup bytes_same ys = dedup_is bytes_same ys zs filtered in
    let rises : IsStrictlySortedBy by_bytes (dedup bytes_same ys) = IsStrictlySortedBy-dedup nat_list_cmp_total texts_ties ys sorted in
    let alike : (q x y : List ℕ) → bytes_same x y ≡ true → eq_by_cmp by_bytes q x ≡ eq_by_cmp by_bytes q y = λ q x y t. ap (eq_by_cmp by_bytes q) (exact_bytes x y (tied x y t)) in
    e ∙ rising_elements xs (dedup bytes_same ys) rises (λ q. any_kept (eq_by_cmp by_bytes q) bytes_same (alike q) ys ∙ sym (list_any-IsPermutation (eq_by_cmp by_bytes q) xs ys moved))

-- ---- what the elements of a set are

split : (a b : Bool) → T (a && b) → T a × T b
split true b h = (tt, h)
split false b h = absurd h

below_is : (x : List ℕ) (es : List (List ℕ × Unit {0})) → T (below_all by_bytes x es) → AllByRecursion (λ y. by_bytes x y ≡ Less) (map (λ e. e.0) es)
below_is x [] h = tt
below_is x (e ∷ es) h = let k = split _ _ h in (is_less (by_bytes x e.0) k.0, below_is x es k.1)
  where
    is_less : (o : Ordering) → T (is_lt o) → o ≡ Less
    is_less Less t = refl
    is_less Equal t = absurd t
    is_less Greater t = absurd t

keys_rise : (es : List (List ℕ × Unit {0})) → T (is_sorted by_bytes es) → IsStrictlySortedBy by_bytes (map (λ e. e.0) es)
unfolding IsStrictlySortedBy
keys_rise [] h = tt
keys_rise (e ∷ es) h = let k = split _ _ h in (below_is e.0 es k.0, keys_rise es k.1)

pub elements_rise : ElementsRise
elements_rise texts = keys_rise (finite.entries (set_of texts)) (finite.entries_sorted (set_of texts))

any_alike : (p q : List ℕ → Bool) → ((x : List ℕ) → p x ≡ q x) → (xs : List (List ℕ)) → list_any p xs ≡ list_any q xs
any_alike p q alike [] = refl
any_alike p q alike (x ∷ xs) = rw (alike x, any_alike p q alike xs) refl

some_mark : (b : Bool) → is_some (marked b) ≡ b
some_mark true = refl
some_mark false = refl

pub elements_are_these : ElementsAreThese
elements_are_these texts text =
    let ties : (xs : List (List ℕ)) → list_any (eq_by_cmp by_bytes text) xs ≡ list_any (bytes_eq text) xs = any_alike (eq_by_cmp by_bytes text) (bytes_eq text) (λ x. is_eq-slice_cmp text x) in
    sym (ties (elements texts))
    ∙ sym (finite.contains_key-keys (set_of texts) text)
    ∙ ap is_some (finite.get-from_entries nat_list_cmp_total (marks texts) text ∙ find_marks text texts)
    ∙ some_mark (list_any (eq_by_cmp by_bytes text) texts)
    ∙ ties texts
