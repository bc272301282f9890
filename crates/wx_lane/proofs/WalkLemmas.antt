-- The place that a normalised path names is where its parts lead to.
use Rattle.std.proofs.Common.{◌≡◌, ℕ, suc, ◌+◌, ◌-◌, ◌≤◌, ◌<◌, Bool, true, false, List, [], ◌∷◌, ◌++◌, length, take, drop, arith, refl, ap, sym, ◌∙◌, inl, inr, codes}
use Rattle.std.specs.Prelude.{◌==◌}
use Rattle.std.specs.Str.{bytes_eq}
use Rattle.std.specs.List.{filter, fold, join_with_byte, onto_first}
use Rattle.std.proofs.lemmas.Bool.{cases_Bool}
use Rattle.std.proofs.lemmas.List.{append-nil}
use Rattle.std.proofs.lemmas.List.Elements.{filter-append}
use Rattle.wx_words.specs.Line.{parts}
use Rattle.wx_words.specs.LineLaws.{some_part}
use Rattle.wx_paths.specs.Paths.{is_absolute, is_named, kept, normalize, path_parts, spelled, with_part, without_last}
use Rattle.wx_paths.proofs.ComponentLemmas.{split-append}
use Rattle.wx_tree.specs.Paths.{Part, Path}
use Rattle.wx_tree.specs.Places.{AreParts, has_no_slash, is_part, place, place_from}
use Rattle.wx_tree.proofs.PlaceLemmas.{parts-taken, part-read, part-clean, part-pushed}
use Rattle.wx_lane.proofs.MeetLemmas.{walk_part, walked}

-- ---- the parts of a path are parts

abbrev pub HaveNoSlash : List Part → Type 0
HaveNoSlash [] = Unit {0}
HaveNoSlash (x ∷ xs) = (has_no_slash x ≡ true) × HaveNoSlash xs

onto_first-clean : (b : ℕ) (xs : List Part) → (b == 47) ≡ false → HaveNoSlash xs → HaveNoSlash (onto_first b xs)
onto_first-clean b [] e h = (rw e refl, tt)
onto_first-clean b (x ∷ xs) e h = (rw e h.0, h.1)

pieces-clean : (path : List ℕ) → HaveNoSlash (parts 47 path)
pieces-clean [] = (refl, tt)
pieces-clean (b ∷ path) =
    elim (cases_Bool (b == 47)) [
      | inl e ↦ rw e (refl, pieces-clean path)
      | inr e ↦ rw e (onto_first-clean b (parts 47 path) e (pieces-clean path))
    ]

named-part : (x : Part) → is_named x ≡ true → has_no_slash x ≡ true → is_part x ≡ true
named-part [] e h = cc
named-part (b ∷ x) e h = h

named-parts : (xs : List Part) → HaveNoSlash xs → AreParts (filter is_named xs)
named-parts [] h = tt
named-parts (x ∷ xs) h =
    elim (cases_Bool (is_named x)) [
      | inl e ↦ rw e (named-part x e h.0, named-parts xs h.1)
      | inr e ↦ rw e (named-parts xs h.1)
    ]

path-parts : (path : List ℕ) → AreParts (path_parts path)
path-parts path = named-parts (parts 47 path) (pieces-clean path)

parts-pushed : (xs : List Part) (x : Part) → AreParts xs → is_part x ≡ true → AreParts (xs ++ x ∷ [])
parts-pushed [] x h e = (e, tt)
parts-pushed (y ∷ xs) x h e = (h.0, parts-pushed xs x h.1 e)

kept-with : (xs : List Part) (x : Part) → AreParts xs → is_part x ≡ true → AreParts (with_part xs x)
kept-with xs x h e =
    elim (cases_Bool (bytes_eq x (codes ".."))) [
      | inl k ↦ rw k (parts-taken (length xs - 1) xs h)
      | inr k ↦ rw k (parts-pushed xs x h e)
    ]

kept-parts : (xs more : List Part) → AreParts xs → AreParts more → AreParts (fold with_part xs more)
kept-parts xs [] h k = h
kept-parts xs (x ∷ more) h k = kept-parts (with_part xs x) more (kept-with xs x h k.0) k.1

-- ---- parts that are kept, the last one first

from_first : List Part → Path → Path
from_first [] p = p
from_first (x ∷ xs) p = from_first xs (x ∷ p)

first-pushed : (xs : List Part) (x : Part) (p : Path) → from_first (xs ++ x ∷ []) p ≡ x ∷ from_first xs p
unfolding from_first
first-pushed [] x p = refl
first-pushed (y ∷ xs) x p = first-pushed xs x (y ∷ p)

first-taken : (x : Part) (xs : List Part) (p : Path) → from_first (take (length xs) (x ∷ xs)) p ≡ drop 1 (from_first (x ∷ xs) p)
unfolding from_first
first-taken x [] p = refl
first-taken x (y ∷ xs) p = first-taken y xs (x ∷ p)

first-last : (xs : List Part) → from_first (without_last xs) [] ≡ drop 1 (from_first xs [])
unfolding from_first
first-last [] = refl
first-last (x ∷ xs) = let e : suc (length xs) - 1 ≡ length xs = omega arith in ap (λ (n : ℕ). from_first (take n (x ∷ xs)) []) e ∙ first-taken x xs []

first-with : (xs : List Part) (x : Part) → from_first (with_part xs x) [] ≡ walk_part x (from_first xs [])
first-with xs x =
    elim (cases_Bool (bytes_eq x (codes ".."))) [
      | inl k ↦ rw k (first-last xs)
      | inr k ↦ rw k (first-pushed xs x [])
    ]

kept-walked : (xs more : List Part) → from_first (fold with_part xs more) [] ≡ walked (from_first xs []) more
kept-walked xs [] = refl
kept-walked xs (x ∷ more) = kept-walked (with_part xs x) more ∙ ap (λ (p : Path). walked p more) (first-with xs x)

-- ---- what is spelled is read back

joined-read : (xs : List Part) (p : Path) → AreParts xs → place_from (join_with_byte 47 xs) [] p ≡ from_first xs p
unfolding from_first
joined-read [] p h = refl
joined-read (x ∷ []) p h =
    ap (λ y. place_from y [] p) (sym (append-nil x)) ∙ (part-read x [] [] p (part-clean x h.0) ∙ part-pushed x p h.0)
joined-read (x ∷ y ∷ xs) p h =
    part-read x (47 ∷ join_with_byte 47 (y ∷ xs)) [] p (part-clean x h.0)
    ∙ (ap (λ q. place_from (join_with_byte 47 (y ∷ xs)) [] q) (part-pushed x p h.0) ∙ joined-read (y ∷ xs) (x ∷ p) h.1)

spelled-read : (absolute : Bool) (xs : List Part) → place (spelled absolute xs) ≡ place (join_with_byte 47 xs)
spelled-read true xs = refl
spelled-read false xs = refl

-- the place that a normalised path names
pub normal-walked : (path : List ℕ) → place (normalize path) ≡ walked [] (path_parts path)
unfolding from_first
normal-walked path =
    spelled-read (is_absolute path) (kept (path_parts path))
    ∙ (joined-read (kept (path_parts path)) [] (kept-parts [] (path_parts path) tt (path-parts path)) ∙ kept-walked [] (path_parts path))

-- ---- a path behind a folder

pub parts-behind : (folder path : List ℕ) → path_parts (folder ++ 47 ∷ path) ≡ path_parts folder ++ path_parts path
parts-behind folder path = ap (filter is_named) (split-append folder path) ∙ filter-append is_named (parts 47 folder) (parts 47 path)

-- ---- how many parts there are

onto_first-length : (b : ℕ) (xs : List Part) → 0 < length xs → length (onto_first b xs) ≡ length xs
onto_first-length b [] h = absurd (omega (arith, h))
onto_first-length b (x ∷ xs) h = refl

split-short : (path : List ℕ) → length (parts 47 path) ≤ length path + 1
split-short [] = omega arith
split-short (b ∷ path) =
    let k : length (parts 47 path) ≤ length path + 1 = split-short path in
    elim (cases_Bool (b == 47)) [
      | inl e ↦ rw e (omega arith)
      | inr e ↦ rw (e, onto_first-length b (parts 47 path) (some_part 47 path)) (omega arith)
    ]

filter-short : (xs : List Part) → length (filter is_named xs) ≤ length xs
filter-short [] = omega arith
filter-short (x ∷ xs) =
    let k : length (filter is_named xs) ≤ length xs = filter-short xs in
    elim (cases_Bool (is_named x)) [
      | inl e ↦ rw e (omega arith)
      | inr e ↦ rw e (omega arith)
    ]

pub parts-short : (path : List ℕ) → length (path_parts path) ≤ length path + 1
parts-short path =
    let a : length (parts 47 path) ≤ length path + 1 = split-short path in
    let b : length (path_parts path) ≤ length (parts 47 path) = filter-short (parts 47 path) in
    omega arith

pub parts-none : (path : List ℕ) → length path ≡ 0 → path_parts path ≡ []
parts-none [] h = refl
parts-none (b ∷ path) h = absurd (omega arith)
