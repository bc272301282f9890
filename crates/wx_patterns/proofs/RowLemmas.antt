-- What rows say of the lists that they lie over.
use Rattle.std.proofs.Common.{◌≡◌, ℕ, zero, suc, ◌+◌, ◌<◌, Bool, true, false, cond, List, [], ◌∷◌, ◌++◌, length, replicate, get_or, set, take, drop, refl, sym, ap, subst, ◌∙◌, add-one, arith}
use Rattle.std.specs.Prelude.{◌&&◌, ◌||◌, not}
use Rattle.std.specs.List.{list_any}
use Rattle.std.proofs.Math.Bool.{or-false}
use Rattle.std.proofs.lemmas.List.{append-nil, drop_all}
use Rattle.wx_patterns.specs.Lists.{is_empty, last_or, some_suffix, some_front, first_fits}
use Rattle.wx_patterns.specs.Matching.{is_star, byte_fits, part_matches, is_deep, matches}
use Rattle.wx_patterns.specs.Rows.{of_fronts, fits_first, spread, moved, behind_byte, behind_part, judged}

-- ---- truth values

and_false : (b : Bool) → (b && false) ≡ false
and_false true = refl
and_false false = refl

and_true : (b : Bool) → (b && true) ≡ b
and_true true = refl
and_true false = refl

and_again : (a b c : Bool) → ((a && b) && c) ≡ (a && (b && c))
and_again true b c = refl
and_again false b c = refl

spread_last : (b h x : Bool) → ((b || h) && x) ≡ ((b && x) || (h && x))
spread_last false h x = refl
spread_last true h true = refl
spread_last true h false = rw (and_false h) refl

spread_next : (b h x s r : Bool) → (((b || h) && x) || (((b || h) && s) || r)) ≡ ((b && (x || s)) || ((h && (x || s)) || r))
spread_next false false x s r = refl
spread_next false true true s r = refl
spread_next false true false s r = refl
spread_next true h true s r = refl
spread_next true h false true r = refl
spread_next true true false false r = refl
spread_next true false false false r = refl

-- ---- what lies ahead of a row

-- it holds of what lies behind a place of the row
abbrev pub ahead : {X : Type 0} → (List X → Bool) → List Bool → List X → Bool
ahead q [] xs = false
ahead q (here ∷ row) [] = here && q []
ahead q (here ∷ row) (x ∷ xs) = (here && q (x ∷ xs)) || ahead q row xs

-- the place behind such a front
abbrev pub place : {X : Type 0} → List Bool → List X → Bool
place [] xs = false
place (here ∷ row) [] = here
place (here ∷ row) (x ∷ xs) = place row xs

pub ahead-same : {X : Type 0} (p q : List X → Bool) → ((xs : List X) → p xs ≡ q xs) → (row : List Bool) (xs : List X) → ahead p row xs ≡ ahead q row xs
ahead-same p q same [] xs = refl
ahead-same p q same (here ∷ row) [] = ap (λ b. here && b) (same [])
ahead-same p q same (here ∷ row) (x ∷ xs) = rw (same (x ∷ xs), ahead-same p q same row xs) refl

ahead_nowhere : {X : Type 0} (q : List X → Bool) (n : ℕ) (xs : List X) → ahead q (replicate n false) xs ≡ false
ahead_nowhere q zero xs = refl
ahead_nowhere q (suc n) [] = refl
ahead_nowhere q (suc n) (x ∷ xs) = ahead_nowhere q n xs

-- before a pattern begins
pub ahead-new : {X : Type 0} (q : List X → Bool) (n : ℕ) (xs : List X) → ahead q (true ∷ replicate n false) xs ≡ q xs
ahead-new q n [] = refl
ahead-new q n (x ∷ xs) = rw (ahead_nowhere q n xs) (or-false (q (x ∷ xs)))

pub ahead-spread : {X : Type 0} (q : List X → Bool) (b : Bool) (row : List Bool) (xs : List X) → length xs < length row → ahead q (spread b row) xs ≡ ((b && some_suffix q xs) || ahead (some_suffix q) row xs)
ahead-spread q b [] xs lt = absurd (omega (arith, lt))
ahead-spread q b (h ∷ row) [] lt = spread_last b h (q [])
ahead-spread q b (h ∷ row) (x ∷ xs) lt =
    let less : length xs < length row = omega (arith, lt) in
    rw (ahead-spread q (b || h) row xs less) (spread_next b h (q (x ∷ xs)) (some_suffix q xs) (ahead (some_suffix q) row xs))

pub ahead-moved : {X : Type 0} (q : List X → Bool) (fits : X → Bool) (b : Bool) (row : List Bool) (xs more : List X) → length xs < length row → ahead q (moved fits b row (xs ++ more)) xs ≡ ((b && q xs) || ahead (first_fits fits q) row xs)
ahead-moved q fits b [] xs more lt = absurd (omega (arith, lt))
ahead-moved q fits b (h ∷ row) [] more lt = rw (and_false h) (sym (or-false (b && q [])))
ahead-moved q fits b (h ∷ row) (x ∷ xs) more lt =
    let less : length xs < length row = omega (arith, lt) in
    rw (ahead-moved q fits (h && fits x) row xs more less, and_again h (fits x) (q xs)) refl

-- where nothing is left of a pattern
pub ahead-end : {X : Type 0} (row : List Bool) (xs : List X) → ahead is_empty row xs ≡ place row xs
ahead-end [] xs = refl
ahead-end (h ∷ row) [] = and_true h
ahead-end (h ∷ row) (x ∷ xs) = rw (and_false h) (ahead-end row xs)

place-last_or : {X : Type 0} (h : Bool) (row : List Bool) (xs : List X) → length row ≡ length xs → place (h ∷ row) xs ≡ last_or h row
place-last_or h [] [] e = refl
place-last_or h [] (x ∷ xs) e = absurd (omega (arith, e))
place-last_or h (g ∷ row) [] e = absurd (omega (arith, e))
place-last_or h (g ∷ row) (x ∷ xs) e = place-last_or g row xs (omega (arith, e))

pub place-last : {X : Type 0} (row : List Bool) (xs : List X) → length row ≡ suc (length xs) → place row xs ≡ last_or false row
place-last [] xs e = absurd (omega (arith, e))
place-last (h ∷ row) xs e = place-last_or h row xs (omega (arith, e))

-- ---- rows keep their length

pub length-spread : (b : Bool) (row : List Bool) → length (spread b row) ≡ length row
length-spread b [] = refl
length-spread b (h ∷ row) = ap suc (length-spread (b || h) row)

pub length-moved : {X : Type 0} (fits : X → Bool) (b : Bool) (row : List Bool) (xs : List X) → length (moved fits b row xs) ≡ length row
length-moved fits b [] xs = refl
length-moved fits b (h ∷ row) xs = ap suc (length-moved fits (h && fits_first fits xs) row (drop 1 xs))

pub length-behind_byte : (c : ℕ) (row : List Bool) (name : List ℕ) → length (behind_byte c row name) ≡ length row
length-behind_byte c row name =
    elim (is_star c) as (λ b. length (cond b (spread false row) (moved (byte_fits c) false row name)) ≡ length row) [
      | true ↦ length-spread false row
      | false ↦ length-moved (byte_fits c) false row name
    ]

pub length-behind_part : (part : List ℕ) (last : Bool) (row : List Bool) (names : List (List ℕ)) → length (behind_part part last row names) ≡ length row
length-behind_part part true row names =
    elim (is_deep part) as (λ b. length (cond b (moved (λ name. true) false (spread false row) names) (moved (part_matches part) false row names)) ≡ length row) [
      | true ↦ length-moved _ false (spread false row) names ∙ length-spread false row
      | false ↦ length-moved (part_matches part) false row names
    ]
length-behind_part part false row names =
    elim (is_deep part) as (λ b. length (cond b (spread false row) (moved (part_matches part) false row names)) ≡ length row) [
      | true ↦ length-spread false row
      | false ↦ length-moved (part_matches part) false row names
    ]

-- ---- the next of a pattern

pub ahead-behind_byte : (c : ℕ) (part : List ℕ) (row : List Bool) (name : List ℕ) → length name < length row → ahead (part_matches part) (behind_byte c row name) name ≡ ahead (part_matches (c ∷ part)) row name
ahead-behind_byte c part row name lt =
    let q : List ℕ → Bool = part_matches part in
    let all : name ++ [] ≡ name = append-nil name in
    elim (is_star c) as (λ b. ahead q (cond b (spread false row) (moved (byte_fits c) false row name)) name ≡ ahead (λ left. cond b (some_suffix q left) (first_fits (byte_fits c) q left)) row name) [
      | true ↦ ahead-spread q false row name lt
      | false ↦ subst (λ (v : List ℕ). ahead q (moved (byte_fits c) false row v) name ≡ ahead (first_fits (byte_fits c) q) row name) all (ahead-moved q (byte_fits c) false row name [] lt)
    ]

-- any names before one are any names but none
pub some_name : (names : List (List ℕ)) → some_suffix (first_fits (λ name. true) is_empty) names ≡ not (is_empty names)
some_name [] = refl
some_name (name ∷ []) = refl
some_name (name ∷ next ∷ names) = some_name (next ∷ names)

pub ahead-behind_part : (part : List ℕ) (rest : List (List ℕ)) (row : List Bool) (names more : List (List ℕ)) → length names < length row → ahead (matches rest) (behind_part part (is_empty rest) row (names ++ more)) names ≡ ahead (matches (part ∷ rest)) row names
ahead-behind_part part [] row names more lt =
    let q : List (List ℕ) → Bool = matches [] in
    let some : length names < length (spread false row) = omega (arith, lt, length-spread false row) in
    elim (is_deep part) as (λ b. ahead q (cond b (moved (λ name. true) false (spread false row) (names ++ more)) (moved (part_matches part) false row (names ++ more))) names ≡ ahead (λ left. cond b (not (is_empty left)) (first_fits (part_matches part) q left)) row names) [
      | true ↦ ahead-moved q (λ name. true) false (spread false row) names more some ∙ ahead-spread (first_fits (λ name. true) q) false row names lt ∙ ahead-same _ _ some_name row names
      | false ↦ ahead-moved q (part_matches part) false row names more lt
    ]
ahead-behind_part part (next ∷ rest) row names more lt =
    let q : List (List ℕ) → Bool = matches (next ∷ rest) in
    elim (is_deep part) as (λ b. ahead q (cond b (spread false row) (moved (part_matches part) false row (names ++ more))) names ≡ ahead (λ left. cond b (some_suffix q left) (first_fits (part_matches part) q left)) row names) [
      | true ↦ ahead-spread q false row names lt
      | false ↦ ahead-moved q (part_matches part) false row names more lt
    ]

-- ---- the fronts of a list

pub row-fronts : {X : Type 0} (f : List X → Bool) (row : List Bool) (xs : List X) → length row ≡ suc (length xs) → ((front more : List X) → xs ≡ front ++ more → place row front ≡ f front) → row ≡ of_fronts f xs
row-fronts f [] xs e each = absurd (omega (arith, e))
row-fronts f (h ∷ g ∷ row) [] e each = absurd (omega (arith, e))
row-fronts f (h ∷ []) [] e each = ap (λ (b : Bool). b ∷ []) (each [] [] refl)
row-fronts {X} f (h ∷ row) (x ∷ xs) e each =
    let first : h ≡ f [] = each [] (x ∷ xs) refl in
    let rest : row ≡ of_fronts (λ (front : List X). f (x ∷ front)) xs = row-fronts (λ front. f (x ∷ front)) row xs (omega (arith, e)) (λ front more k. each (x ∷ front) more (ap (λ (v : List X). x ∷ v) k)) in
    ap (λ (b : Bool). b ∷ row) first ∙ ap (λ (v : List Bool). f [] ∷ v) rest

pub length-of_fronts : {X Y : Type 0} (f : List X → Y) (xs : List X) → length (of_fronts f xs) ≡ suc (length xs)
length-of_fronts f [] = refl
length-of_fronts f (x ∷ xs) = ap suc (length-of_fronts (λ front. f (x ∷ front)) xs)

pub of_fronts-same : {X Y : Type 0} (f g : List X → Y) → ((front : List X) → f front ≡ g front) → (xs : List X) → of_fronts f xs ≡ of_fronts g xs
of_fronts-same {X} {Y} f g same [] = ap (λ (y : Y). y ∷ []) (same [])
of_fronts-same {X} {Y} f g same (x ∷ xs) =
    let rest : of_fronts (λ (front : List X). f (x ∷ front)) xs ≡ of_fronts (λ (front : List X). g (x ∷ front)) xs = of_fronts-same (λ front. f (x ∷ front)) (λ front. g (x ∷ front)) (λ front. same (x ∷ front)) xs in
    ap (λ (y : Y). y ∷ of_fronts (λ (front : List X). f (x ∷ front)) xs) (same []) ∙ ap (λ (v : List Y). g [] ∷ v) rest

pub judged-fronts : {X : Type 0} (word : Bool) (f g : List X → Bool) (xs : List X) → judged word (of_fronts f xs) (of_fronts g xs) ≡ of_fronts (λ front. cond (f front) word (g front)) xs
judged-fronts word f g [] = refl
judged-fronts word f g (x ∷ xs) = ap (λ (row : List Bool). cond (f []) word (g []) ∷ row) (judged-fronts word (λ front. f (x ∷ front)) (λ front. g (x ∷ front)) xs)

any-fronts : {X : Type 0} (f : List X → Bool) (xs : List X) → list_any (λ front. front) (of_fronts f xs) ≡ (f [] || some_front f xs)
any-fronts f [] = refl
any-fronts f (x ∷ xs) = ap (λ b. f [] || b) (any-fronts (λ front. f (x ∷ front)) xs)

pub some-front : {X : Type 0} (f : List X → Bool) (xs : List X) → list_any (λ front. front) (drop 1 (of_fronts f xs)) ≡ some_front f xs
some-front f [] = refl
some-front f (x ∷ xs) = any-fronts (λ front. f (x ∷ front)) xs

-- ---- a row is gone along, and written over

pub drop_next : {X : Type 0} (i : ℕ) (xs : List X) → drop (suc i) xs ≡ drop 1 (drop i xs)
drop_next zero xs = refl
drop_next (suc i) [] = refl
drop_next (suc i) (x ∷ xs) = drop_next i xs

spread_at : (i : ℕ) (row : List Bool) (b d : Bool) → i < length row → take (suc i) (set row i (b || get_or row i d)) ++ spread (b || get_or row i d) (drop (suc i) (set row i (b || get_or row i d))) ≡ take i row ++ spread b (drop i row)
spread_at i [] b d lt = absurd (omega (arith, lt))
spread_at zero (h ∷ row) b d lt = refl
spread_at (suc i) (h ∷ row) b d lt = ap (λ (v : List Bool). h ∷ v) (spread_at i row b d (omega (arith, lt)))

pub spread-step : (i : ℕ) (row : List Bool) (b next d : Bool) → i < length row → next ≡ (b || get_or row i d) → take (i + 1) (set row i next) ++ spread next (drop (i + 1) (set row i next)) ≡ take i row ++ spread b (drop i row)
spread-step i row b next d lt e = rw (add-one, e) (spread_at i row b d lt)

moved_at : {X : Type 0} (fits : X → Bool) (i : ℕ) (row : List Bool) (xs : List X) (b d : Bool) → i < length row → take (suc i) (set row i b) ++ moved fits (get_or row i d && fits_first fits xs) (drop (suc i) (set row i b)) (drop 1 xs) ≡ take i row ++ moved fits b (drop i row) xs
moved_at fits i [] xs b d lt = absurd (omega (arith, lt))
moved_at fits zero (h ∷ row) xs b d lt = refl
moved_at fits (suc i) (h ∷ row) xs b d lt = ap (λ (v : List Bool). h ∷ v) (moved_at fits i row xs b d (omega (arith, lt)))

pub moved-step : {X : Type 0} (fits : X → Bool) (i : ℕ) (row : List Bool) (xs : List X) (b next d : Bool) → i < length row → next ≡ (get_or row i d && fits_first fits (drop i xs)) → take (i + 1) (set row i b) ++ moved fits next (drop (i + 1) (set row i b)) (drop (i + 1) xs) ≡ take i row ++ moved fits b (drop i row) (drop i xs)
moved-step fits i row xs b next d lt e = rw (add-one, e, drop_next i xs) (moved_at fits i row (drop i xs) b d lt)

judged_at : (word : Bool) (i : ℕ) (hidden row : List Bool) (d : Bool) → i < length hidden → take (suc i) (set hidden i (cond (fits_first (λ ends. ends) row) word (get_or hidden i d))) ++ judged word (drop 1 row) (drop (suc i) (set hidden i (cond (fits_first (λ ends. ends) row) word (get_or hidden i d)))) ≡ take i hidden ++ judged word row (drop i hidden)
judged_at word i [] row d lt = absurd (omega (arith, lt))
judged_at word zero (h ∷ hidden) row d lt = refl
judged_at word (suc i) (h ∷ hidden) row d lt = ap (λ (v : List Bool). h ∷ v) (judged_at word i hidden row d (omega (arith, lt)))

pub judged-step : (word : Bool) (i : ℕ) (hidden row : List Bool) (next d : Bool) → i < length hidden → next ≡ cond (fits_first (λ ends. ends) (drop i row)) word (get_or hidden i d) → take (i + 1) (set hidden i next) ++ judged word (drop (i + 1) row) (drop (i + 1) (set hidden i next)) ≡ take i hidden ++ judged word (drop i row) (drop i hidden)
judged-step word i hidden row next d lt e = rw (add-one, e, drop_next i row) (judged_at word i hidden (drop i row) d lt)
