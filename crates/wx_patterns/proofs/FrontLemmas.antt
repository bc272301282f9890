-- How a row goes along a pattern.
use Rattle.std.proofs.Common.{◌≡◌, ℕ, zero, suc, ◌+◌, ◌<◌, Bool, true, false, List, [], ◌∷◌, ◌++◌, length, replicate, get_or, take, drop, refl, sym, ap, ◌∙◌, arith}
use Rattle.std.proofs.Math.Numerals.{add-one}
use Rattle.std.proofs.lemmas.List.{length-append, length-replicate}
use Rattle.wx_patterns.specs.Lists.{is_empty, last_or}
use Rattle.wx_patterns.specs.Matching.{part_matches, matches}
use Rattle.wx_patterns.specs.Rows.{of_fronts, behind_byte, behind_part, behind_bytes, behind_parts}
use Rattle.wx_patterns.proofs.RowLemmas.{ahead, ahead-new, ahead-end, place-last, length-behind_byte, length-behind_part, ahead-behind_byte, ahead-behind_part, row-fronts}

length_new : (n : ℕ) → length (true ∷ replicate n false) ≡ suc n
length_new n = ap suc (length-replicate n false)

drop_first : {X : Type 0} (xs : List X) (i : ℕ) (d : X) → i < length xs → drop i xs ≡ get_or xs i d ∷ drop (suc i) xs
drop_first [] i d lt = absurd (omega (arith, lt))
drop_first (x ∷ xs) zero d lt = refl
drop_first (x ∷ xs) (suc i) d lt = drop_first xs i d (omega (arith, lt))

take_front : (xs ys : List Bool) → take (length xs) (xs ++ ys) ≡ xs
take_front [] ys = refl
take_front (x ∷ xs) ys = ap (λ (v : List Bool). x ∷ v) (take_front xs ys)

-- what a row has behind a call that it was lent to
pub written_back : (new items : List Bool) (n : ℕ) → n ≡ length new → take n (new ++ drop (length new) items) ≡ new
written_back new items n e = ap (λ (m : ℕ). take m (new ++ drop (length new) items)) e ∙ take_front new (drop (length new) items)

-- ---- the bytes of a part

pub bytes_step : (part : List ℕ) (i : ℕ) (row new : List Bool) (name : List ℕ) → i < length part → new ≡ behind_byte (get_or part i 0) row name → behind_bytes (drop (i + 1) part) new name ≡ behind_bytes (drop i part) row name
bytes_step part i row new name lt e =
    ap (λ (n : ℕ). behind_bytes (drop n part) new name) (add-one i)
    ∙ ap (λ (v : List Bool). behind_bytes (drop (suc i) part) v name) e
    ∙ sym (ap (λ (v : List ℕ). behind_bytes v row name) (drop_first part i 0 lt))

length-behind_bytes : (part : List ℕ) (row : List Bool) (name : List ℕ) → length (behind_bytes part row name) ≡ length row
length-behind_bytes [] row name = refl
length-behind_bytes (c ∷ part) row name = length-behind_bytes part (behind_byte c row name) name ∙ length-behind_byte c row name

bytes_ahead : (part : List ℕ) (row : List Bool) (name : List ℕ) → length name < length row → ahead is_empty (behind_bytes part row name) name ≡ ahead (part_matches part) row name
bytes_ahead [] row name lt = refl
bytes_ahead (c ∷ part) row name lt =
    let more : length name < length (behind_byte c row name) = omega (arith, lt, length-behind_byte c row name) in
    bytes_ahead part (behind_byte c row name) name more ∙ ahead-behind_byte c part row name lt

pub bytes_matched : (part name : List ℕ) (new : List Bool) → new ≡ behind_bytes part (true ∷ replicate (length name) false) name → last_or false new ≡ part_matches part name
bytes_matched part name new e =
    let row : List Bool = true ∷ replicate (length name) false in
    let fits : length (true ∷ replicate (length name) false) ≡ suc (length name) = length_new (length name) in
    let lt : length name < length (true ∷ replicate (length name) false) = omega (arith, fits) in
    ap (last_or false) e
    ∙ sym (place-last (behind_bytes part row name) name (length-behind_bytes part row name ∙ fits))
    ∙ sym (ahead-end (behind_bytes part row name) name)
    ∙ bytes_ahead part row name lt
    ∙ ahead-new (part_matches part) (length name) name

-- ---- the parts of a pattern

pub parts_step : (parts : List (List ℕ)) (i : ℕ) (part : List ℕ) (last : Bool) (row new : List Bool) (names : List (List ℕ)) → i < length parts → part ≡ get_or parts i part → last ≡ is_empty (drop (i + 1) parts) → new ≡ behind_part part last row names → behind_parts (drop (i + 1) parts) new names ≡ behind_parts (drop i parts) row names
parts_step parts i part last row new names lt p l e =
    let left : last ≡ is_empty (drop (suc i) parts) = l ∙ ap (λ (n : ℕ). is_empty (drop n parts)) (add-one i) in
    let k : new ≡ behind_part (get_or parts i part) (is_empty (drop (suc i) parts)) row names =
    e ∙ ap (λ (x : List ℕ). behind_part x last row names) p ∙ ap (λ (b : Bool). behind_part (get_or parts i part) b row names) left in
    ap (λ (n : ℕ). behind_parts (drop n parts) new names) (add-one i)
    ∙ ap (λ (v : List Bool). behind_parts (drop (suc i) parts) v names) k
    ∙ sym (ap (λ (v : List (List ℕ)). behind_parts v row names) (drop_first parts i part lt))

length-behind_parts : (parts : List (List ℕ)) (row : List Bool) (names : List (List ℕ)) → length (behind_parts parts row names) ≡ length row
length-behind_parts [] row names = refl
length-behind_parts (part ∷ parts) row names = length-behind_parts parts (behind_part part (is_empty parts) row names) names ∙ length-behind_part part (is_empty parts) row names

parts_ahead : (parts : List (List ℕ)) (row : List Bool) (names front more : List (List ℕ)) → names ≡ front ++ more → length front < length row → ahead is_empty (behind_parts parts row names) front ≡ ahead (matches parts) row front
parts_ahead [] row names front more e lt = refl
parts_ahead (part ∷ parts) row names front more e lt =
    let less : length front < length (behind_part part (is_empty parts) row names) = omega (arith, lt, length-behind_part part (is_empty parts) row names) in
    parts_ahead parts (behind_part part (is_empty parts) row names) names front more e less
    ∙ ap (λ (v : List (List ℕ)). ahead (matches parts) (behind_part part (is_empty parts) row v) front) e
    ∙ ahead-behind_part part parts row front more lt

pub parts_matched : (parts names : List (List ℕ)) (new : List Bool) → new ≡ behind_parts parts (true ∷ replicate (length names) false) names → new ≡ of_fronts (matches parts) names
parts_matched parts names new e =
    let row : List Bool = true ∷ replicate (length names) false in
    let fits : length (true ∷ replicate (length names) false) ≡ suc (length names) = length_new (length names) in
    e ∙ row-fronts (matches parts) (behind_parts parts row names) names (length-behind_parts parts row names ∙ fits) (λ front more k.
    let lt : length front < length (true ∷ replicate (length names) false) = omega (arith, fits, ap length k, length-append front more) in
    sym (ahead-end (behind_parts parts row names) front) ∙ parts_ahead parts row names front more k lt ∙ ahead-new (matches parts) (length names) front)
