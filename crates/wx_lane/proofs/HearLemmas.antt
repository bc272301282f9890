-- The first item of a name is found at its place.
use Rattle.std.proofs.Common.{◌≡◌, ℕ, suc, zero, ◌<◌, Bool, true, false, List, [], ◌∷◌, ◌++◌, length, take, drop, arith, refl, ap, sym, ◌∙◌}
use Rattle.std.specs.Prelude.{slice_set, slice_index_or, ◌==◌, remove}
use Rattle.std.proofs.lemmas.List.{get_or_default}
use Rattle.wx_lane.specs.declared.lane.LaneItem.{LaneItem}
use Rattle.wx_lane.specs.Lanes.{hear, hear_first, is_waiting}

-- another name: what is before grows by it
pub hear_more : (name : ℕ) (xs : List LaneItem) (i : ℕ) (d : LaneItem) → i < length xs → ((slice_index_or xs i d).name == name) ≡ false → take i xs ++ hear name (drop i xs) ≡ take (suc i) xs ++ hear name (drop (suc i) xs)
hear_more name [] i d lt e = absurd (omega arith)
hear_more name (x ∷ xs) zero d lt e = rw e refl
hear_more name (x ∷ xs) (suc i) d lt e = ap (λ (ys : List LaneItem). x ∷ ys) (hear_more name xs i d (omega arith) e)

pub hear_found : (name : ℕ) (xs : List LaneItem) (i : ℕ) (d : LaneItem) → i < length xs → ((slice_index_or xs i d).name == name) ≡ true → hear name (drop i xs) ≡ hear_first (drop i xs)
hear_found name [] i d lt e = absurd (omega arith)
hear_found name (x ∷ xs) zero d lt e = rw e refl
hear_found name (x ∷ xs) (suc i) d lt e = hear_found name xs i d (omega arith) e

pub marked_there : (xs : List LaneItem) (i : ℕ) (d : LaneItem) → i < length xs → is_waiting (slice_index_or xs i d) ≡ true → slice_set xs i (record (slice_index_or xs i d) { heard = true }) ≡ take i xs ++ hear_first (drop i xs)
marked_there [] i d lt e = absurd (omega arith)
marked_there (x ∷ xs) zero d lt e = rw e refl
marked_there (x ∷ xs) (suc i) d lt e = ap (λ (ys : List LaneItem). x ∷ ys) (marked_there xs i d (omega arith) e)

pub gone_there : (xs : List LaneItem) (i : ℕ) (d : LaneItem) → i < length xs → is_waiting (slice_index_or xs i d) ≡ false → remove xs i ≡ take i xs ++ hear_first (drop i xs)
gone_there [] i d lt e = absurd (omega arith)
gone_there (x ∷ xs) zero d lt e = rw e refl
gone_there (x ∷ xs) (suc i) d lt e = ap (λ (ys : List LaneItem). x ∷ ys) (gone_there xs i d (omega arith) e)

pub marked_by : (xs : List LaneItem) (i : ℕ) (d m : LaneItem) (b : Bool) → i < length xs → d ≡ slice_index_or xs i d → m ≡ slice_index_or xs i m → b ≡ is_waiting d → b ≡ true → slice_set xs i (record m { heard = true }) ≡ take i xs ++ hear_first (drop i xs)
marked_by xs i d m b lt at there same holds =
    let e : m ≡ d = there ∙ (get_or_default xs i m d lt ∙ sym at) in
    let w : is_waiting d ≡ true = sym same ∙ holds in
    let f : is_waiting (slice_index_or xs i d) ≡ true = (rw (← at) w) in
    ap (λ (x : LaneItem). slice_set xs i (record x { heard = true })) (e ∙ at) ∙ marked_there xs i d lt f
