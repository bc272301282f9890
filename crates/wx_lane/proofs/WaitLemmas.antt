-- As many wait when one is heard.
use Rattle.std.proofs.Common.{◌≡◌, ℕ, suc, List, [], ◌∷◌, refl, ap, inl, inr}
use Rattle.std.specs.Prelude.{◌==◌}
use Rattle.std.proofs.lemmas.Bool.{cases_Bool}
use Rattle.wx_lane.specs.declared.lane.LaneItem.{LaneItem}
use Rattle.wx_lane.specs.Lanes.{hear, hear_first, is_waiting, waiting}

-- what is heard waits still
waiting-hear_first : (xs : List LaneItem) → waiting (hear_first xs) ≡ waiting xs
waiting-hear_first [] = refl
waiting-hear_first (x ∷ xs) =
    elim (cases_Bool (is_waiting x)) [
      | inl e ↦ rw (e, e) refl
      | inr e ↦ rw e refl
    ]

waiting-behind : (x : LaneItem) (xs ys : List LaneItem) → waiting xs ≡ waiting ys → waiting (x ∷ xs) ≡ waiting (x ∷ ys)
waiting-behind x xs ys h =
    elim (cases_Bool (is_waiting x)) [
      | inl e ↦ rw e (ap suc h)
      | inr e ↦ rw e h
    ]

pub waiting_hear : (name : ℕ) (xs : List LaneItem) → waiting (hear name xs) ≡ waiting xs
waiting_hear name [] = refl
waiting_hear name (x ∷ xs) =
    elim (cases_Bool (x.name == name)) [
      | inl e ↦ rw e (waiting-hear_first (x ∷ xs))
      | inr e ↦ rw e (waiting-behind x (hear name xs) xs (waiting_hear name xs))
    ]
