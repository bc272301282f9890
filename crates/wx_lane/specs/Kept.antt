-- What a lane keeps beside its items, so that no call goes along all of them.
use Rattle.std.specs.Prelude.{ℕ, ◌+◌, ◌≤◌, ◌≡◌, Bool, true, not, ◌&&◌, ◌||◌, if◌then◌else◌, List, [], ◌∷◌}
use Rattle.wx_lane.specs.declared.lane.LaneItem.{LaneItem}
use Rattle.wx_lane.specs.Lanes.{has_changes, is_event, waiting}

-- whatever its name is, the item wasn't heard, and has changes or is a fault
abbrev pub is_to_be_heard : LaneItem → Bool
is_to_be_heard i = not i.heard && (has_changes i.item || not (is_event i.item))

-- how many stand before the first that is to be heard
abbrev pub quiet : List LaneItem → ℕ
quiet [] = 0
quiet (i ∷ items) = if is_to_be_heard i then 0 else quiet items + 1

-- names rise, from n on
abbrev pub RisesFrom : ℕ → List LaneItem → Type 0
RisesFrom n [] = Unit {0}
RisesFrom n (i ∷ items) = (n ≤ i.name) × RisesFrom (i.name + 1) items

-- from which name on they may go on rising behind these
abbrev pub risen : ℕ → List LaneItem → ℕ
risen n [] = n
risen n (i ∷ items) = risen (i.name + 1) items

-- how many wait, and no more than may; how many stand before the first that is to be heard; and, where it is so, that names rise
pub record Kept (items : List LaneItem) (size count before : ℕ) (rising : Bool) : Type 0 where
  pub within : count ≤ size
  pub counted : count ≡ waiting items
  pub found : before ≡ quiet items
  pub rise : rising ≡ true → RisesFrom 0 items
