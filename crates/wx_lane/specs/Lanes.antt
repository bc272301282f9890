-- The lane, in which what backends brought waits for its turn.
use Rattle.std.specs.Prelude.{ℕ, Bool, true, false, not, nat_lt, ◌==◌, ◌&&◌, ◌||◌, if◌then◌else◌, Option, None, Some, Result, Ok, Err, List, [], ◌∷◌, ◌++◌, filter, length}
use Rattle.wx_watch.specs.declared.notify_fault.NotifyFault.{NotifyFault}
use Rattle.wx_notify.specs.declared.notify.Notify.{Notify}
use Rattle.wx_lane.specs.Messages as message
use Rattle.wx_lane.specs.declared.lane.LaneItem.{LaneItem}

-- the items, in the order in which they were brought, and how many events may wait
pub record LaneState : Type 0 where
  pub items : List LaneItem
  pub size : ℕ

abbrev pub is_event : Result Notify NotifyFault → Bool
is_event (Ok n) = true
is_event (Err fault) = false

-- what was brought has changes: it is an event that says something of the tree
abbrev pub has_changes : Result Notify NotifyFault → Bool
has_changes (Ok n) = message.has_changes n
has_changes (Err fault) = false

-- an item waits where it is an event that isn't full
abbrev pub is_waiting : LaneItem → Bool
is_waiting i = is_event i.item && not i.full

-- how many wait
abbrev pub waiting : List LaneItem → ℕ
waiting items = length (filter is_waiting items)

-- there is no room for an event where as many wait as the size
abbrev pub is_full : LaneState → Result Notify NotifyFault → Bool
is_full lane item = is_event item && waiting lane.items == lane.size

-- What is brought joins at the end. It is marked full where there is no room for it, and is kept then only where it has changes.
abbrev pub put_item : ℕ → ℕ → Result Notify NotifyFault → LaneState → LaneState
put_item name back item lane =
    if is_full lane item && not (has_changes item)
    then lane
    else record lane { items = lane.items ++ record { name = name; back = back; item = item; heard = false; full = is_full lane item } ∷ [] }

-- an item that is to be heard before the fence falls: it has changes, or is a fault
abbrev pub is_unheard : ℕ → LaneItem → Bool
is_unheard below i = (nat_lt i.name below && not i.heard) && (has_changes i.item || not (is_event i.item))

-- the first item below the fence that is to be heard
abbrev pub fenced : ℕ → List LaneItem → Option LaneItem
fenced below [] = None
fenced below (i ∷ items) = if is_unheard below i then Some i else fenced below items

-- an item that waits is marked heard; any other, a fault or a full one, leaves
abbrev pub heard_item : LaneItem → List LaneItem
heard_item i = if is_waiting i then record i { heard = true } ∷ [] else []

-- the first item is heard
abbrev pub hear_first : List LaneItem → List LaneItem
hear_first [] = []
hear_first (i ∷ items) = heard_item i ++ items

-- the first item of this name is heard
abbrev pub hear : ℕ → List LaneItem → List LaneItem
hear name [] = []
hear name (i ∷ items) = if i.name == name then hear_first (i ∷ items) else i ∷ hear name items
