-- What contracts see of a queue.
use Rattle.std.specs.Prelude.{ℕ, ◌<◌, ◌≤◌, ◌≡◌, Bool, false, List, [], length}
use Rattle.std.specs.List.{AllByRecursion}
use Rattle.wx_events.specs.declared.priority.Priority.{Priority}
use Rattle.wx_events.specs.Priority.{rank}

-- the pairs that are in it, in an order that means nothing, how many it may hold, and whether it takes no more
pub record Channel (T : Type 0) : Type 0 where
  pub items : List (T × Priority)
  pub size : ℕ
  pub closed : Bool

-- it is open, empty, and may hold so many
abbrev pub open_empty : {T : Type 0} → ℕ → Channel T
open_empty size = record { items = []; size = size; closed = false }

-- it is open, and one more pair fits
abbrev pub HasRoom : {T : Type 0} → Channel T → Type 0
HasRoom channel = (channel.closed ≡ false) × (length channel.items < channel.size)

-- it is open, and no more fits
abbrev pub IsFull : {T : Type 0} → Channel T → Type 0
IsFull channel = (channel.closed ≡ false) × (length channel.items ≡ channel.size)

-- no pair has a greater priority
abbrev pub AllAtMost : {T : Type 0} → Priority → List (T × Priority) → Type 0
AllAtMost priority items = AllByRecursion (λ item. rank item.1 ≤ rank priority) items
