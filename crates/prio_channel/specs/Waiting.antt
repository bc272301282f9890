-- What waits in a queue, in the order of its heap, with its values in slots.
use Rattle.std.specs.Prelude.{◌≡◌, ◌==◌, ℕ, Bool, if◌then◌else◌, is_some, Option, None, Some, List, [], ◌∷◌, count_by}
use Rattle.std.specs.declared.cmp.Ordering.{Ordering}
use Rattle.std.specs.Ordering.{nat_cmp, on, flip_args, then_cmp}
use Rattle.slab.specs.Slab.{Slab, get}
use Rattle.wx_events.specs.declared.priority.Priority.{Priority}
use Rattle.wx_events.specs.Priority.{rank}
use Rattle.prio_channel.specs.declared.waiting.Waiting.{Waiting}

-- the greater leaves first: that of the greater priority, and of equal ones that which was sent first
abbrev pub waiting_cmp : Waiting → Waiting → Ordering
waiting_cmp = then_cmp (on (λ w. rank w.priority) nat_cmp) (then_cmp (flip_args (on (λ w. w.sequence) nat_cmp)) (on (λ w. w.slot) nat_cmp))

-- these pairs, and before them that of the value of a slot, where it has one
abbrev pub with_value : {T : Type 0} → Option T → Priority → List (T × Priority) → List (T × Priority)
with_value None priority items = items
with_value (Some value) priority items = (value, priority) ∷ items

-- the pairs that wait
abbrev pub pairs : {T : Type 0} → Slab T → List Waiting → List (T × Priority)
pairs values [] = []
pairs values (w ∷ waiting) = with_value (get values w.slot) w.priority (pairs values waiting)

-- what waits has its value in this slot
abbrev pub in_slot : ℕ → Waiting → Bool
in_slot slot w = w.slot == slot

-- of each slot that has a value one waits, and of any other none
abbrev pub HaveSlots : {T : Type 0} → Slab T → List Waiting → Type 0
HaveSlots values waiting = (slot : ℕ) → count_by (in_slot slot) waiting ≡ (if is_some (get values slot) then 1 else 0)
