-- Priorities of events.
use Rattle.std.specs.Prelude.{ℕ, Bool, true, false}
use Rattle.wx_events.specs.declared.priority.Priority.{Priority}
use Rattle.wx_events.specs.declared.priority.Priority.TheVariants.{Low, Normal, High, Urgent}

-- priorities rise in this order
abbrev pub rank : Priority → ℕ
rank Low = 0
rank Normal = 1
rank High = 2
rank Urgent = 3

abbrev pub is_urgent : Priority → Bool
is_urgent Low = false
is_urgent Normal = false
is_urgent High = false
is_urgent Urgent = true
