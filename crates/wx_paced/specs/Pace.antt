-- When a poller lists anew.
use Rattle.std.specs.Prelude.{◌≡◌, ℕ, ◌+◌, ◌*◌, ◌^◌, ◌-◌, ◌==◌, min, length, Bool, not}
use Rattle.wx_poller.specs.declared.poller.Poller.{Poller}
use Rattle.wx_paced.specs.declared.paced.PacedPoller.{PacedPoller}

-- it found something that it didn't bring yet
abbrev pub pends : Poller → Bool
pends a = not (length a.pending == 0)

-- Behind a listing of so many paths at this moment: 50 ms, and 20 µs for each path, later. It ends at the greatest moment.
abbrev pub due_after : ℕ → ℕ → ℕ
due_after at paths = min (at + (50000000 + paths * 20000)) (2 ^ 64 - 1)

-- the moment stays, and so does that from which on it may list
abbrev pub SamePace : PacedPoller → PacedPoller → Type 0
SamePace a b = (b.moment ≡ a.moment) × (b.due ≡ a.due)
