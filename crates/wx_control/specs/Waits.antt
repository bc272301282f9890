-- The controls that wait for a job, and which is picked first.
use Rattle.std.specs.Prelude.{◌≡◌, ℕ, ◌+◌, Bool, if◌then◌else◌, Option, None, Some, List, [], ◌∷◌, ◌++◌, length}
use Rattle.wx_control.specs.declared.control.Control.{Control}
use Rattle.wx_control.specs.declared.level.Level.{Level}
use Rattle.wx_control.specs.declared.level.Level.TheVariants.{Normal, High, Urgent}
use Rattle.wx_control.specs.declared.three_lists.Waiting.{Waiting}
use Rattle.wx_control.specs.declared.three_lists.Picked.{Picked}

-- what contracts see of them: those of each level with their tickets, in the order in which they came, and how many more there
-- is room for at every level
pub record Waits : Type 0 where
  pub urgent : List (ℕ × Control)
  pub high : List (ℕ × Control)
  pub normal : List (ℕ × Control)
  pub spare : ℕ

-- the ticket of what waits, or was picked, with its control
abbrev pub ticketed : Waiting → ℕ × Control
ticketed w = (w.ticket, w.control)

abbrev pub picked : Picked → ℕ × Control
picked x = (x.ticket, x.control)

-- how many wait at all levels
abbrev pub waiting_count : Waits → ℕ
waiting_count w = length w.urgent + length w.high + length w.normal

-- none waits
pub record IsEmpty (w : Waits) : Type 0 where
  pub urgent : w.urgent ≡ []
  pub high : w.high ≡ []
  pub normal : w.normal ≡ []

-- one more waits at a level, behind the others
abbrev pub joined : Level → ℕ × Control → Waits → Waits
joined Urgent x w = record w { urgent = w.urgent ++ x ∷ [] }
joined High x w = record w { high = w.high ++ x ∷ [] }
joined Normal x w = record w { normal = w.normal ++ x ∷ [] }

-- one more waits at a level, before the others
abbrev pub headed : Level → ℕ × Control → Waits → Waits
headed Urgent x w = record w { urgent = x ∷ w.urgent }
headed High x w = record w { high = x ∷ w.high }
headed Normal x w = record w { normal = x ∷ w.normal }

-- the first of three lists that isn't empty gives its first
abbrev pub first : List (ℕ × Control) → List (ℕ × Control) → List (ℕ × Control) → Option (ℕ × Control)
first (x ∷ urgent) high normal = Some x
first [] (x ∷ high) normal = Some x
first [] [] (x ∷ normal) = Some x
first [] [] [] = None

-- the level of that one
abbrev pub level_of : List (ℕ × Control) → List (ℕ × Control) → List (ℕ × Control) → Option Level
level_of (x ∷ urgent) high normal = Some Urgent
level_of [] (x ∷ high) normal = Some High
level_of [] [] (x ∷ normal) = Some Normal
level_of [] [] [] = None

-- none of the level Normal is picked while a grace runs
abbrev pub ready : Bool → Waits → List (ℕ × Control)
ready grace w = if grace then [] else w.normal

-- what is picked, and at which level
abbrev pub first_of : Bool → Waits → Option (ℕ × Control)
first_of grace w = first w.urgent w.high (ready grace w)

abbrev pub first_level : Bool → Waits → Option Level
first_level grace w = level_of w.urgent w.high (ready grace w)
