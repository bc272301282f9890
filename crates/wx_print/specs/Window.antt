-- The window, by the events that passed and by what is known of each name.
use Rattle.std.specs.Prelude.{◌≡◌, ℕ, ◌+◌, ◌≤◌, Bool, false, nat_eq, nat_le, if◌then◌else◌, List, [], ◌∷◌}
use Rattle.std.specs.HashMap.{get, HashMap}
use Rattle.std.specs.Option.{unwrap_or}
use Rattle.wx_journal.specs.declared.entry.Entry.{Entry}
use Rattle.wx_machine.specs.Journal.{passes_unseen}

module _ {S : Type 0} where
  -- how many events had passed when one of this name was last handed, and 0 where none was
  abbrev pub handed_at : HashMap ℕ ℕ S → ℕ → ℕ
  handed_at handed name = unwrap_or (get nat_eq handed name) 0

  -- no more than so many had passed
  abbrev pub AreAtMost : ℕ → HashMap ℕ ℕ S → Type 0
  AreAtMost passed handed = (name : ℕ) → handed_at handed name ≤ passed

  -- whether a table notes of this name that its event passes unseen
  abbrev pub is_noted : HashMap ℕ Bool S → ℕ → Bool
  is_noted unseen name = unwrap_or (get nat_eq unseen name) false

  -- a table notes just the names of these entries whose events pass unseen
  abbrev pub AreNoted : HashMap ℕ Bool S → List Entry → Type 0
  AreNoted unseen p = (name : ℕ) → is_noted unseen name ≡ passes_unseen name p

-- of names that passed, the first of them at this place, those that passed after their last hand
abbrev pub left : (ℕ → ℕ) → ℕ → List ℕ → List ℕ
left handed place [] = []
left handed place (x ∷ xs) = if nat_le (handed x) place then x ∷ left handed (place + 1) xs else left handed (place + 1) xs
