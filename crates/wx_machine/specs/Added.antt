-- What holds of each entry, of a whole journal and of what was added to one.
use Rattle.std.specs.Prelude.{List, [], ◌∷◌}
use Rattle.wx_journal.specs.declared.entry.Entry.{Entry}

-- it holds of each entry, by those before it
abbrev pub Each : (List Entry → Entry → Type 0) → List Entry → Type 0
Each P [] = Unit {0}
Each P (e ∷ p) = P p e × Each P p

-- The new journal is the old one with entries on top, and it holds of each of these.
pub data Added (P : List Entry → Entry → Type 0) (old : List Entry) : List Entry → Type 0 where
  Same : Added P old old
  More : (e : Entry) (p : List Entry) → Added P old p → P p e → Added P old (e ∷ p)
