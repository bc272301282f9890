-- What a lent outside is seen as.
use Rattle.std.specs.Prelude.{ℕ, ◌∷◌}
use Rattle.wx_machine.specs.Seen.{Seen}

-- what was seen, with one borrow more
abbrev pub placed : {Fixed : Type 0} → ℕ → Seen Fixed → Seen Fixed
placed name a = record a { place = name ∷ a.place }
