-- What contracts see of marks.
use Rattle.std.specs.Prelude.{ℕ, List, [], ◌∷◌}
use Rattle.wx_handles.specs.declared.mark.Mark.{Mark}

-- the marks so far, the newest first, and the room for more
pub record Marked : Type 0 where
  pub past : List Mark
  pub spare : ℕ

-- the moment of the last turn, by its marks, or 0 before any
abbrev pub latest : List Mark → ℕ
latest [] = 0
latest (m ∷ marks) = m.at
