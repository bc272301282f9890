-- Patterns as lines.
use Rattle.std.specs.Prelude.{ℕ, ◌-◌, ◌==◌, Bool, false, not, ◌&&◌, ◌||◌, if◌then◌else◌, List, [], ◌∷◌, drop, take, length, codes}
use Rattle.std.specs.List.{list_all, list_any}
use Rattle.std.specs.Str.{bytes_eq}
use Rattle.wx_words.specs.Line.{parts}
use Rattle.wx_paths.specs.Paths.{is_named, is_absolute}
use Rattle.wx_patterns.specs.declared.pattern.Pattern.{Pattern}
use Rattle.wx_patterns.specs.Lists.{last_or}

abbrev pub is_slash : ℕ → Bool
is_slash b = b == 47

-- `!` in front
abbrev pub is_negated : List ℕ → Bool
is_negated [] = false
is_negated (b ∷ line) = b == 33

-- without one `!` in front
abbrev pub unmarked : List ℕ → List ℕ
unmarked line = if is_negated line then drop 1 line else line

-- without one slash in front
abbrev pub behind_slash : List ℕ → List ℕ
behind_slash line = if is_absolute line then drop 1 line else line

-- without one slash at the end
abbrev pub before_slash : List ℕ → List ℕ
before_slash line = if is_slash (last_or 0 line) then take (length line - 1) line else line

-- what is left of a line
abbrev pub body : List ℕ → List ℕ
body line = before_slash (behind_slash (unmarked line))

abbrev pub is_part : List ℕ → Bool
is_part piece = is_named piece && not (bytes_eq piece (codes ".."))

-- A line is a pattern where something is left, and no part between slashes is empty, `.` or `..`.
abbrev pub is_pattern : List ℕ → Bool
is_pattern line = list_all is_part (parts 47 (body line))

-- it had a slash in front, or has one left
abbrev pub is_fixed : List ℕ → Bool
is_fixed line = is_absolute (unmarked line) || list_any is_slash (body line)

-- The pattern of a line. One that isn't fixed stands as if `**/` were before it.
abbrev pub pattern_of : List ℕ → Pattern
pattern_of line = record { negated = is_negated line; parts = if is_fixed line then parts 47 (body line) else codes "**" ∷ parts 47 (body line) }

-- the patterns of those of these lines that are one
abbrev pub patterns_of : List (List ℕ) → List Pattern
patterns_of [] = []
patterns_of (line ∷ lines) = if is_pattern line then pattern_of line ∷ patterns_of lines else patterns_of lines
