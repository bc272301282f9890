-- What patterns match.
use Rattle.std.specs.Prelude.{ℕ, ◌==◌, Bool, not, ◌||◌, if◌then◌else◌, List, [], ◌∷◌, codes}
use Rattle.std.specs.Str.{bytes_eq}
use Rattle.wx_patterns.specs.Lists.{is_empty, some_suffix, first_fits}

-- ---- a part of a pattern

abbrev pub is_star : ℕ → Bool
is_star c = c == 42

-- `?` is any one byte
abbrev pub byte_fits : ℕ → ℕ → Bool
byte_fits c b = c == 63 || c == b

-- A part matches a name where its bytes match in order, `*` being any run of bytes.
abbrev pub part_matches : List ℕ → List ℕ → Bool
part_matches [] name = is_empty name
part_matches (c ∷ part) name = if is_star c then some_suffix (part_matches part) name else first_fits (byte_fits c) (part_matches part) name

-- ---- a pattern

abbrev pub is_deep : List ℕ → Bool
is_deep part = bytes_eq part (codes "**")

-- The parts of a pattern match names. No part matches no name. A last part `**` matches any names, but at least one. Another
-- `**` matches any names before those that the rest matches, none too. Any other part matches one name.
abbrev pub matches : List (List ℕ) → List (List ℕ) → Bool
matches [] names = is_empty names
matches (part ∷ parts) names = if is_deep part then (if is_empty parts then not (is_empty names) else some_suffix (matches parts) names) else first_fits (part_matches part) (matches parts) names
