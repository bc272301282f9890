-- Paths as lists of parts, the last part first: the parent of a path is what is left without its first item, and / is the empty
-- list.
use Rattle.std.specs.Prelude.{ℕ, Bool, false, ◌||◌, nat_eq, List, [], ◌∷◌}
use Rattle.std.specs.Cmp.Lexicographic.{pointwise}

-- the name of an entry of a directory, as its bytes
abbrev pub Part : Type 0
Part = List ℕ

abbrev pub Path : Type 0
Path = List Part

abbrev pub same_part : Part → Part → Bool
same_part x y = pointwise nat_eq x y

abbrev pub same : Path → Path → Bool
same p q = pointwise same_part p q

-- q is p, or lies below it
abbrev pub holds : Path → Path → Bool
holds p [] = same p []
holds p (x ∷ q) = same p (x ∷ q) || holds p q

-- q lies strictly below p
abbrev pub holds_below : Path → Path → Bool
holds_below p [] = false
holds_below p (x ∷ q) = holds p q

-- q is a direct entry of p
abbrev pub has_entry : Path → Path → Bool
has_entry p [] = false
has_entry p (x ∷ q) = same p q
