-- From the bytes of a path to its parts, and back.
use Rattle.std.specs.Prelude.{ℕ, ◌≡◌, Bool, true, false, not, ◌&&◌, ◌==◌, if◌then◌else◌, List, [], ◌∷◌, ◌++◌}
use Rattle.wx_tree.specs.Paths.{Part, Path}

abbrev pub slash : ℕ
slash = 47

-- a part more, where it isn't empty
abbrev pub push_part : Part → Path → Path
push_part [] path = path
push_part (b ∷ part) path = (b ∷ part) ∷ path

-- the path that bytes lead to, behind the part that is being read and the path of the parts before it
abbrev pub place_from : List ℕ → Part → Path → Path
place_from [] part path = push_part part path
place_from (b ∷ bytes) part path = if b == slash then place_from bytes [] (push_part part path) else place_from bytes (part ++ b ∷ []) path

-- The place that the bytes of an absolute path name. Its parts are what stands between slashes, and isn't empty.
abbrev pub place : List ℕ → Path
place bytes = place_from bytes [] []

-- the parts, each behind a slash
abbrev pub parts_spelled : Path → List ℕ
parts_spelled [] = []
parts_spelled (x ∷ p) = parts_spelled p ++ slash ∷ x

-- the bytes of a path
abbrev pub spelled : Path → List ℕ
spelled [] = slash ∷ []
spelled (x ∷ p) = parts_spelled (x ∷ p)

abbrev pub has_no_slash : Part → Bool
has_no_slash [] = true
has_no_slash (b ∷ x) = not (b == slash) && has_no_slash x

-- a part has a byte, and no slash
abbrev pub is_part : Part → Bool
is_part [] = false
is_part (b ∷ x) = has_no_slash (b ∷ x)

abbrev pub AreParts : Path → Type 0
AreParts [] = Unit {0}
AreParts (x ∷ p) = (is_part x ≡ true) × AreParts p
