-- Rows. A row has a place before each item of a list and one behind the last, and says where what a pattern has so far may end.
use Rattle.std.specs.Prelude.{ℕ, Bool, true, false, ◌&&◌, ◌||◌, if◌then◌else◌, List, [], ◌∷◌, drop}
use Rattle.wx_patterns.specs.Lists.{is_empty}
use Rattle.wx_patterns.specs.Matching.{is_star, byte_fits, part_matches, is_deep}

-- the test of each front of the list, the empty one first
abbrev pub of_fronts : {X Y : Type 0} → (List X → Y) → List X → List Y
of_fronts f [] = f [] ∷ []
of_fronts f (x ∷ xs) = f [] ∷ of_fronts (λ front. f (x ∷ front)) xs

-- an item fits that stands first
abbrev pub fits_first : {X : Type 0} → (X → Bool) → List X → Bool
fits_first fits [] = false
fits_first fits (x ∷ xs) = fits x

-- each place where it ended, or that lies behind one
abbrev pub spread : Bool → List Bool → List Bool
spread before [] = []
spread before (here ∷ row) = (before || here) ∷ spread (before || here) row

-- each place behind an item that fits, and before which it ended
abbrev pub moved : {X : Type 0} → (X → Bool) → Bool → List Bool → List X → List Bool
moved fits before [] xs = []
moved fits before (here ∷ row) xs = before ∷ moved fits (here && fits_first fits xs) row (drop 1 xs)

-- behind a byte of a part
abbrev pub behind_byte : ℕ → List Bool → List ℕ → List Bool
behind_byte c row name = if is_star c then spread false row else moved (byte_fits c) false row name

-- behind a part, which may be the last
abbrev pub behind_part : List ℕ → Bool → List Bool → List (List ℕ) → List Bool
behind_part part last row names =
    if is_deep part
    then (if last then moved (λ name. true) false (spread false row) names else spread false row)
    else moved (part_matches part) false row names

-- behind all bytes of a part
abbrev pub behind_bytes : List ℕ → List Bool → List ℕ → List Bool
behind_bytes [] row name = row
behind_bytes (c ∷ part) row name = behind_bytes part (behind_byte c row name) name

-- behind all parts of a pattern
abbrev pub behind_parts : List (List ℕ) → List Bool → List (List ℕ) → List Bool
behind_parts [] row names = row
behind_parts (part ∷ parts) row names = behind_parts parts (behind_part part (is_empty parts) row names) names

-- a pattern's word at each place where it matches, and elsewhere what stood there
abbrev pub judged : Bool → List Bool → List Bool → List Bool
judged word row [] = []
judged word row (here ∷ hidden) = (if fits_first (λ ends. ends) row then word else here) ∷ judged word (drop 1 row) hidden
