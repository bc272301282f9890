-- Words without a byte of 32 or less.
use Rattle.std.specs.Prelude.{ℕ, ◌<◌, Bool, true, ◌&&◌, nat_lt, List, [], ◌∷◌}
use Rattle.std.specs.List.{AllByRecursion}

abbrev pub IsClean : List ℕ → Type 0
IsClean w = AllByRecursion (λ b. 32 < b) w

abbrev pub AllClean : List (List ℕ) → Type 0
AllClean ws = AllByRecursion IsClean ws

-- a test that computes
abbrev pub is_clean : List ℕ → Bool
is_clean [] = true
is_clean (b ∷ w) = nat_lt 32 b && is_clean w
