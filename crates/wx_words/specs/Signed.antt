-- Signed numbers as words: a hyphen stands before the digits of a number below zero.
use Rattle.std.specs.Prelude.{ℕ, zero, suc, ◌==◌, ◌^◌, nat_lt, Bool, ℤ, pos, negsuc, if◌then◌else◌, Option, None, Some, option_map, List, [], ◌∷◌}
use Rattle.std.specs.Fmt.{signed_decimal}
use Rattle.wx_words.specs.Line.{◌>>=◌}
use Rattle.wx_words.specs.Combine.{Reader, read_word_by}
use Rattle.wx_words.specs.Numbers.{number_in}

-- the number of this absolute value below zero
abbrev pub below_zero : ℕ → Option ℤ
below_zero zero = None
below_zero (suc n) = Some (negsuc n)

-- the signed number that a word spells, whose absolute value is below 2 ^ 64
abbrev pub signed_in : List ℕ → Option ℤ
signed_in [] = None
signed_in (c ∷ digits) = if c == 45 then number_in digits >>= below_zero else option_map pos (number_in (c ∷ digits))

abbrev pub signed_words : ℤ → List (List ℕ)
signed_words z = signed_decimal z ∷ []

-- whether a number is from -limit to limit - 1
abbrev pub is_within : ℕ → ℤ → Bool
is_within limit (pos n) = nat_lt n limit
is_within limit (negsuc n) = nat_lt n limit

-- the number from -limit to limit - 1 that a word spells
abbrev pub signed_within : ℕ → List ℕ → Option ℤ
signed_within limit w = do
  z ← signed_in w
  if is_within limit z then Some z else None

-- the number from -limit to limit - 1 at the front
abbrev pub read_signed : ℕ → Reader ℤ
read_signed limit ws = read_word_by (signed_within limit) ws

abbrev pub read_i64 : Reader ℤ
read_i64 ws = read_signed (2 ^ 63) ws

abbrev pub read_i32 : Reader ℤ
read_i32 ws = read_signed (2 ^ 31) ws
