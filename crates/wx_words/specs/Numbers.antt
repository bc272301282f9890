-- Numbers as words.
use Rattle.std.specs.Prelude.{ℕ, ◌+◌, ◌*◌, ◌-◌, ◌==◌, ◌^◌, nat_lt, ◌&&◌, if◌then◌else◌, Option, None, Some, List, [], ◌∷◌}
use Rattle.std.specs.Char.{is_ascii_digit}
use Rattle.wx_words.specs.Combine.{Reader, read_word_by, read_below}

-- the number below 2 ^ 64 that digits spell behind a number
abbrev pub with_digits : ℕ → List ℕ → Option ℕ
with_digits n [] = Some n
with_digits n (d ∷ ds) = if is_ascii_digit d && nat_lt (n * 10 + (d - 48)) (2 ^ 64) then with_digits (n * 10 + (d - 48)) ds else None

-- the number that a word spells, without a zero in front
abbrev pub number_in : List ℕ → Option ℕ
number_in [] = None
number_in (d ∷ []) = with_digits 0 (d ∷ [])
number_in (d ∷ e ∷ ds) = if d == 48 then None else with_digits 0 (d ∷ e ∷ ds)

-- the number at the front
abbrev pub read_number : Reader ℕ
read_number ws = read_word_by number_in ws

-- the number below 2 ^ 32 at the front
abbrev pub read_u32 : Reader ℕ
read_u32 ws = read_below (2 ^ 32) read_number ws
