-- Texts as words.
use Rattle.std.specs.Prelude.{ℕ, ◌+◌, ◌*◌, ◌/◌, ◌%◌, ◌==◌, nat_lt, ◌<◌, Bool, true, ◌&&◌, not, if◌then◌else◌, Option, None, Some, List, [], ◌∷◌}
use Rattle.std.specs.List.{flat_map, AllByRecursion}
use Rattle.std.specs.Char.{digit_value}
use Rattle.std.specs.Fmt.{digit_glyph}
use Rattle.wx_words.specs.Line.{◌>>=◌}
use Rattle.wx_words.specs.Combine.{Reader, read_word_by}

-- each is a byte
abbrev pub AllBytes : List ℕ → Type 0
AllBytes bytes = AllByRecursion (λ b. b < 256) bytes

-- bytes 33 to 126 but the percent sign stand for themselves
abbrev pub is_plain : ℕ → Bool
is_plain b = nat_lt 32 b && nat_lt b 127 && not (b == 37)

-- every other byte is a percent sign and two hexadecimal digits
abbrev pub escaped_byte : ℕ → List ℕ
escaped_byte b = if is_plain b then b ∷ [] else 37 ∷ digit_glyph true (b / 16) ∷ digit_glyph true (b % 16) ∷ []

abbrev pub escaped : List ℕ → List ℕ
escaped bytes = flat_map escaped_byte bytes

-- a text as a word; the empty text is a percent sign
abbrev pub text_word : List ℕ → List ℕ
text_word [] = 37 ∷ []
text_word (b ∷ bs) = escaped (b ∷ bs)

abbrev pub text_words : List ℕ → List (List ℕ)
text_words t = text_word t ∷ []

-- the value of a hexadecimal digit of either case
abbrev pub hex_in : ℕ → Option ℕ
hex_in c = if nat_lt (digit_value c) 16 then Some (digit_value c) else None

-- a byte in front of a text, where there is one
abbrev pub onto : ℕ → Option (List ℕ) → Option (List ℕ)
onto b None = None
onto b (Some bs) = Some (b ∷ bs)

-- the bytes that a word stands for: an escaped byte may be written in either case, and need not be escaped
abbrev pub unescaped : List ℕ → Option (List ℕ)
unescaped [] = Some []
unescaped (b ∷ []) = if is_plain b then onto b (Some []) else None
unescaped (b ∷ c ∷ []) = if is_plain b then onto b (unescaped (c ∷ [])) else None
unescaped (b ∷ c ∷ d ∷ rest) =
    if b == 37 then (hex_in c >>= λ high. hex_in d >>= λ low. onto (16 * high + low) (unescaped rest))
    else (if is_plain b then onto b (unescaped (c ∷ d ∷ rest)) else None)

-- the text that a word stands for
abbrev pub text_in : List ℕ → Option (List ℕ)
text_in [] = None
text_in (b ∷ []) = if b == 37 then Some [] else unescaped (b ∷ [])
text_in (b ∷ c ∷ bs) = unescaped (b ∷ c ∷ bs)

-- the text at the front
abbrev pub read_text : Reader (List ℕ)
read_text ws = read_word_by text_in ws
