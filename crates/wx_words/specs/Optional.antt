-- A number that may be absent, as a word: a hyphen where it is absent.
use Rattle.std.specs.Prelude.{ℕ, ◌^◌, ◌<◌, if◌then◌else◌, Option, None, Some, option_map, List, [], ◌∷◌, decimal, codes}
use Rattle.std.specs.Str.{bytes_eq}
use Rattle.wx_words.specs.Numbers.{number_in}
use Rattle.wx_words.specs.Combine.{Reader, read_word_by}

abbrev pub OptionalFits : Option ℕ → Type 0
OptionalFits None = Unit {0}
OptionalFits (Some n) = n < 2 ^ 64

abbrev pub optional_word : Option ℕ → List ℕ
optional_word None = codes "-"
optional_word (Some n) = decimal n

abbrev pub optional_words : Option ℕ → List (List ℕ)
optional_words o = optional_word o ∷ []

-- what a word spells
abbrev pub optional_in : List ℕ → Option (Option ℕ)
optional_in w = if bytes_eq w (codes "-") then Some None else option_map (λ n. Some n) (number_in w)

-- what stands at the front
abbrev pub read_optional : Reader (Option ℕ)
read_optional ws = read_word_by optional_in ws
