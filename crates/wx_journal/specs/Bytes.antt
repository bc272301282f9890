-- Bytes as words.
use Rattle.std.proofs.Common.{arith}
use Rattle.std.specs.Prelude.{ℕ, ◌^◌, ◌<◌, List, [], ◌∷◌, decimal}
use Rattle.wx_words.specs.Clean.{AllClean}
use Rattle.wx_words.specs.CleanLaws.{number_clean}
use Rattle.wx_words.specs.Combine.{read_below}
use Rattle.wx_words.specs.Forms.{IsForm}
use Rattle.wx_words.specs.NumberLaws.{below_form}
use Rattle.wx_words.specs.Numbers.{read_number}
use Rattle.wx_words.specs.Parts.{line, list_of}
use Rattle.wx_words.specs.Spellings.{Spelling}
use Rattle.wx_words.specs.Texts.{text_in}

pub byte_form : IsForm text_in (λ n. n < 2 ^ 8) (λ n. decimal n ∷ []) (read_below (2 ^ 8) read_number)
byte_form = below_form text_in (2 ^ 8) (omega arith)

pub byte_clean : (n : ℕ) → n < 2 ^ 8 → AllClean (decimal n ∷ [])
byte_clean n lt = (number_clean n (omega arith), tt)

-- a byte is a number below 256
abbrev pub byte : Spelling line ℕ
byte = record { fits = λ n. n < 2 ^ 8; words = λ n. decimal n ∷ []; read = read_below (2 ^ 8) read_number; form = byte_form; clean = byte_clean }

abbrev pub bytes : Spelling line (List ℕ)
bytes = list_of byte
