-- Shells, and their words.
use Rattle.std.proofs.Common.{refl}
use Rattle.std.specs.Prelude.{ℕ, Bool, true, false, Option, None, Some, List, [], ◌∷◌, codes}
use Rattle.wx_words.specs.Spellings.{Spelling}
use Rattle.wx_words.specs.Choices.{Row, row, Behind, fields}
use Rattle.wx_words.specs.ChoiceLaws.{MadeAgain, SpeltSo, choice}
use Rattle.wx_words.specs.Parts.{line, HasWords, keyword, nothing, both, renamed, list_of, text}
use Rattle.wx_command.specs.declared.shell.Shell.{Shell}

-- the shell of this name, with no options, whose program option is `-c`
abbrev pub shell_of : List ℕ → Bool → Shell
shell_of name quote = record { prog = name; options = []; program_option = Some (codes "-c"); quote = quote }

-- whether the text is to be quoted, as a word
abbrev pub quoting_word : Bool → List ℕ
quoting_word true = codes "quoted"
quoting_word false = codes "raw"

abbrev pub quotings : List Bool
quotings = true ∷ false ∷ []

pub quoting_found : HasWords quoting_word quotings
quoting_found true = refl
quoting_found false = refl

unfoldable pub quoting : Spelling line Bool
quoting = keyword quoting_word quotings quoting_found refl

-- the option before the text of a command, which may be absent
abbrev pub option_rows : List (Row line (Option (List ℕ)))
option_rows = row (codes "none") nothing (λ u. None) ∷ row (codes "some") text Some ∷ []

abbrev pub option_word : Option (List ℕ) → List ℕ
option_word None = codes "none"
option_word (Some t) = codes "some"

abbrev pub option_behind : Option (List ℕ) → Behind line
option_behind None = fields nothing tt
option_behind (Some t) = fields text t

pub option_again : MadeAgain option_rows option_word option_behind
option_again None = (_, refl, refl)
option_again (Some t) = (_, refl, refl)

pub option_so : SpeltSo option_rows option_word option_behind
option_so = search

unfoldable pub program_option : Spelling line (Option (List ℕ))
program_option = choice option_rows option_word option_behind option_again option_so refl

-- the program, whether to quote, the options, the program option
abbrev pub make_shell : List ℕ × (Bool × (List (List ℕ) × Option (List ℕ))) → Shell
make_shell p = record { prog = p.0; options = p.1.1.0; program_option = p.1.1.1; quote = p.1.0 }

unfoldable pub shell : Spelling line Shell
shell = renamed (both text (both quoting (both (list_of text) program_option))) make_shell (λ s. (s.prog, (s.quote, (s.options, s.program_option)))) (λ s. refl) (λ p. refl)
