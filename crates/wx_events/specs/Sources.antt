-- What an event came from, as a word.
use Rattle.std.proofs.Common.{refl}
use Rattle.std.specs.Prelude.{ℕ, List, [], ◌∷◌, codes}
use Rattle.wx_words.specs.Spellings.{Spelling}
use Rattle.wx_words.specs.Parts.{line, HasWords, keyword}
use Rattle.wx_events.specs.declared.source.Source.{Source}
use Rattle.wx_events.specs.declared.source.Source.TheVariants.{Filesystem, Keyboard, Mouse, Os, Time, Internal}

abbrev pub source_word : Source → List ℕ
source_word Filesystem = codes "filesystem"
source_word Keyboard = codes "keyboard"
source_word Mouse = codes "mouse"
source_word Os = codes "os"
source_word Time = codes "time"
source_word Internal = codes "internal"

abbrev pub sources : List Source
sources = Filesystem ∷ Keyboard ∷ Mouse ∷ Os ∷ Time ∷ Internal ∷ []

pub source_found : HasWords source_word sources
source_found Filesystem = refl
source_found x = refl

unfoldable pub source : Spelling line Source
source = keyword source_word sources source_found refl
