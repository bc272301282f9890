-- What is on or off, as a word.
use Rattle.std.proofs.Common.{refl}
use Rattle.std.specs.Prelude.{ℕ, Bool, true, false, List, [], ◌∷◌, codes}
use Rattle.wx_words.specs.Spellings.{Spelling}
use Rattle.wx_words.specs.Parts.{line, HasWords, keyword}

abbrev pub switch_word : Bool → List ℕ
switch_word true = codes "on"
switch_word false = codes "off"

abbrev pub switches : List Bool
switches = true ∷ false ∷ []

pub switch_found : HasWords switch_word switches
switch_found true = refl
switch_found false = refl

unfoldable pub switch : Spelling line Bool
switch = keyword switch_word switches switch_found refl
