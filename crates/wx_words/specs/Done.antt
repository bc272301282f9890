-- What is done and gives no value, as a word.
use Rattle.std.proofs.Common.{refl}
use Rattle.std.specs.Prelude.{ℕ, List, [], ◌∷◌, codes}
use Rattle.wx_words.specs.Spellings.{Spelling}
use Rattle.wx_words.specs.Parts.{line, HasWords, keyword}

abbrev pub ok_word : Unit {0} → List ℕ
ok_word u = codes "ok"

abbrev pub ok_all : List (Unit {0})
ok_all = tt ∷ []

pub ok_found : HasWords ok_word ok_all
ok_found u = refl

unfoldable pub ok : Spelling line (Unit {0})
ok = keyword ok_word ok_all ok_found refl
