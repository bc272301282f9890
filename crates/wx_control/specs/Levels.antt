-- Levels, their order and their words.
use Rattle.std.proofs.Common.{refl}
use Rattle.std.specs.Prelude.{ℕ, ◌≤◌, List, [], ◌∷◌, codes}
use Rattle.wx_words.specs.Spellings.{Spelling}
use Rattle.wx_words.specs.Parts.{line, HasWords, keyword}
use Rattle.wx_control.specs.declared.level.Level.{Level}
use Rattle.wx_control.specs.declared.level.Level.TheVariants.{Normal, High, Urgent}

-- levels rise in this order
abbrev pub rank : Level → ℕ
rank Normal = 0
rank High = 1
rank Urgent = 2

abbrev pub AtMost : Level → Level → Type 0
AtMost x y = rank x ≤ rank y

abbrev pub level_word : Level → List ℕ
level_word Normal = codes "normal"
level_word High = codes "high"
level_word Urgent = codes "urgent"

abbrev pub levels : List Level
levels = Normal ∷ High ∷ Urgent ∷ []

pub level_found : HasWords level_word levels
level_found Normal = refl
level_found x = refl

unfoldable pub level : Spelling line Level
level = keyword level_word levels level_found refl
