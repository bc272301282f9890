-- What an error handler wishes, as words.
use Rattle.std.proofs.Common.{refl}
use Rattle.std.specs.Prelude.{ℕ, List, [], ◌∷◌, codes}
use Rattle.wx_words.specs.Spellings.{Spelling}
use Rattle.wx_words.specs.Choices.{Row, row, Behind, fields}
use Rattle.wx_words.specs.ChoiceLaws.{MadeAgain, SpeltSo, choice}
use Rattle.wx_words.specs.Parts.{line, nothing}
use Rattle.wx_error.specs.Critical.{critical}
use Rattle.wx_journal.specs.declared.wish.Wish.{Wish}
use Rattle.wx_journal.specs.declared.wish.Wish.TheVariants.{Nothing, Elevate, Critical}

abbrev pub wish_rows : List (Row line Wish)
wish_rows = row (codes "none") nothing (λ u. Nothing) ∷ row (codes "elevate") nothing (λ u. Elevate) ∷ row (codes "critical") critical Critical ∷ []

abbrev pub wish_word : Wish → List ℕ
wish_word Nothing = codes "none"
wish_word Elevate = codes "elevate"
wish_word (Critical _) = codes "critical"

abbrev pub wish_behind : Wish → Behind line
wish_behind Nothing = fields nothing tt
wish_behind Elevate = fields nothing tt
wish_behind (Critical error) = fields critical error

pub wish_again : MadeAgain wish_rows wish_word wish_behind
wish_again Nothing = (_, refl, refl)
wish_again Elevate = (_, refl, refl)
wish_again (Critical error) = (_, refl, refl)

pub wish_so : SpeltSo wish_rows wish_word wish_behind
wish_so = search

unfoldable pub wish : Spelling line Wish
wish = choice wish_rows wish_word wish_behind wish_again wish_so refl
