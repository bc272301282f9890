-- What spawns a child, as a word, which is parts with dots between them.
use Rattle.std.proofs.Common.{ℕ, ◌<◌, ◌^◌, refl, arith}
use Rattle.std.specs.Prelude.{List, [], ◌∷◌, codes, decimal}
use Rattle.wx_words.specs.Spellings.{Spelling}
use Rattle.wx_words.specs.Choices.{Row, row, Behind, fields}
use Rattle.wx_words.specs.ChoiceLaws.{MadeAgain, SpeltSo, choice, some_words}
use Rattle.wx_words.specs.CleanLaws.{number_clean}
use Rattle.wx_words.specs.DottedLaws.{as_it_stands, number_undotted}
use Rattle.wx_words.specs.NumberLaws.{u32_form}
use Rattle.wx_words.specs.Numbers.{read_u32}
use Rattle.wx_words.specs.Parts.{line, part, one_word, nothing}
use Rattle.wx_journal.specs.declared.child.SpawnTag.{SpawnTag}
use Rattle.wx_journal.specs.declared.child.SpawnTag.TheVariants.{Default, Command, Child}

-- the number of a function, as a part of a word
abbrev pub numbered : Spelling part ℕ
numbered = record { fits = λ n. n < 2 ^ 32; words = λ n. decimal n ∷ []; read = read_u32; form = u32_form as_it_stands; clean = λ n lt. ((number_clean n (omega arith), number_undotted n (omega arith)), tt) }

-- each first part of a tag, and what stands behind it
abbrev pub tag_rows : List (Row part SpawnTag)
tag_rows =
    row (codes "default") nothing (λ u. Default)
    ∷ row (codes "command") numbered Command
    ∷ row (codes "child") numbered Child
    ∷ []

abbrev pub tag_word : SpawnTag → List ℕ
tag_word Default = codes "default"
tag_word (Command _) = codes "command"
tag_word (Child _) = codes "child"

abbrev pub tag_behind : SpawnTag → Behind part
tag_behind Default = fields nothing tt
tag_behind (Command n) = fields numbered n
tag_behind (Child n) = fields numbered n

pub tag_again : MadeAgain tag_rows tag_word tag_behind
tag_again Default = (_, refl, refl)
tag_again x = (_, refl, refl)

pub tag_so : SpeltSo tag_rows tag_word tag_behind
tag_so = search

abbrev pub tag_parts : Spelling part SpawnTag
tag_parts = choice tag_rows tag_word tag_behind tag_again tag_so refl

unfoldable pub tag : Spelling line SpawnTag
tag = one_word tag_parts (λ x. some_words _ _)
