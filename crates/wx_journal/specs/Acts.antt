-- What a handler asks of the engine, as words: `j` spells which job is to be created.
use Rattle.std.proofs.Common.{refl}
use Rattle.std.specs.Prelude.{ℕ, List, [], ◌∷◌, codes}
use Rattle.wx_words.specs.Spellings.{Spelling}
use Rattle.wx_words.specs.Choices.{Row, row, Behind, fields}
use Rattle.wx_words.specs.ChoiceLaws.{MadeAgain, SpeltSo, choice, some_words}
use Rattle.wx_words.specs.ToEnd.{HasWord}
use Rattle.wx_words.specs.Parts.{line, nothing, both, as_line, number}
use Rattle.wx_events.specs.Ends.{signal}
use Rattle.wx_command.specs.Commands.{command}
use Rattle.wx_control.specs.Ids.{id}
use Rattle.wx_control.specs.Asks.{ask}
use Rattle.wx_control.specs.declared.id.Id.{Id}
use Rattle.wx_config.specs.ChangeWords.{change}
use Rattle.wx_journal.specs.declared.entry.Act.{Act}
use Rattle.wx_journal.specs.declared.entry.Act.TheVariants.{Create, Ask, Change, Quit, QuitGracefully}

-- each first word of an act, and what stands behind it
abbrev pub act_rows : {J : Type 0} → Spelling line J → List (Row line (Act J))
act_rows j =
    row (codes "create") (both j command) (λ p. Create p.0 p.1)
    ∷ row (codes "ask") (both id ask) (λ p. Ask p.0 p.1)
    ∷ row (codes "change") change Change
    ∷ row (codes "quit") nothing (λ u. Quit)
    ∷ row (codes "quitgracefully") (both signal (as_line number)) (λ p. QuitGracefully p.0 p.1)
    ∷ []

abbrev pub act_word : {J : Type 0} → Act J → List ℕ
act_word (Create _ _) = codes "create"
act_word (Ask _ _) = codes "ask"
act_word (Change _) = codes "change"
act_word Quit = codes "quit"
act_word (QuitGracefully _ _) = codes "quitgracefully"

abbrev pub act_behind : {J : Type 0} → Spelling line J → Act J → Behind line
act_behind j (Create job order) = fields (both j command) (job, order)
act_behind j (Ask job wish) = fields (both id ask) (job, wish)
act_behind j (Change c) = fields change c
act_behind j Quit = fields nothing tt
act_behind j (QuitGracefully s grace) = fields (both signal (as_line number)) (s, grace)

pub act_again : {J : Type 0} (j : Spelling line J) → MadeAgain (act_rows j) act_word (act_behind j)
act_again j Quit = (_, refl, refl)
act_again j x = (_, refl, refl)

pub act_so : {J : Type 0} (j : Spelling line J) → SpeltSo (act_rows j) act_word (act_behind j)
act_so j = search

unfoldable pub act_of : {J : Type 0} → Spelling line J → Spelling line (Act J)
act_of j = choice (act_rows j) act_word (act_behind j) (act_again j) (act_so j) refl

pub act_has_word : {J : Type 0} (j : Spelling line J) → HasWord (act_of j)
unfolding act_of
act_has_word j x = some_words _ _

-- the acts of a journal: each job has its name
abbrev pub JournalAct : Type 0
JournalAct = Act Id

abbrev pub act : Spelling line JournalAct
act = act_of id
