-- What a turn brings, as words.
use Rattle.std.proofs.Common.{refl}
use Rattle.std.specs.Prelude.{ℕ, List, [], ◌∷◌, codes}
use Rattle.wx_words.specs.Spellings.{Spelling}
use Rattle.wx_words.specs.Choices.{Row, row, Behind, fields}
use Rattle.wx_words.specs.ChoiceLaws.{MadeAgain, SpeltSo, choice}
use Rattle.wx_words.specs.Parts.{line, nothing, both, renamed, as_line, number}
use Rattle.wx_events.specs.Events.{priority, event}
use Rattle.wx_events.specs.Ends.{signal}
use Rattle.wx_events.specs.declared.priority.Priority.{Priority}
use Rattle.wx_events.specs.declared.event.Event.{Event}
use Rattle.wx_control.specs.Ids.{id}
use Rattle.wx_control.specs.Asks.{ask}
use Rattle.wx_control.specs.declared.id.Id.{Id}
use Rattle.wx_control.specs.declared.ask.Ask.{Ask as AnAsk}
use Rattle.wx_config.specs.ChangeWords.{change}
use Rattle.wx_journal.specs.Bytes.{bytes}
use Rattle.wx_journal.specs.declared.entry.Turn.{Turn}
use Rattle.wx_journal.specs.declared.entry.TurnKind.{TurnKind}
use Rattle.wx_journal.specs.declared.entry.TurnKind.TheVariants.{Arrive, Signal, Keys, Work, Job, Ended, Ask, Change, Listen, File, Last}

-- an event with its priority, which stands before it
abbrev pub ranked : Spelling line (Priority × Event)
ranked = both priority event

abbrev pub make_arrive : Priority × Event → TurnKind
make_arrive p = Arrive p.1 p.0

abbrev pub make_ask_turn : Id × AnAsk → TurnKind
make_ask_turn p = Ask p.0 p.1

-- each first word of what a turn brings, and what stands behind it
abbrev pub kind_rows : List (Row line TurnKind)
kind_rows =
    row (codes "arrive") ranked make_arrive
    ∷ row (codes "signal") signal Signal
    ∷ row (codes "keys") bytes Keys
    ∷ row (codes "work") nothing (λ u. Work)
    ∷ row (codes "job") id Job
    ∷ row (codes "ended") (as_line number) Ended
    ∷ row (codes "ask") (both id ask) make_ask_turn
    ∷ row (codes "change") change Change
    ∷ row (codes "listen") nothing (λ u. Listen)
    ∷ row (codes "file") nothing (λ u. File)
    ∷ row (codes "last") nothing (λ u. Last)
    ∷ []

abbrev pub kind_word : TurnKind → List ℕ
kind_word (Arrive _ _) = codes "arrive"
kind_word (Signal _) = codes "signal"
kind_word (Keys _) = codes "keys"
kind_word Work = codes "work"
kind_word (Job _) = codes "job"
kind_word (Ended _) = codes "ended"
kind_word (Ask _ _) = codes "ask"
kind_word (Change _) = codes "change"
kind_word Listen = codes "listen"
kind_word File = codes "file"
kind_word Last = codes "last"

abbrev pub kind_behind : TurnKind → Behind line
kind_behind (Arrive e p) = fields ranked (p, e)
kind_behind (Signal s) = fields signal s
kind_behind (Keys read) = fields bytes read
kind_behind (Job job) = fields id job
kind_behind (Ended child) = fields (as_line number) child
kind_behind (Ask job wish) = fields (both id ask) (job, wish)
kind_behind (Change c) = fields change c
kind_behind _ = fields nothing tt

pub kind_again : MadeAgain kind_rows kind_word kind_behind
kind_again Work = (_, refl, refl)
kind_again x = (_, refl, refl)

pub kind_so : SpeltSo kind_rows kind_word kind_behind
kind_so = search

unfoldable pub kind : Spelling line TurnKind
kind = choice kind_rows kind_word kind_behind kind_again kind_so refl

-- a turn is its moment, and what it brings
abbrev pub make_turn : ℕ × TurnKind → Turn
make_turn p = record { at = p.0; kind = p.1 }

unfoldable pub turn : Spelling line Turn
turn = renamed (both (as_line number) kind) make_turn (λ t. (t.at, t.kind)) (λ t. refl) (λ p. refl)
