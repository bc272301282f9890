-- What contracts see of the handler that is lent to an action.
use Rattle.std.specs.Prelude.{◌≡◌, ℕ, Bool, false, if◌then◌else◌, Option, None, Some, List, [], ◌∷◌, ◌++◌}
use Rattle.wx_events.specs.declared.event.Event.{Event}
use Rattle.wx_events.specs.declared.priority.Priority.{Priority}
use Rattle.wx_journal.specs.declared.entry.Entry.{Entry}
use Rattle.wx_journal.specs.Acts.{JournalAct as Act}
use Rattle.wx_journal.specs.declared.entry.Act.TheVariants.{Create, Ask as Asks, Change, Quit, QuitGracefully}
use Rattle.wx_control.specs.declared.id.Id.{Id}
use Rattle.wx_control.specs.declared.ask.Ask.{Ask}
use Rattle.wx_control.specs.Sent.{Sink}
use Rattle.wx_command.specs.declared.command.Command.{Command}
use Rattle.wx_machine.specs.Journal.{listed}
use Rattle.wx_machine.specs.Jobs.{is_there}

-- the journal so far and the revision of the settings, the names and the events of the batch, the acts so far, and whether they
-- were handed
pub record Handled : Type 0 where
  pub past : List Entry
  pub revision : ℕ
  pub names : List ℕ
  pub events : List Event
  pub acts : List Act
  pub handed : Bool

-- there is no act, and the entry wasn't moved out
abbrev pub IsNewHandler : Handled → Type 0
IsNewHandler h = (h.acts ≡ []) × (h.handed ≡ false)

-- what these acts ask, in order: the job, and what is asked of it
abbrev pub asks_of : List Act → List (Id × Ask)
asks_of [] = []
asks_of (Asks id ask ∷ acts) = (id, ask) ∷ asks_of acts
asks_of (Create id command ∷ acts) = asks_of acts
asks_of (Change change ∷ acts) = asks_of acts
asks_of (Quit ∷ acts) = asks_of acts
asks_of (QuitGracefully signal grace ∷ acts) = asks_of acts

-- these acts, with one behind them that creates the job of this id, where it isn't there
abbrev pub with_job : List Entry → Id → Command → List Act → List Act
with_job p id command acts = if is_there p acts id then acts else acts ++ Create id command ∷ []

-- the handler as a sink of asks: no send is counted, and none is refused for want of room
abbrev pub sink_of : Handled → Sink Handled
sink_of h = record { asks = asks_of h.acts; sends = None; fulls = 0; rest = record h { acts = [] }; place = [] }

-- what a journal lists under a name
abbrev pub lookup : List Entry → ℕ → Option (Event × Priority)
lookup p name = listed name p

-- these are the events of these names
abbrev pub AreEvents : (ℕ → Option (Event × Priority)) → List ℕ → List Event → Type 0
AreEvents look [] [] = Unit {0}
AreEvents look [] (event ∷ events) = ⊥
AreEvents look (name ∷ names) [] = ⊥
AreEvents look (name ∷ names) (event ∷ events) = ((priority : Priority) × (look name ≡ Some (event, priority))) × AreEvents look names events
