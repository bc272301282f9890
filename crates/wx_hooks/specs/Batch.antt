-- What contracts see of the events that wait to be handed.
use Rattle.std.specs.Prelude.{◌≡◌, ℕ, ◌<◌, ◌≤◌, List, [], length}
use Rattle.wx_events.specs.declared.event.Event.{Event}
use Rattle.wx_journal.specs.Acts.{JournalAct as Act}

-- their names and events, and for how many more there is room, capped by the room for acts
pub record Waiting : Type 0 where
  pub names : List ℕ
  pub events : List Event
  pub room : ℕ

-- The names stand there twice, and no act does. Where an event waits there is room for this many acts, at least one.
pub record IsBatch (names second_names : List ℕ) (acts second_acts : List Act) (act_room : ℕ) : Type 0 where
  pub same : second_names ≡ names
  pub none : acts ≡ []
  pub none_twice : second_acts ≡ []
  pub ready : 0 < length names → 1 ≤ act_room
