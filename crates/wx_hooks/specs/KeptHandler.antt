-- What a handler keeps beside what contracts see of it.
use Rattle.std.specs.Prelude.{◌≡◌, ℕ, ◌+◌, ◌-◌, ◌^◌, ◌≤◌, min, if◌then◌else◌, Option, None, Some, List, [], ◌∷◌, ◌++◌, length, vec_len, vec_capacity}
use Rattle.wx_events.specs.declared.event.Event.{Event}
use Rattle.wx_journal.specs.declared.entry.Entry.{Entry}
use Rattle.wx_journal.specs.Acts.{JournalAct as Act}
use Rattle.wx_journal.specs.Names.{next_job}
use Rattle.wx_hooks.specs.declared.handler.Second.{Second}
use Rattle.wx_hooks.specs.declared.handler.Todo.{Todo}
use Rattle.wx_hooks.specs.Handled.{AreEvents, lookup}
use Rattle.wx_config.specs.Changes.{last_revision}
use Rattle.wx_machine.specs.Settings.{changes}
use Rattle.wx_machine.specs.Quits.{ends_with_quit, with_this_quit}
use Rattle.wx_hooks.specs.declared.held.Held.{Held}
use Rattle.wx_hooks.specs.HeldJobs.{AreShown}
use Rattle.wx_machine.specs.Jobs.{AreLawful, next_created}
use Rattle.wx_hooks.specs.Todo.{AreTodo}

-- the room that a quit behind these acts needs
abbrev pub quit_room : List Act → ℕ
quit_room acts = if ends_with_quit acts then 0 else 1

-- the acts that stand a second time, where they do, have room for this many more
abbrev pub HasSecondRoom : ℕ → Option Second → Type 0
HasSecondRoom n second = (twice : Second) → second ≡ Some twice → vec_len twice.acts + n ≤ vec_capacity twice.acts

-- the names and acts that stand a second time, where they do, are these, and have room for this many acts more
pub record AreTwice (names : List ℕ) (acts : List Act) (n : ℕ) (second : Option Second) : Type 0 where
  pub same_names : (twice : Second) → second ≡ Some twice → twice.names.items ≡ names
  pub same_acts : (twice : Second) → second ≡ Some twice → twice.acts.items ≡ acts
  pub room : HasSecondRoom n second

-- what stands a second time stays, and has as much room as before, or more
abbrev pub StaysTwice : Option Second → Option Second → Type 0
StaysTwice None None = Unit {0}
StaysTwice (Some old) (Some new) = (new.names.items ≡ old.names.items) × (new.acts.items ≡ old.acts.items) × (vec_len new.acts ≡ vec_len old.acts) × (vec_capacity old.acts ≤ vec_capacity new.acts)
StaysTwice (_) (_) = ⊥

-- a quit was added to what stands a second time, in the place of one that stands last there
abbrev pub QuitsTwice : Act → Option Second → Option Second → Type 0
QuitsTwice act None None = Unit {0}
QuitsTwice act (Some old) (Some new) = (new.names.items ≡ old.names.items) × (new.acts.items ≡ with_this_quit act old.acts.items) × (vec_len new.acts ≤ vec_capacity new.acts) × (vec_capacity old.acts ≤ vec_capacity new.acts)
QuitsTwice act (_) (_) = ⊥

-- where acts stand a second time there is room among them for a quit
abbrev pub HasQuitRoom : Option Second → Type 0
HasQuitRoom second = (twice : Second) → second ≡ Some twice → vec_len twice.acts + quit_room twice.acts.items ≤ vec_capacity twice.acts

-- this act was added to what stands a second time
abbrev pub AddsTwice : Act → Option Second → Option Second → Type 0
AddsTwice act None None = Unit {0}
AddsTwice act (Some old) (Some new) = (new.names.items ≡ old.names.items) × (new.acts.items ≡ old.acts.items ++ act ∷ []) × (vec_len new.acts ≡ vec_len old.acts + 1) × (vec_capacity new.acts ≡ vec_capacity old.acts)
AddsTwice act (_) (_) = ⊥

-- The jobs are those that the journal shows, and the events are those of the names. The id of the next job is kept.
-- The acts are lawful, and what has to be done is theirs. Until they are handed the names and the acts stand there twice.
-- There is room for a quit where none stands last.
pub record IsKept (past : List Entry) (held : List Held) (names : List ℕ) (events : List Event) (ids : ℕ) (acts : List Act) (act_room : ℕ) (second : Option Second) (rest : List Todo) : Type 0 where
  pub shown : AreShown past held
  pub are_events : AreEvents (lookup past) names events
  pub next : ids ≡ min (next_created (next_job past) acts) (2 ^ 32 - 1)
  pub lawful : AreLawful past acts
  pub todo : AreTodo acts rest
  pub room : length acts + quit_room acts ≤ act_room
  pub twice : AreTwice names acts (quit_room acts) second

-- the revision behind the acts is kept: it is one more for each change, and can be one
pub record IsRevisionKept (revision : ℕ) (acts : List Act) (kept : ℕ) : Type 0 where
  pub counted : kept ≡ revision + length (changes acts)
  pub fits : kept ≤ last_revision
