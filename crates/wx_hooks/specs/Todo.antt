-- What has to be done for acts.
use Rattle.std.specs.Prelude.{◌≡◌, Bool, false, Option, None, Some, List, [], ◌∷◌}
use Rattle.std.specs.List.{find}
use Rattle.wx_command.specs.declared.command.Command.{Command}
use Rattle.wx_control.specs.declared.id.Id.{Id}
use Rattle.wx_machine.specs.History.{RunsOnly}
use Rattle.wx_job.specs.Stands.{TaskStands, id_of, command_of, closed_of, gone_of}
use Rattle.wx_journal.specs.Acts.{JournalAct as Act}
use Rattle.wx_journal.specs.declared.entry.Act.TheVariants.{Create, Ask, Change, Quit, QuitGracefully}
use Rattle.wx_journal.specs.declared.entry.Entry.{Entry}
use Rattle.wx_journal.specs.declared.entry.Entry.TheVariants.{Made}
use Rattle.wx_hooks.specs.declared.handler.Todo.{Todo}
use Rattle.wx_hooks.specs.declared.handler.Todo.TheVariants as todo
use Rattle.wx_hooks.specs.declared.held.Held.{Held}
use Rattle.wx_hooks.specs.HeldJobs.{is_of}

-- This was made for a job of this id that runs this command: its handle and its task are of this job, and the task is open
-- and stands for it behind the entry that it was made, where nothing else was created.
pub record IsNew (held : Held) (id : Id) (command : Command) : Type 0 where
  pub handle_id : held.handle.id ≡ id
  pub handle_command : held.handle.command ≡ command
  pub task_id : id_of held.task ≡ id
  pub task_command : command_of held.task ≡ command
  pub is_here : gone_of held.task ≡ false
  pub is_open : closed_of held.task ≡ false
  pub stands : (p : List Entry) → RunsOnly id command p → TaskStands held.task (Made id ∷ p)

-- what has to be done for acts, in order: nothing for a quit
abbrev pub AreTodo : List Act → List Todo → Type 0
AreTodo [] [] = Unit {0}
AreTodo (Create id command ∷ acts) (todo.Create held ∷ rest) = IsNew held id command × AreTodo acts rest
AreTodo (Ask id ask ∷ acts) (todo.Ask job asked done ∷ rest) = (job ≡ id) × (asked ≡ ask) × AreTodo acts rest
AreTodo (Change change ∷ acts) (todo.Change asked ∷ rest) = (asked ≡ change) × AreTodo acts rest
AreTodo (Quit ∷ acts) rest = AreTodo acts rest
AreTodo (QuitGracefully signal grace ∷ acts) rest = AreTodo acts rest
AreTodo (_) (_) = ⊥

-- ---- the job of an id

-- this is to create the job of this id
abbrev pub is_creation : Id → Todo → Bool
is_creation id (todo.Create held) = is_of id held
is_creation id (_) = false

abbrev pub held_by : Option Todo → Option Held
held_by (Some (todo.Create held)) = Some held
held_by (_) = None

-- what is to be held of the job that is created under this id
abbrev pub created_under : Id → List Todo → Option Held
created_under id rest = held_by (find (is_creation id) rest)

abbrev pub first_of : Option Held → Option Held → Option Held
first_of None other = other
first_of (Some held) other = Some held

-- the same, or what is held of it already
abbrev pub held_under : Id → List Held → List Todo → Option Held
held_under id held rest = first_of (find (is_of id) held) (created_under id rest)
