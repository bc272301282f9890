-- What is held of jobs stands for a journal.
use Rattle.std.specs.Prelude.{◌≡◌, ◌≢◌, false, Some, List, [], ◌∷◌, map}
use Rattle.std.specs.List.{AllByRecursion}
use Rattle.wx_journal.specs.declared.entry.Entry.{Entry}
use Rattle.wx_control.specs.declared.id.Id.{Id}
use Rattle.wx_machine.specs.History.{command}
use Rattle.wx_job.specs.Stands.{TaskStands, id_of, command_of, closed_of}
use Rattle.wx_machine.specs.Jobs.{set}
use Rattle.wx_hooks.specs.declared.held.Held.{Held}

-- what is held of a job: its task stands for it, runs what its creation says, and isn't closed, and the handle names both
pub record HeldStands (p : List Entry) (h : Held) : Type 0 where
  pub task_stands : TaskStands h.task p
  pub command_is : command (id_of h.task) p ≡ Some (command_of h.task)
  pub handle_is : h.handle.id ≡ id_of h.task
  pub handle_command : h.handle.command ≡ command_of h.task
  pub is_open : closed_of h.task ≡ false

abbrev pub held_id : Held → Id
held_id h = id_of h.task

-- no two of these are one
abbrev pub AreDistinct : List Id → Type 0
AreDistinct [] = Unit {0}
AreDistinct (id ∷ ids) = AllByRecursion (λ job. job ≢ id) ids × AreDistinct ids

-- what is held is of the jobs that a handler sees, in order, and stands for the journal
pub record JobsStand (p : List Entry) (held : List Held) : Type 0 where
  pub ids_are : map held_id held ≡ set p
  pub tasks_stand : AllByRecursion (HeldStands p) held
  pub ids_apart : AreDistinct (map held_id held)
