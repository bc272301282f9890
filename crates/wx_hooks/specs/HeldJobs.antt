-- The jobs that an action sees.
use Rattle.std.specs.Prelude.{◌≡◌, ℕ, Bool, false, not, nat_le, if◌then◌else◌, is_some, Option, None, Some, List, [], ◌∷◌, map}
use Rattle.std.specs.List.{filter, find, insert, position_or_len, AllByRecursion}
use Rattle.wx_control.specs.declared.id.Id.{Id}
use Rattle.wx_control.specs.declared.job.Job.{Job}
use Rattle.wx_journal.specs.declared.entry.Entry.{Entry}
use Rattle.wx_journal.specs.Names.{next_job}
use Rattle.wx_job.specs.declared.task.JobTask.{JobTask}
use Rattle.wx_machine.specs.History.{same, child, is_child, command}
use Rattle.wx_job.specs.Stands.{gone_of, running_of, parked_count}
use Rattle.wx_hooks.specs.declared.held.Held.{Held}
use Rattle.wx_machine.specs.Jobs.{set, AreRising, AreBelow}

-- a handle on the job of this id, with what the job runs
pub record IsHandle (p : List Entry) (id : Id) (job : Job) : Type 0 where
  pub names : job.id ≡ id
  pub runs : command id p ≡ Some job.command

-- these are all jobs that a handler sees, by rising id, each with a handle
pub record AreSeen (p : List Entry) (jobs : List (Id × Job)) : Type 0 where
  pub ids : map (λ job. job.0) jobs ≡ set p
  pub rising : AreRising (set p)
  pub handles : AllByRecursion (λ job. IsHandle p job.0 job.1) jobs

-- ---- what is held of them

-- what is held is of the job of this id
abbrev pub is_of : Id → Held → Bool
is_of id h = same h.handle.id id

-- its job isn't gone
abbrev pub is_here : Held → Bool
is_here h = not (gone_of h.task)

-- the ids of those whose job isn't gone, in order
abbrev pub living_ids : List Held → List Id
living_ids held = map (λ h. h.handle.id) (filter is_here held)

-- this child runs
abbrev pub runs_child : ℕ → Held → Bool
runs_child c h = is_child c (running_of h.task)

-- what is held is of a job whose child is this one, and runs
abbrev pub runs_in : ℕ → Option Held → Bool
runs_in c None = false
runs_in c (Some h) = runs_child c h

abbrev pub handle_id : Held → Id
handle_id h = h.handle.id

abbrev pub task_of : Held → JobTask
task_of h = h.task

-- the jobs, that of this id with this task
abbrev pub with_task : Id → List Held → JobTask → List Held
with_task id [] task = []
with_task id (h ∷ held) task = if is_of id h then record h { task = task } ∷ held else h ∷ with_task id held task

-- the jobs with one more, which comes before the first whose id isn't less
abbrev pub with_held : Held → List Held → List Held
with_held h held = insert held (position_or_len (λ other. nat_le h.handle.id.0 other.handle.id.0) held) h

-- the ids with the handles, in order
abbrev pub handles : List Held → List (Id × Job)
handles held = map (λ h. (h.handle.id, h.handle)) held

-- whether a job is held and isn't gone
abbrev pub is_alive : Option Held → Bool
is_alive None = false
is_alive (Some h) = is_here h

-- whether the child of a job runs
abbrev pub runs : Option Held → Bool
runs None = false
runs (Some h) = is_some (running_of h.task)

-- What is held is of the jobs that a handler sees, and says whether the child of each job runs. Their ids were given
-- before.
pub record AreShown (p : List Entry) (held : List Held) : Type 0 where
  pub seen : AreSeen p (handles held)
  pub below : AreBelow (next_job p) (set p)
  pub running : (id : Id) → runs (find (is_of id) held) ≡ is_some (child id p)

-- how many tickets are parked at the job of this id
abbrev pub parked_in : Option Held → ℕ
parked_in None = 0
parked_in (Some h) = parked_count h.task

abbrev pub parked_at : Id → List Held → ℕ
parked_at id held = parked_in (find (is_of id) held)

-- each stands under the id of its handle
abbrev pub AreUnderIds : List (Id × Held) → Type 0
AreUnderIds entries = AllByRecursion (λ e. e.0 ≡ e.1.handle.id) entries
