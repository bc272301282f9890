-- What is kept of a job stands for it in a journal.
use Rattle.std.specs.Prelude.{◌≡◌, ℕ, ◌+◌, ◌≤◌, Bool, true, false, not, if◌then◌else◌, Option, None, Some, is_some, option_map, List, ◌∷◌, length}
use Rattle.wx_command.specs.declared.command.Command.{Command}
use Rattle.wx_control.specs.declared.id.Id.{Id}
use Rattle.wx_control.specs.declared.ticket.Ticket.{Ticket}
use Rattle.wx_control.specs.Flags.{Flag}
use Rattle.wx_control.specs.Waits.{Waits, first_of, waiting_count}
use Rattle.wx_journal.specs.declared.entry.Entry.{Entry}
use Rattle.wx_journal.specs.declared.entry.Entry.TheVariants.{Turn as Turned}
use Rattle.wx_journal.specs.declared.entry.TurnKind.TheVariants.{Ended}
use Rattle.wx_journal.specs.Names.{ticket_count}
use Rattle.wx_journal.specs.Written.{Written}
use Rattle.wx_machine.specs.States.{is_finished, child_of}
use Rattle.wx_machine.specs.declared.function.Function.{Function}
use Rattle.wx_job.specs.declared.function.Begun.{Begun}
use Rattle.wx_machine.specs.declared.grace.Grace.{Grace}
use Rattle.wx_job.specs.declared.grace.Standing.{Standing}
use Rattle.wx_machine.specs.declared.state.CommandState.TheVariants.{Pending}
use Rattle.wx_job.specs.declared.task.JobTask.{JobTask}
use Rattle.wx_machine.specs.Held.{times, times_waits, times_grace, times_begun}
use Rattle.wx_machine.specs.declared.choice.Choice.{Choice}
use Rattle.wx_machine.specs.Table.{Kit, choose}
use Rattle.wx_machine.specs.History.{JobHistory, history, RunsOnly}
use Rattle.wx_machine.specs.TicketLaws.{IsPlacedOf}
use Rattle.wx_job.specs.Parkings.{Tickets}

-- what a task is of: the name of its job, and what that runs
abbrev pub id_of : JobTask → Id
id_of k = k.id

abbrev pub command_of : JobTask → Command
command_of k = k.command

-- the flag that tells that it is gone
abbrev pub flag_of : JobTask → Flag
flag_of k = k.flag

-- whether there are no more handles
abbrev pub closed_of : JobTask → Bool
closed_of k = k.closed

-- whether its job is gone, and the child that runs
abbrev pub gone_of : JobTask → Bool
gone_of k = k.gone

abbrev pub running_of : JobTask → Option ℕ
running_of k = if k.gone then None else child_of k.state

-- the grace that stands, and the tickets that are parked
abbrev pub grace_of : JobTask → Option Grace
grace_of k = option_map (λ (s : Standing). s.grace) k.grace

abbrev pub begun_of : JobTask → Option Function
begun_of k = option_map (λ (b : Begun). b.function) k.begun

abbrev pub parked_of : JobTask → List ℕ
parked_of k = k.parked.tickets

abbrev pub parked_count : JobTask → ℕ
parked_count k = length (parked_of k)

-- what it keeps of the history of its job
abbrev pub history_of : JobTask → JobHistory
history_of k = record {
  lives = not k.gone;
  urgent = k.waiting.urgent;
  high = k.waiting.high;
  normal = k.waiting.normal;
  child = running_of k;
  kept = k.kept;
  state = k.state;
  previous = k.previous;
  hook = k.hook;
  handler = k.handler;
  tag = k.tag;
  begun = begun_of k;
  grace = grace_of k;
  parked = parked_of k;
}

-- how often a ticket is held by these
abbrev pub held_by : ℕ → Waits → List ℕ → Option Grace → Option Function → ℕ
held_by ticket waiting parked standing function = times_waits ticket waiting + times ticket parked + times_grace ticket standing + times_begun ticket function

-- how often a task holds a ticket
abbrev pub holds : ℕ → JobTask → ℕ
holds ticket k = held_by ticket k.waiting (parked_of k) (grace_of k) (begun_of k)

-- there is room to park what waits, and no ticket is held twice, and none of this name or a later one
pub record AreHeldApart (waiting : Waits) (parking : Tickets) (standing : Option Grace) (function : Option Function) (n : ℕ) : Type 0 where
  pub room : waiting_count waiting ≤ parking.spare
  pub once : (ticket : ℕ) → held_by ticket waiting parking.tickets standing function ≤ 1
  pub named : (ticket : ℕ) → n ≤ ticket → held_by ticket waiting parking.tickets standing function ≡ 0

-- the task keeps what the journal says of its job, has room to park what waits, and holds no ticket twice, and none that isn't named yet
pub record TaskKeeps (k : JobTask) (p : List Entry) : Type 0 where
  pub history_kept : history_of k ≡ history k.id p
  pub tickets_held : AreHeldApart k.waiting k.parked (grace_of k) (begun_of k) (ticket_count p)
  pub runs_kept : RunsOnly k.id k.command p

-- It stands for its job: it keeps that, and the tickets of the job are placed: so those of its grace and of its begun function are in
-- hand.
pub record TaskStands (k : JobTask) (p : List Entry) : Type 0 where
  pub keeps : TaskKeeps k p
  pub placed : IsPlacedOf k.id p

-- two tasks of one job
pub record SameJob (k k' : JobTask) : Type 0 where
  pub same_id : id_of k' ≡ id_of k
  pub same_command : command_of k' ≡ command_of k
  pub same_flag : flag_of k' ≡ flag_of k
  pub same_closed : closed_of k' ≡ closed_of k

-- What a ticket holds that was given of a task, over this flag where one was handed in: copies of the flag of the job and of the
-- one that was handed in, and where the job is gone the former twice.
abbrev pub IsDoneBy : Bool → Flag → Option Flag → Flag → Type 0
IsDoneBy true gone last done = done ≡ gone
IsDoneBy false gone None done = Unit {0}
IsDoneBy false gone (Some flag) done = done ≡ flag

pub record IsTicketOf (k : JobTask) (last : Option Flag) (ticket : Ticket) : Type 0 where
  pub gone : ticket.gone ≡ flag_of k
  pub done : IsDoneBy (gone_of k) (flag_of k) last ticket.done

-- nothing was done to the task, the journal and the host
pub record Undone {Host : Type 0} (k : JobTask) (j : Written) (h : Host) (k' : JobTask) (j' : Written) (h' : Host) : Type 0 where
  pub task : k' ≡ k
  pub journal : j' ≡ j
  pub host : h' ≡ h

-- A step that answers want of memory: nothing was done, also to the hooks, or the case was given up behind a call of a hook,
-- and the state is Pending.
pub data StepFails {Host Hooks : Type 0} (k : JobTask) (j : Written) (h : Host) (x : Hooks) (k' : JobTask) (j' : Written) (h' : Host) (x' : Hooks) (GaveUp : Type 0) : Type 0 where
  AllAsBefore : Undone k j h k' j' h' → x' ≡ x → StepFails k j h x k' j' h' x' GaveUp
  BehindHook : k'.state ≡ Pending → GaveUp → StepFails k j h x k' j' h' x' GaveUp

-- the task with what a spawn may change as it is in this one
abbrev pub spawned : JobTask → JobTask → JobTask
spawned k k' = record k { state = k'.state; previous = k'.previous; kept = k'.kept }

-- all that a task keeps is the same, but for the room for controls and for parked tickets
pub record SameTask (k k' : JobTask) : Type 0 where
  pub fields : k' ≡ record k { waiting = k'.waiting; parked = k'.parked }
  pub parked : k'.parked.tickets ≡ k.parked.tickets
  pub waiting : k'.waiting ≡ record k.waiting { spare = k'.waiting.spare }

-- the task with the end of its child kept
abbrev pub with_end : JobTask → JobTask
with_end k = record k { kept = true }

-- the task once there are no more handles
abbrev pub with_close : JobTask → JobTask
with_close k = record k { closed = true }

-- the journal's last entry is a turn that told the end of this child, and the task stands for the journal without it
pub record IsEnding (k : JobTask) (c at : ℕ) (p : List Entry) : Type 0 where
  pub before : List Entry
  pub last : p ≡ Turned (record { at = at; kind = Ended c }) ∷ before
  pub stands : TaskStands k before

-- what its cases go by
abbrev pub kit_of : JobTask → Kit
kit_of k = record { command = k.command; hook = k.hook; handler = k.handler; tag = k.tag; finished = is_finished k.state; grace = grace_of k; parked = parked_of k }

-- what a step of the task picks at this moment
abbrev pub choice_of : JobTask → ℕ → Choice
choice_of k at = choose k.closed (begun_of k) (running_of k) (grace_of k) at k.kept (first_of (is_some (grace_of k)) k.waiting)
