-- A worker stands for a journal.
use Rattle.std.specs.Prelude.{◌≡◌, ◌<◌, ◌≤◌, ◌⊎◌, ℕ, ◌+◌, ◌*◌, ◌==◌, Bool, true, false, None, Some, is_some, Result, Ok, Err, List, [], ◌∷◌, ◌++◌, length, map}
use Rattle.std.specs.List.{AllByRecursion}
use Rattle.wx_events.specs.declared.priority.Priority.{Priority}
use Rattle.prio_channel.specs.Channel.{Channel}
use Rattle.prio_channel.specs.SameBag.{SameBag}
use Rattle.wx_journal.specs.declared.entry.Entry.{Entry}
use Rattle.wx_journal.specs.declared.entry.Entry.TheVariants.{Turn as Turned, Word as Said, Take, Filter, Show}
use Rattle.wx_journal.specs.declared.entry.Named.{Named}
use Rattle.wx_journal.specs.declared.entry.Offered.{Offered}
use Rattle.wx_journal.specs.declared.entry.Offered.TheVariants.{Queued, Full, Closed}
use Rattle.wx_journal.specs.declared.entry.TurnKind.{TurnKind}
use Rattle.wx_journal.specs.declared.entry.TurnKind.TheVariants.{Work}
use Rattle.wx_journal.specs.declared.entry.Word.TheVariants.{Idle, Quitting}
use Rattle.wx_journal.specs.Names.{event_count, moment, NamesItsOwn}
use Rattle.wx_journal.specs.Written.{Written}
use Rattle.wx_error.specs.declared.runtime.RuntimeError.{RuntimeError}
use Rattle.wx_error.specs.declared.runtime.RuntimeError.TheVariants.{Exit}
use Rattle.wx_text.specs.declared.list.Memory.{Memory as NoMemory}
use Rattle.wx_journal.specs.declared.wish.Wish.{Wish}
use Rattle.wx_control.specs.declared.id.Id.{Id}
use Rattle.wx_command.specs.declared.command.Command.{Command}
use Rattle.wx_machine.specs.History.{lives, command}
use Rattle.wx_machine.specs.Seen.{Seen}
use Rattle.wx_machine.specs.Table.{step_plan}
use Rattle.wx_machine.specs.Jobs.{set, UnseenRunNone}
use Rattle.wx_worker.specs.declared.worker_state.Worker.{Worker}
use Rattle.wx_worker.specs.declared.collecting.Collected.{Collected}
use Rattle.wx_worker.specs.declared.collecting.Collected.TheVariants as collected
use Rattle.wx_worker.specs.declared.collecting.Found.{Found}
use Rattle.wx_worker.specs.declared.collecting.Found.TheVariants as found
use Rattle.wx_worker.specs.declared.collecting.Worked.{Worked}
use Rattle.wx_worker.specs.declared.collecting.Worked.TheVariants as worked
use Rattle.wx_machine.specs.Start.{Start}
use Rattle.wx_machine.specs.Keyboard.{has_ended}
use Rattle.wx_machine.specs.Settings.{settings}
use Rattle.wx_machine.specs.Quits.{graceful}
use Rattle.wx_machine.specs.Journal.{passes_unseen, closed, named, bag, window, first, is_over}
use Rattle.wx_machine.specs.Due.{Shows, Hands, Agenda, Open, Comes, Ends, plans, is_quitting, agenda}
use Rattle.wx_hooks.specs.Handled.{AreEvents, lookup}
use Rattle.wx_hooks.specs.JobsStand.{HeldStands, held_id}

-- It keeps what the journal says, for this start. The journal names what its own entries made, and no child runs of a job that
-- isn't held.
pub record Stands (s : Start) (w : Worker) (p : List Entry) : Type 0 where
  pub own : NamesItsOwn p
  pub config_kept : w.config ≡ settings s p
  pub queue_kept : SameBag w.queue.items (bag p)
  pub size_kept : w.queue.size ≡ (settings s p).event_channel_size
  pub closed_kept : w.queue.closed ≡ closed p
  pub named_kept : w.named ≡ event_count p
  pub names_kept : w.batch.names ≡ window p
  pub events_kept : AreEvents (lookup p) (window p) w.batch.events
  pub first_kept : w.first ≡ first p
  pub jobs_kept : map held_id w.jobs ≡ set p
  pub tasks_kept : AllByRecursion (HeldStands p) w.jobs
  pub idle_kept : UnseenRunNone p
  pub graceful_kept : w.graceful ≡ graceful p
  pub ended_kept : w.ended ≡ has_ended s p

-- the end of all jobs takes this room, and it is there
abbrev pub end_room : Worker → ℕ
end_room w = 2 * length w.jobs

-- there is room for the end of all jobs in the journal and in the world
pub record HasEndRoom (w : Worker) (journal host : ℕ) : Type 0 where
  pub in_journal : end_room w ≤ journal
  pub in_host : end_room w ≤ host

-- the worker stands for the journal, and the room for the end of all jobs is there
pub record Ready {Plan : Type 0} (s : Start) (w : Worker) (j : Written) (a : Seen Plan) : Type 0 where
  pub stands : Stands s w j.past
  pub room : HasEndRoom w j.spare a.spare

-- the worker stands for the journal, and this is due
pub record Owes (s : Start) (w : Worker) (p : List Entry) (k : Agenda) : Type 0 where
  pub stands : Stands s w p
  pub due : agenda s p ≡ k

-- the same in a turn of this moment, in which the end wasn't asked for
pub record OwesAt (s : Start) (w : Worker) (at : ℕ) (p : List Entry) (k : Agenda) : Type 0 where
  pub stands : Stands s w p
  pub due : agenda s p ≡ k
  pub now : moment p ≡ at
  pub going : is_quitting p ≡ false

-- the window is due, and isn't empty
pub record OwesHand (s : Start) (p : List Entry) : Type 0 where
  pub due : agenda s p ≡ Comes Hands Open
  pub some : 0 < length (window p)

-- the journal's last entry is a turn of this moment and kind, before which nothing was owed, and the worker stands for it without
-- that turn
pub record AtTurn (s : Start) (w : Worker) (at : ℕ) (kind : TurnKind) (p : List Entry) : Type 0 where
  pub before : List Entry
  pub last : p ≡ Turned (record { at = at; kind = kind }) ∷ before
  pub stands : Stands s w before
  pub open_is : agenda s before ≡ Open

abbrev pub AtWork : Start → Worker → ℕ → List Entry → Type 0
AtWork s w at p = AtTurn s w at Work p

-- a step of the job of this id is owed, at this moment, and then nothing: the job lives, and runs this
pub record IsStepOf (s : Start) (id : Id) (at : ℕ) (p : List Entry) : Type 0 where
  pub what : Command
  pub alive : lives id p ≡ true
  pub runs : command id p ≡ Some what
  pub due : agenda s p ≡ plans (step_plan id what p) Open
  pub going : is_quitting p ≡ false
  pub now : moment p ≡ at

-- a queue took an item, or was full, or closed
abbrev pub IsOffered : Channel Named → Named × Priority → Channel Named → Offered → Type 0
IsOffered old item new Queued = SameBag new.items (old.items ++ item ∷ []) × ((length old.items == old.size) ≡ false) × (old.closed ≡ false)
IsOffered old item new Full = (new.items ≡ old.items) × ((length old.items == old.size) ≡ true) × (old.closed ≡ false)
IsOffered old item new Closed = (new.items ≡ old.items) × (old.closed ≡ true)

-- an error was shown behind these entries, or none was
abbrev pub MayShow : List Entry → List Entry → Type 0
MayShow p p' = (p' ≡ p) ⊎ ((n : ℕ) × (error : RuntimeError) × (wish : Wish) × (p' ≡ Show n error wish ∷ p))

-- what the taking of an event adds: its Take, and where it doesn't pass unseen its Filter behind that, and maybe the error of
-- that
abbrev pub AddsTake : Bool → ℕ → List Entry → List Entry → Type 0
AddsTake true name p p' = p' ≡ Take name ∷ p
AddsTake false name p p' = (n : ℕ) × (answer : Result Bool RuntimeError) × MayShow (Filter n name answer ∷ Take name ∷ p) p'

-- an event was taken: it was in the bag, and is there no more
pub record HasTaken (name : ℕ) (p p' : List Entry) : Type 0 where
  pub taken : AddsTake (passes_unseen name p) name p p'
  pub was : is_some (named name (bag p)) ≡ true
  pub left : named name (bag p') ≡ None

-- one was taken and passed: it stands last in the window
pub record HasPassed (p p' : List Entry) : Type 0 where
  pub name : ℕ
  pub taken : HasTaken name p p'
  pub joined : window p' ≡ window p ++ name ∷ []

-- one was taken and didn't pass: the window is as it was
pub record HasDropped (p p' : List Entry) : Type 0 where
  pub name : ℕ
  pub taken : HasTaken name p p'
  pub stays : window p' ≡ window p

-- one was taken and shown to the filter, which failed: its error wasn't shown yet, and the window is as it was
pub record HasFailed (p p' : List Entry) : Type 0 where
  pub name : ℕ
  pub n : ℕ
  pub answer : Result Bool RuntimeError
  pub seen : passes_unseen name p ≡ false
  pub shown : p' ≡ Filter n name answer ∷ Take name ∷ p
  pub was : is_some (named name (bag p)) ≡ true
  pub left : named name (bag p') ≡ None
  pub stays : window p' ≡ window p

-- no graceful quit was asked for, the queue was closed, and nothing was done
pub record HasStopped (p p' : List Entry) : Type 0 where
  pub going : graceful p ≡ false
  pub is_closed : closed p ≡ true
  pub same : p' ≡ p

-- no graceful quit was asked for, the window isn't due, and there was nothing to take
pub record HasNone (s : Start) (p p' : List Entry) : Type 0 where
  pub going : graceful p ≡ false
  pub early : is_over s p (moment p) ≡ false
  pub none : bag p ≡ []
  pub said : p' ≡ Said Idle ∷ p

-- a graceful quit was asked for, and the turn says so
pub record SaysQuitting (p p' : List Entry) : Type 0 where
  pub asked : graceful p ≡ true
  pub said : p' ≡ Said Quitting ∷ p

-- What a Work turn collected: the end is due, since the queue was closed; the window is due; or neither is, and there was
-- nothing to take, or a graceful quit was asked for, or an event passed, which waits, or didn't pass.
abbrev pub Collects : Start → List Entry → Collected → List Entry → Type 0
Collects s p collected.Stop p' = HasStopped p p' × (agenda s p' ≡ Ends)
Collects s p collected.Hand p' = OwesHand s p'
Collects s p collected.Idle p' = (HasNone s p p' ⊎ SaysQuitting p p') × (agenda s p' ≡ Open)
Collects s p collected.Kept p' = HasPassed p p' × (agenda s p' ≡ Open)
Collects s p collected.Dropped p' = HasDropped p p' × (agenda s p' ≡ Open)

-- the error of a filter is to be shown, or there was no memory for a copy of it
abbrev pub IsToShow : Start → Result RuntimeError NoMemory → List Entry → Type 0
IsToShow s (Ok error) p = agenda s p ≡ Comes (Shows error) Open
IsToShow s (Err want) p = (error : RuntimeError) × (agenda s p ≡ Comes (Shows error) Open)

-- what becomes of an event that a filter answered so about, and didn't let pass
abbrev pub FoundFailed : RuntimeError → Found → Type 0
FoundFailed error (found.Failed (Ok copy)) = copy ≡ error
FoundFailed error (found.Failed (Err want)) = Unit {0}
FoundFailed error (_) = ⊥

abbrev pub IsDropped : Result Bool RuntimeError → Found → Type 0
IsDropped (Ok passes) f = f ≡ found.Done collected.Dropped
IsDropped (Err Exit) f = f ≡ found.Done collected.Dropped
IsDropped (Err error) f = FoundFailed error f

-- beside what the end takes there is room for the entry of an error that is to be shown
abbrev pub LeavesRoom : Found → ℕ → ℕ → ℕ → Type 0
LeavesRoom (found.Failed error) ends journal hooks = (1 + ends ≤ journal) × (1 ≤ hooks)
LeavesRoom (_) ends journal hooks = Unit {0}

-- The same before the error of a filter is shown: then this is due.
abbrev pub Finds : Start → List Entry → Found → List Entry → Type 0
Finds s p (found.Done c) p' = Collects s p c p'
Finds s p (found.Failed error) p' = HasFailed p p' × IsToShow s error p'

-- What became of an event that was shown to the filter, behind its Filter: the window is due with it, or it waits there, or
-- it was dropped, and maybe the error of the filter is to be shown.
abbrev pub Judges : Start → List Entry → ℕ → Found → List Entry → Type 0
Judges s p name (found.Done collected.Hand) p' = OwesHand s p'
Judges s p name (found.Done collected.Kept) p' = (window p' ≡ window p ++ name ∷ []) × (agenda s p' ≡ Open)
Judges s p name (found.Done collected.Dropped) p' = (window p' ≡ window p) × (agenda s p' ≡ Open)
Judges s p name (found.Failed error) p' = (window p' ≡ window p) × IsToShow s error p'
Judges s p name (found.Done collected.Stop) p' = ⊥
Judges s p name (found.Done collected.Idle) p' = ⊥

pub record IsJudged (s : Start) (p : List Entry) (name : ℕ) (found : Found) (p' : List Entry) : Type 0 where
  pub n : ℕ
  pub answer : Result Bool RuntimeError
  pub shown : p' ≡ Filter n name answer ∷ p
  pub judged : Judges s p name found p'

-- what a turn did that collected this and handed nothing
abbrev pub without_hand : Collected → Worked
without_hand collected.Stop = worked.End
without_hand (_) = worked.On

-- whether the run goes on
abbrev pub Works : Start → Worked → List Entry → Type 0
Works s worked.On p' = agenda s p' ≡ Open
Works s worked.End p' = agenda s p' ≡ Ends
