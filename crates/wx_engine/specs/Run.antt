-- What a run of the engine told of its turns, why it ended early, and what its journal is.
use Rattle.std.specs.Prelude.{◌≡◌, ◌≤◌, ◌+◌, ◌-◌, ◌^◌, ◌⊎◌, ℕ, None, Some, Option, Ok, Err, List, [], ◌∷◌, codes}
use Rattle.wx_journal.specs.declared.entry.Entry.{Entry}
use Rattle.wx_journal.specs.declared.entry.Entry.TheVariants.{Show}
use Rattle.wx_journal.specs.Names.{moment}
use Rattle.wx_journal.specs.Told.{tells, anywhere, is_turn, is_world, is_hooks, Rose}
use Rattle.wx_journal.specs.Written.{Written}
use Rattle.wx_machine.specs.Seen.{Seen, Hooked}
use Rattle.wx_machine.specs.Progress.{Progress}
use Rattle.wx_machine.specs.Faults.{Counted, CountsOn}
use Rattle.wx_error.specs.declared.error.CriticalError.{CriticalError}
use Rattle.wx_error.specs.declared.error.CriticalError.TheVariants.{Exit, IoError, FsWatcherInit}
use Rattle.wx_machine.specs.Start.{Start}
use Rattle.wx_worker.specs.declared.worker_state.Worker.{Worker}
use Rattle.wx_machine.specs.Journal.{ending, turn_count, early_count, turn_fault}
use Rattle.wx_machine.specs.Due.{agenda, Open, Ends, IsRun}
use Rattle.wx_machine.specs.Kept.{KeepsOn}
use Rattle.wx_machine.specs.Steady.{StaysLooked}
use Rattle.wx_machine.specs.Steps.{step_count, work_count}
use Rattle.wx_machine.specs.Turns.{StaysInTurn}
use Rattle.wx_machine.specs.RunLaws.{IsBatched, AreBatches, NoneUrgentWaits, MomentsRise}
use Rattle.wx_machine.specs.Leads.{Follows}
use Rattle.wx_worker.specs.Stands.{Stands, HasEndRoom}
use Rattle.wx_scan.specs.declared.backend.Backend.{Ghosts}
use Rattle.wx_file_turns.specs.declared.files.Files.{Files}
use Rattle.wx_file_turns.specs.Standing.{FilesStand}
use Rattle.wx_machine.specs.Answer.{IsComplete, IsBroken, AtAnyPlace, BreaksOff}
use Rattle.wx_journal.specs.Lines.{Answer}

-- where the world told the turns of the one journal it then tells those of the other
abbrev pub TellsTurns : List Entry → Option (List Entry) → List Entry → Option (List Entry) → Type 0
TellsTurns p told p' told' = (before : Option (List Entry)) → told ≡ tells (anywhere is_turn) p before → told' ≡ tells (anywhere is_turn) p' before

-- the newest entry is an error that was shown, and the error handler wished that the run ends with this one
abbrev pub EndsByWish : CriticalError → List Entry → Type 0
EndsByWish error (Show n shown wish ∷ p) = ending shown wish ≡ Some error
EndsByWish error (_) = ⊥

-- An error about a turn comes only where the count of turn faults rose, and one about what watches files only where the count of the
-- faults of its maker rose, or where the error handler wished it. An exit never comes. Of any other error the journal has the cause.
abbrev pub HasCause : Start → List Entry → CriticalError → Progress → Progress → Type 0
HasCause s p (IoError about err) old new = Rose old.turn_faults new.turn_faults ⊎ IsBroken (EndsByWish (IoError about err)) s p
HasCause s p (FsWatcherInit watcher err) old new = Rose old.maker_faults new.maker_faults ⊎ IsBroken (EndsByWish (FsWatcherInit watcher err)) s p
HasCause s p Exit old new = ⊥
HasCause s p (_) old new = Unit {0}

-- the same before the end
abbrev pub HasTurnCause : List Entry → CriticalError → Progress → Progress → Type 0
HasTurnCause p (IoError about err) old new = Rose old.turn_faults new.turn_faults ⊎ EndsByWish (IoError about err) p
HasTurnCause p (FsWatcherInit watcher err) old new = Rose old.maker_faults new.maker_faults ⊎ EndsByWish (FsWatcherInit watcher err) p
HasTurnCause p (_) old new = Unit {0}

-- the fault of a turn is that error
abbrev pub TurnFailed : Start → List Entry → CriticalError → Type 0
TurnFailed s p (IoError about err) = (agenda s p ≡ Ends) × (about ≡ codes "turn") × (turn_fault p ≡ Some err)
TurnFailed s p (_) = ⊥

-- Turns are served until the end is owed, with the fault of a turn where that is the error, or until the run breaks off.
abbrev pub Stops : Start → List Entry → Answer → Type 0
Stops s p (Ok u) = (agenda s p ≡ Ends) × (turn_fault p ≡ None)
Stops s p (Err error) = TurnFailed s p error ⊎ BreaksOff s p error

-- a run whose end is done, or one that was cut, with its end behind it
abbrev pub Ran : Start → List Entry → Type 0
Ran s p = IsComplete s p ⊎ IsBroken AtAnyPlace s p

-- ---- turns, one after another

-- A worker rests: it stands for the journal, the room for the end of all jobs is there, and moments never fell.
pub record Rests {Plan : Type 0} (s : Start) (w : Worker) (j : Written) (a : Seen Plan) : Type 0 where
  pub stands : Stands s w j.past
  pub room : HasEndRoom w j.spare a.spare
  pub rise : MomentsRise j.past

-- it rests where a turn may come: nothing is due, no turn failed, and what is kept of what is watched stands for the journal too
pub record IsBetween {Plan B : Type 0} {G : Ghosts B} (s : Start) (w : Worker) (f : Files B G) (j : Written) (a : Seen Plan) : Type 0 where
  pub rests : Rests s w j a
  pub run : IsRun s j.past
  pub files : FilesStand s f j.past
  pub open_is : agenda s j.past ≡ Open
  pub fault : turn_fault j.past ≡ None
  pub now : moment j.past ≤ a.progress.moment

-- What a turn leaves of a world that gave it: its plan, where it is in its turns, where the object lies that is lent to it, and what
-- was seen of files.
pub record StaysInPlace {Plan : Type 0} (a b : Seen Plan) : Type 0 where
  pub plan_kept : b.plan ≡ a.plan
  pub progress_kept : b.progress ≡ record a.progress { maker_faults = b.progress.maker_faults }
  pub place_kept : b.place ≡ a.place
  pub looked_kept : StaysLooked a.looked b.looked

-- A turn was served: the worker stands for the longer journal, each entry was due, and told by just the one that it is a call on, none
-- of them is a turn, and each fault of a child raised the count. The hooks keep what each call promises, and the room for the end of
-- all jobs is kept where it was there.
pub record ServesTurn {K Fixed Plan : Type 0} (seen : K → Hooked Fixed) (rule : Fixed → List Entry → Entry → Type 0) (holds : K → List Entry → Type 0) (s : Start) (w : Worker) (j : Written) (a : Seen Plan) (x : K) (w' : Worker) (j' : Written) (b : Seen Plan) (x' : K) : Type 0 where
  pub stands : Stands s w' j'.past
  pub follows : Follows s j.past a.shown.told (seen x).told j'.past b.shown.told (seen x').told
  pub turns : StaysInTurn j.past j'.past
  pub counts : CountsOn j.past a.shown.faults j'.past b.shown.faults
  pub steady : StaysInPlace a b
  pub keeps : KeepsOn seen rule holds x j.past x' j'.past
  pub room : HasEndRoom w j.spare a.spare → HasEndRoom w' j'.spare b.spare

-- Turns were asked for and served: each entry was due, and told by just the one that it is a call on; each fault of a child
-- raised the count. At most one turn more came than were left, and it is a last one.
pub record ServesTurns {Plan : Type 0} (s : Start) (p : List Entry) (a : Seen Plan) (hooks : Option (List Entry)) (p' : List Entry) (b : Seen Plan) (hooks' : Option (List Entry)) : Type 0 where
  pub follows : Follows s p a.shown.told hooks p' b.shown.told hooks'
  pub turns : TellsTurns p a.progress.turns p' b.progress.turns
  pub counts : CountsOn p a.shown.faults p' b.shown.faults
  pub count : turn_count p' ≤ turn_count p + a.progress.left + 1
  pub early : early_count p' ≤ early_count p + a.progress.left
  pub plan_kept : b.plan ≡ a.plan
  pub place_kept : b.place ≡ a.place

-- ---- a whole run

-- There were at most as many steps as looks in this call, and entries that bring work; or the count of looks stands at the end of its
-- range.
abbrev pub AreFewSteps : List Entry → ℕ → ℕ → Type 0
AreFewSteps p old new = (step_count p ≤ (new - old) + work_count p) ⊎ (2 ^ 64 - 1 ≤ new)

-- The journal lists what was told, and each fault of a child raised the count. At most one turn more came than were left, and
-- it is a last one. There were few steps.
pub record Lists {Plan : Type 0} (p : List Entry) (a : Seen Plan) (hooks : Option (List Entry)) (b : Seen Plan) (hooks' : Option (List Entry)) : Type 0 where
  pub world_told : b.shown.told ≡ tells is_world p a.shown.told
  pub hooks_told : hooks' ≡ tells (anywhere is_hooks) p hooks
  pub turns_told : b.progress.turns ≡ tells (anywhere is_turn) p a.progress.turns
  pub count : turn_count p ≤ a.progress.left + 1
  pub early : early_count p ≤ a.progress.left
  pub host_faults : Counted [] a.shown.faults p b.shown.faults
  pub steps : AreFewSteps p a.looked.looks b.looked.looks

-- the laws of runs
pub record HasLaws (s : Start) (p : List Entry) : Type 0 where
  pub batched : IsBatched p
  pub batches : AreBatches s p
  pub calm : NoneUrgentWaits p
  pub rise : MomentsRise p
