-- What a step of a job owes: the table of cases.
use Rattle.std.specs.Prelude.{ℕ, Bool, true, false, nat_le, not, if◌then◌else◌, ℤ, pos, Option, None, Some, is_some, is_none, List, [], ◌∷◌}
use Rattle.wx_events.specs.declared.process.Signal.{Signal as ASignal}
use Rattle.wx_events.specs.Natives.{native}
use Rattle.wx_command.specs.declared.command.Command.{Command}
use Rattle.wx_command.specs.declared.spawnable.Spawnable.{Spawnable}
use Rattle.wx_command.specs.Spawnables.{spawnable_of}
use Rattle.wx_control.specs.declared.id.Id.{Id}
use Rattle.wx_control.specs.declared.control.Control.{Control}
use Rattle.wx_control.specs.declared.control.Control.TheVariants.{Start, Stop, GracefulStop, TryRestart, TryGracefulRestart, ContinueTryGracefulRestart, Signal, Delete, NextEnding, SyncFunc, AsyncFunc, SetSyncSpawnHook, UnsetSpawnHook, SetSyncErrorHandler, UnsetErrorHandler, SetSpawnFn, SetSpawnChildFn, ClearSpawnFn}
use Rattle.wx_control.specs.declared.level.Level.{Level}
use Rattle.wx_control.specs.declared.level.Level.TheVariants.{Normal, High, Urgent}
use Rattle.wx_control.specs.declared.ask.Sends.{Sends}
use Rattle.wx_control.specs.Waits.{first}
use Rattle.wx_journal.specs.declared.child.SpawnTag.{SpawnTag}
use Rattle.wx_journal.specs.declared.entry.Entry.{Entry}
use Rattle.wx_journal.specs.declared.entry.Entry.TheVariants.{Word as Said, Pick, GraceOver, Dropped, Raise, Gone, Run, Begun}
use Rattle.wx_journal.specs.declared.entry.Word.TheVariants.{Idle as TheIdle, Later as TheLater}
use Rattle.wx_journal.specs.Names.{moment}
use Rattle.wx_machine.specs.declared.function.Function.{Function}
use Rattle.wx_machine.specs.declared.grace.Grace.{Grace}
use Rattle.wx_machine.specs.declared.choice.Choice.{Choice}
use Rattle.wx_machine.specs.declared.choice.Choice.TheVariants.{Poll, Over, End, Next, Leave, Nothing}
use Rattle.wx_machine.specs.declared.choice.Stepped.{Stepped}
use Rattle.wx_machine.specs.declared.choice.Stepped.TheVariants.{Did, Idle, Later, Gone as IsGone}
use Rattle.wx_machine.specs.declared.state.CommandState.{CommandState}
use Rattle.wx_machine.specs.States.{is_finished}
use Rattle.wx_machine.specs.History.{lives, waits, child, kept, state, grace, parked, begun, set_hook, set_handler, set_tag, hook, handler, tag}

-- what is spawned: this, or what the hook left that was called just before
pub data Words : Type 0 where
  Given : Spawnable → Words
  Left : Words

-- What brings one entry, whose answer is free where it has one. A spawn and an ask give the next name of the journal.
pub data Call : Type 0 where
  -- just this entry
  Adds : Entry → Call
  -- a child is spawned, sent the signal of this number, killed, waited for
  Spawns : Id → SpawnTag → Words → Call
  Signals : ℕ → ℤ → Call
  Kills : ℕ → Call
  Waits : ℕ → Call
  -- a control is asked
  Asks : Id → Level → Control → Call
  -- the spawn hook of this number is called before a spawn
  Hooks : Id → ℕ → Call
  -- the begun function of this number is polled
  Polls : Id → ℕ → Call
  -- the fault that the newest entry holds is shown to the error handler of this number
  ShowsFault : Id → ℕ → Call

-- The entries that are still to come. Each has behind it what comes then, first where it holds no fault and then where it
-- does. A hook that had no memory counts as a fault here, and so does a poll of a function that isn't ready.
pub data Plan : Type 0 where
  -- nothing is owed
  Done : Plan
  -- the case was given up: nothing may come, and it isn't done
  GivenUp : Plan
  Owes : Call → Plan → Plan → Plan

-- an entry that holds no fault, and what comes then
abbrev pub adds : Entry → Plan → Plan
adds e k = Owes (Adds e) k Done

abbrev pub asks : Id → Level → Control → Plan → Plan
asks id level control k = Owes (Asks id level control) k Done

-- the last entry of the case of a control
abbrev pub raises : ℕ → Plan
raises ticket = adds (Raise ticket) Done

-- a fault is shown to the error handler, where one is set
abbrev pub shows : Id → Option ℕ → Plan → Plan
shows id None k = k
shows id (Some n) k = Owes (ShowsFault id n) k Done

-- a call on a child, and what comes then; where it fails the fault is shown, and then comes the other
abbrev pub tries : Id → Option ℕ → Call → Plan → Plan → Plan
tries id handler call k failed = Owes call k (shows id handler failed)

-- reap the child: kill it, then wait for it; where either fails the ticket is raised and nothing else is done
abbrev pub reap : Id → Option ℕ → ℕ → ℕ → Plan → Plan
reap id handler c ticket k = tries id handler (Kills c) (tries id handler (Waits c) k (raises ticket)) (raises ticket)

-- What the cases of a job go by: its command, the spawn hook and the error handler that are set, and what spawns; whether its
-- child has ended, the grace that stands, and the tickets that are parked.
pub record Kit : Type 0 where
  pub command : Command
  pub hook : Option ℕ
  pub handler : Option ℕ
  pub tag : SpawnTag
  pub finished : Bool
  pub grace : Option Grace
  pub parked : List ℕ

abbrev pub kit : Id → Command → List Entry → Kit
kit id command p = record { command = command; hook = hook id p; handler = handler id p; tag = tag id p; finished = is_finished (state id p); grace = grace id p; parked = parked id p }

-- the same once this control is picked
abbrev pub kit_after : Control → Kit → Kit
kit_after control by = record by { hook = set_hook (Some control) by.hook; handler = set_handler (Some control) by.handler; tag = set_tag (Some control) by.tag }

-- spawn a child, whatever comes of it
abbrev pub spawn : Id → Option ℕ → SpawnTag → Words → Plan → Plan
spawn id handler by words k = tries id handler (Spawns id by words) k k

-- spawn a fresh child: the hook is called first, where one is set, and where it has no memory the case is given up
abbrev pub fresh_by : Id → Command → Option ℕ → SpawnTag → Option ℕ → Plan → Plan
fresh_by id command handler by None k = spawn id handler by (Given (spawnable_of command)) k
fresh_by id command handler by (Some n) k = Owes (Hooks id n) (spawn id handler by Left k) GivenUp

abbrev pub fresh : Id → Kit → Plan → Plan
fresh id by k = fresh_by id by.command by.handler by.tag by.hook k

-- each of these tickets is raised, in order
abbrev pub waiters : List ℕ → Plan → Plan
waiters [] k = k
waiters (t ∷ ts) k = adds (Raise t) (waiters ts k)

-- the ticket of a grace is raised
abbrev pub raise_grace : Option Grace → Plan → Plan
raise_grace None k = k
raise_grace (Some g) k = adds (Raise g.ticket) k

-- the number that is sent for a signal: 15 for one without a number on the system
abbrev pub number_or_15 : Option ℤ → ℤ
number_or_15 None = pos 15
number_or_15 (Some n) = n

abbrev pub number_of : ASignal → ℤ
number_of signal = number_or_15 (native signal)

-- send a signal, and raise the ticket, whatever comes of it
abbrev pub signalled : Id → Option ℕ → ASignal → ℕ → Option ℕ → Plan
signalled id handler signal ticket None = raises ticket
signalled id handler signal ticket (Some c) = tries id handler (Signals c (number_of signal)) (raises ticket) (raises ticket)

-- send a signal: where that is done a grace stands, which holds the ticket
abbrev pub graceful : Id → Option ℕ → ASignal → ℕ → Option ℕ → Plan
graceful id handler signal ticket None = raises ticket
graceful id handler signal ticket (Some c) = tries id handler (Signals c (number_of signal)) Done (raises ticket)

-- reap the child and spawn a fresh one
abbrev pub restart : Id → Kit → ℕ → ℕ → Plan
restart id by c ticket = reap id by.handler c ticket (waiters by.parked (fresh id by (raises ticket)))

-- a child that runs is let go
abbrev pub drop_plan : Option ℕ → Plan → Plan
drop_plan None k = k
drop_plan (Some c) k = adds (Dropped c) k

-- the end of a job: a child that runs is let go, and the job is gone
abbrev pub leave : Id → Option ℕ → Plan
leave id running = drop_plan running (adds (Gone id) Done)

-- The case of a control that was picked with this ticket, where this child runs, or none does.
abbrev pub row : Id → Kit → ℕ → Control → Option ℕ → Plan
row id by ticket Start None = fresh id by (raises ticket)
row id by ticket Start (Some c) = raises ticket
row id by ticket Stop None = raises ticket
row id by ticket Stop (Some c) = reap id by.handler c ticket (waiters by.parked (raise_grace by.grace (raises ticket)))
row id by ticket (GracefulStop signal grace) running = graceful id by.handler signal ticket running
row id by ticket TryRestart None = raises ticket
row id by ticket TryRestart (Some c) = restart id by c ticket
row id by ticket (TryGracefulRestart signal grace) running = graceful id by.handler signal ticket running
row id by ticket ContinueTryGracefulRestart None = fresh id by (raises ticket)
row id by ticket ContinueTryGracefulRestart (Some c) = restart id by c ticket
row id by ticket (Signal signal) running = signalled id by.handler signal ticket running
row id by ticket Delete running = adds (Raise ticket) (leave id running)
row id by ticket NextEnding running = if by.finished then raises ticket else Done
row id by ticket (SyncFunc n) running = adds (Run id n) (raises ticket)
row id by ticket (AsyncFunc n) running = adds (Begun id n) Done
row id by ticket (SetSyncSpawnHook n) running = raises ticket
row id by ticket UnsetSpawnHook running = raises ticket
row id by ticket (SetSyncErrorHandler n) running = raises ticket
row id by ticket UnsetErrorHandler running = raises ticket
row id by ticket (SetSpawnFn n) running = raises ticket
row id by ticket (SetSpawnChildFn n) running = raises ticket
row id by ticket ClearSpawnFn running = raises ticket

-- the ticket of a control is parked, in this state
abbrev pub is_parking : Control → CommandState → Bool
is_parking NextEnding now = not (is_finished now)
is_parking _ now = false

-- the case spawns a child
abbrev pub spawns : Control → Option ℕ → Bool
spawns Start running = is_none running
spawns Stop running = false
spawns (GracefulStop signal grace) running = false
spawns TryRestart running = is_some running
spawns (TryGracefulRestart signal grace) running = false
spawns ContinueTryGracefulRestart running = true
spawns (Signal signal) running = false
spawns Delete running = false
spawns NextEnding running = false
spawns (SyncFunc n) running = false
spawns (AsyncFunc n) running = false
spawns (SetSyncSpawnHook n) running = false
spawns UnsetSpawnHook running = false
spawns (SetSyncErrorHandler n) running = false
spawns UnsetErrorHandler running = false
spawns (SetSpawnFn n) running = false
spawns (SetSpawnChildFn n) running = false
spawns ClearSpawnFn running = false

-- the case of the end of a grace: the child is reaped, and a fresh one is spawned where the grace is one of a restart
abbrev pub fresh_over : Id → Kit → Grace → Plan
fresh_over id by g = if g.restarts then fresh id by (raises g.ticket) else raises g.ticket

abbrev pub over : Id → Kit → ℕ → Grace → Plan
over id by c g = adds (GraceOver id) (reap id by.handler c g.ticket (waiters by.parked (fresh_over id by g)))

-- the case of the end of a child
abbrev pub ended_in : Id → Kit → Grace → Plan
ended_in id by g = if g.restarts then waiters by.parked (fresh id by (raises g.ticket)) else adds (Raise g.ticket) (waiters by.parked Done)

abbrev pub ended_by : Id → Kit → Option Grace → Plan
ended_by id by None = waiters by.parked Done
ended_by id by (Some g) = ended_in id by g

abbrev pub ended : Id → Kit → ℕ → Plan
ended id by c = tries id by.handler (Waits c) (ended_by id by by.grace) Done

-- the case of a begun function: it is polled, and where it is ready the ticket that it holds is raised
abbrev pub polled : Id → Function → Plan
polled id f = Owes (Polls id f.n) (raises f.ticket) (adds (Said TheLater) Done)

-- What a step picks, the first that applies: the poll of a function that was begun; a grace whose end has come; the kept end
-- of the running child; a control that waits, the most pressing first, of the level Normal only where no grace stands; where
-- there are no more handles and no grace stands, the end of the job; else nothing.
abbrev pub choose_last : Bool → Option Grace → Choice
choose_last false standing = Nothing
choose_last true None = Leave
choose_last true (Some g) = Nothing

abbrev pub choose_control : Choice → Option (ℕ × Control) → Choice
choose_control last None = last
choose_control last (Some x) = Next x.0 x.1

abbrev pub choose_end : ℕ → Bool → Choice → Choice
choose_end c end other = if end then End c else other

abbrev pub choose_grace : ℕ → Option Grace → ℕ → Choice → Choice
choose_grace c None at other = other
choose_grace c (Some g) at other = if nat_le g.ends at then Over c g else other

abbrev pub choose_child : Option ℕ → Option Grace → ℕ → Bool → Choice → Choice
choose_child None standing at end other = other
choose_child (Some c) standing at end other = choose_grace c standing at (choose_end c end other)

abbrev pub choose_poll : Option Function → Choice → Choice
choose_poll None other = other
choose_poll (Some f) other = Poll f

abbrev pub choose : Bool → Option Function → Option ℕ → Option Grace → ℕ → Bool → Option (ℕ × Control) → Choice
choose closed function running standing at end x = choose_poll function (choose_child running standing at end (choose_control (choose_last closed standing) x))

-- the controls of the level Normal that may be picked
abbrev pub unless_grace : Option Grace → List (ℕ × Control) → List (ℕ × Control)
unless_grace standing waiting = if is_some standing then [] else waiting

-- What a step picks, of a job of which there are no more handles or there may be some.
abbrev pub pick_by : Bool → Id → List Entry → Choice
pick_by closed id p = choose closed (begun id p) (child id p) (grace id p) (moment p) (kept id p) (first (waits id Urgent p) (waits id High p) (unless_grace (grace id p) (waits id Normal p)))

abbrev pub pick : Id → List Entry → Choice
pick id p = pick_by false id p

-- a grace is one of a restart
abbrev pub is_restart : Option Grace → Bool
is_restart None = false
is_restart (Some g) = g.restarts

-- the case of what is picked spawns a child, where this child runs and this grace stands
abbrev pub is_spawning : Choice → Option ℕ → Option Grace → Bool
is_spawning (Poll f) running standing = false
is_spawning (Over c g) running standing = g.restarts
is_spawning (End c) running standing = is_restart standing
is_spawning (Next ticket control) running standing = spawns control running
is_spawning Leave running standing = false
is_spawning Nothing running standing = false

-- what a step that picks this owes
abbrev pub case : Id → Kit → Option ℕ → Choice → Plan
case id by running (Poll f) = polled id f
case id by running (Over c g) = over id by c g
case id by running (End c) = ended id by c
case id by running (Next ticket control) = adds (Pick id ticket) (row id (kit_after control by) ticket control running)
case id by running Leave = leave id running
case id by running Nothing = adds (Said TheIdle) Done

-- What a step owes, of a job of which there are no more handles or there may be some. One of a job that is gone owes nothing.
abbrev pub step_by : Bool → Id → Command → List Entry → Plan
step_by closed id command p = if lives id p then case id (kit id command p) (child id p) (pick_by closed id p) else Done

abbrev pub step_plan : Id → Command → List Entry → Plan
step_plan id command p = step_by false id command p

-- the job is gone once this was done
abbrev pub deletes : Control → Bool
deletes Start = false
deletes Stop = false
deletes (GracefulStop signal grace) = false
deletes TryRestart = false
deletes (TryGracefulRestart signal grace) = false
deletes ContinueTryGracefulRestart = false
deletes (Signal signal) = false
deletes Delete = true
deletes NextEnding = false
deletes (SyncFunc n) = false
deletes (AsyncFunc n) = false
deletes (SetSyncSpawnHook n) = false
deletes UnsetSpawnHook = false
deletes (SetSyncErrorHandler n) = false
deletes UnsetErrorHandler = false
deletes (SetSpawnFn n) = false
deletes (SetSpawnChildFn n) = false
deletes ClearSpawnFn = false

abbrev pub is_deletion : Choice → Bool
is_deletion (Poll f) = false
is_deletion (Over c g) = false
is_deletion (End c) = false
is_deletion (Next ticket control) = deletes control
is_deletion Leave = true
is_deletion Nothing = false

-- What a step answers: Gone exactly where its job is gone then, Later exactly where it polled a function that is still begun
-- then, Idle exactly where there was nothing to pick.
abbrev pub answer_of : Bool → Choice → Bool → Stepped
answer_of true choice begun = IsGone
answer_of false (Poll f) begun = if begun then Later else Did
answer_of false (Over c g) begun = Did
answer_of false (End c) begun = Did
answer_of false (Next ticket control) begun = if deletes control then IsGone else Did
answer_of false Leave begun = IsGone
answer_of false Nothing begun = Idle

-- the controls of an ask, and what comes then
abbrev pub ask_second : Id → Level → Option Control → Plan → Plan
ask_second id level None k = k
ask_second id level (Some control) k = asks id level control k

abbrev pub ask_plan : Id → Sends → Plan → Plan
ask_plan id sends k = asks id sends.level sends.first (ask_second id sends.level sends.second k)

-- nothing is asked of a job that is gone
abbrev pub send_plan : Id → Sends → List Entry → Plan
send_plan id sends p = if lives id p then ask_plan id sends Done else Done

-- nothing is owed at the end of a job that is gone
abbrev pub end_plan : Id → List Entry → Plan
end_plan id p = if lives id p then leave id (child id p) else Done
