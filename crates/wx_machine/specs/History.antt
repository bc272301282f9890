-- What a journal says of a job. The history of a job begins at its last Made.
use Rattle.std.specs.Prelude.{◌≡◌, ℕ, ◌+◌, Bool, true, false, not, ◌&&◌, ◌||◌, ◌==◌, if◌then◌else◌, Option, None, Some, Ok, Err, List, [], ◌∷◌, ◌++◌}
use Rattle.wx_events.specs.declared.process.ProcessEnd.{ProcessEnd}
use Rattle.wx_command.specs.declared.command.Command.{Command}
use Rattle.wx_control.specs.declared.id.Id.{Id}
use Rattle.wx_control.specs.declared.control.Control.{Control}
use Rattle.wx_control.specs.declared.control.Control.TheVariants.{GracefulStop, TryGracefulRestart, NextEnding, SetSyncSpawnHook, UnsetSpawnHook, SetSyncErrorHandler, UnsetErrorHandler, SetSpawnFn, SetSpawnChildFn, ClearSpawnFn}
use Rattle.wx_control.specs.declared.level.Level.{Level}
use Rattle.wx_control.specs.declared.level.Level.TheVariants.{Normal, High, Urgent}
use Rattle.wx_control.specs.Levels.{rank}
use Rattle.wx_journal.specs.declared.child.SpawnTag.{SpawnTag}
use Rattle.wx_journal.specs.declared.child.SpawnTag.TheVariants as spawning
use Rattle.wx_journal.specs.Acts.{JournalAct as Act}
use Rattle.wx_journal.specs.declared.entry.Act.TheVariants.{Create, Ask, Change, Quit, QuitGracefully}
use Rattle.wx_journal.specs.declared.entry.Entry.{Entry}
use Rattle.wx_journal.specs.declared.entry.Entry.TheVariants.{Turn as Turned, Hand, Made, Asked, Pick, GraceOver, Spawn, Signal, Wait, Dropped, Raise, Gone, Begun, Poll, Hook}
use Rattle.wx_journal.specs.declared.entry.TurnKind.TheVariants as turn
use Rattle.wx_journal.specs.declared.entry.TurnKind.{TurnKind}
use Rattle.wx_journal.specs.Names.{moment}
use Rattle.wx_machine.specs.declared.function.Function.{Function}
use Rattle.wx_machine.specs.declared.grace.Grace.{Grace}
use Rattle.wx_machine.specs.declared.state.CommandState.{CommandState}
use Rattle.wx_machine.specs.declared.state.CommandState.TheVariants.{Pending, Running, Finished}
use Rattle.wx_machine.specs.States.{is_finished}

-- an entry that names a job is of this one
abbrev pub same : Id → Id → Bool
same job id = job.0 == id.0

-- the job was made, and isn't gone
abbrev pub lives : Id → List Entry → Bool
lives id [] = false
lives id (Made job ∷ p) = same job id || lives id p
lives id (Gone job ∷ p) = not (same job id) && lives id p
lives id (_ ∷ p) = lives id p

-- the tickets that wait, each with its control, without this ticket
abbrev pub without : ℕ → List (ℕ × Control) → List (ℕ × Control)
without ticket [] = []
without ticket (x ∷ xs) = if x.0 == ticket then xs else x ∷ without ticket xs

-- this ticket waits
abbrev pub has : ℕ → List (ℕ × Control) → Bool
has ticket [] = false
has ticket (x ∷ xs) = x.0 == ticket || has ticket xs

-- this ticket waits at a level above this one, among these of the levels Urgent and High
abbrev pub has_above : ℕ → Level → List (ℕ × Control) → List (ℕ × Control) → Bool
has_above ticket Urgent urgent high = false
has_above ticket High urgent high = has ticket urgent
has_above ticket Normal urgent high = has ticket urgent || has ticket high

-- The tickets that wait at a level: asked of the job while it lives, and not picked, in order. A pick takes its ticket out of
-- one level, the most pressing one at which it waits.
abbrev pub waits : Id → Level → List Entry → List (ℕ × Control)
waits id level [] = []
waits id level (Made job ∷ p) = if same job id then [] else waits id level p
waits id level (Asked ticket job at control ∷ p) = if same job id && rank at == rank level && lives id p then waits id level p ++ (ticket, control) ∷ [] else waits id level p
waits id level (Pick job ticket ∷ p) = if same job id && not (has_above ticket level (waits id Urgent p) (waits id High p)) then without ticket (waits id level p) else waits id level p
waits id level (Gone job ∷ p) = if same job id then [] else waits id level p
waits id level (_ ∷ p) = waits id level p

-- the child of this name no longer runs
abbrev pub unless : ℕ → Option ℕ → Option ℕ
unless c None = None
unless c (Some d) = if d == c then None else Some d

-- the child that this entry reaps: a Wait of it answered ok
abbrev pub reaped_child : Entry → Option ℕ
reaped_child (Wait c (Ok status)) = Some c
reaped_child (_) = None

-- the child that no longer runs behind this entry: it was reaped or let go
abbrev pub ended_child : Entry → Option ℕ
ended_child (Dropped c) = Some c
ended_child (e) = reaped_child e

-- what is left of a child, where this one, if any, has ended
abbrev pub still_running : Option ℕ → Option ℕ → Option ℕ
still_running None running = running
still_running (Some c) running = unless c running

-- the child that runs: its Spawn answered ok, and nothing ended it since
abbrev pub child : Id → List Entry → Option ℕ
child id [] = None
child id (Made job ∷ p) = if same job id then None else child id p
child id (Spawn c job tag what (Ok done) ∷ p) = if same job id then Some c else child id p
child id (e ∷ p) = still_running (ended_child e) (child id p)

abbrev pub is_child : ℕ → Option ℕ → Bool
is_child c None = false
is_child c (Some d) = d == c

-- the running child is the one that has ended
abbrev pub is_ended : Option ℕ → Option ℕ → Bool
is_ended None running = false
is_ended (Some c) running = is_child c running

-- a turn names the end of the child that runs
abbrev pub names_end : TurnKind → Option ℕ → Bool
names_end (turn.Ended c) running = is_child c running
names_end (_) running = false

-- the end of the running child is kept: an Ended turn named it, and no Wait of it came since
abbrev pub kept : Id → List Entry → Bool
kept id [] = false
kept id (Made job ∷ p) = if same job id then false else kept id p
kept id (Turned t ∷ p) = names_end t.kind (child id p) || kept id p
kept id (Spawn c job tag what (Ok done) ∷ p) = if same job id then false else kept id p
kept id (Wait c answer ∷ p) = not (is_child c (child id p)) && kept id p
kept id (Gone job ∷ p) = if same job id then false else kept id p
kept id (_ ∷ p) = kept id p

-- the state after this child ended
abbrev pub finish : ℕ → ProcessEnd → ℕ → CommandState → CommandState
finish c status at Pending = Pending
finish c status at (Running d started) = if d == c then Finished status started at else Running d started
finish c status at (Finished before started finished) = Finished before started finished

-- the state, by the last Hook, Spawn or successful Wait
abbrev pub state : Id → List Entry → CommandState
state id [] = Pending
state id (Made job ∷ p) = if same job id then Pending else state id p
state id (Spawn c job tag what (Ok done) ∷ p) = if same job id then Running c (moment p) else state id p
state id (Spawn c job tag what (Err fault) ∷ p) = if same job id then Pending else state id p
state id (Wait c (Ok status) ∷ p) = finish c status (moment p) (state id p)
state id (Hook job n answer ∷ p) = if same job id then Pending else state id p
state id (_ ∷ p) = state id p

-- the state before a spawn, or before the hook that was called just before it
abbrev pub before_spawn : Id → List Entry → CommandState
before_spawn id (Hook job n answer ∷ p) = state id p
before_spawn id (p) = state id p

-- the state before the last Spawn, or before the last Hook where one came since
abbrev pub previous : Id → List Entry → Option CommandState
previous id [] = None
previous id (Made job ∷ p) = if same job id then None else previous id p
previous id (Spawn c job tag what answer ∷ p) = if same job id then Some (before_spawn id p) else previous id p
previous id (Hook job n answer ∷ p) = if same job id then Some (state id p) else previous id p
previous id (_ ∷ p) = previous id p

-- the control of this ticket among those that wait
abbrev pub found : ℕ → List (ℕ × Control) → Option Control
found ticket [] = None
found ticket (x ∷ xs) = if x.0 == ticket then Some x.1 else found ticket xs

-- the control that is picked under this ticket, at the most pressing level at which it waits
abbrev pub picked_control : Id → ℕ → List Entry → Option Control
picked_control id ticket p = found ticket (waits id Urgent p ++ waits id High p ++ waits id Normal p)

-- what a control that is picked leaves of the spawn hook, of the error handler, and of what spawns
abbrev pub set_hook : Option Control → Option ℕ → Option ℕ
set_hook (Some (SetSyncSpawnHook n)) before = Some n
set_hook (Some UnsetSpawnHook) before = None
set_hook (_) before = before

abbrev pub set_handler : Option Control → Option ℕ → Option ℕ
set_handler (Some (SetSyncErrorHandler n)) before = Some n
set_handler (Some UnsetErrorHandler) before = None
set_handler (_) before = before

abbrev pub set_tag : Option Control → SpawnTag → SpawnTag
set_tag (Some (SetSpawnFn n)) before = spawning.Command n
set_tag (Some (SetSpawnChildFn n)) before = spawning.Child n
set_tag (Some ClearSpawnFn) before = spawning.Default
set_tag (_) before = before

-- the spawn hook that is set, by the controls that were picked
abbrev pub hook : Id → List Entry → Option ℕ
hook id [] = None
hook id (Made job ∷ p) = if same job id then None else hook id p
hook id (Pick job ticket ∷ p) = if same job id then set_hook (picked_control id ticket p) (hook id p) else hook id p
hook id (_ ∷ p) = hook id p

-- the error handler that is set, by the controls that were picked
abbrev pub handler : Id → List Entry → Option ℕ
handler id [] = None
handler id (Made job ∷ p) = if same job id then None else handler id p
handler id (Pick job ticket ∷ p) = if same job id then set_handler (picked_control id ticket p) (handler id p) else handler id p
handler id (_ ∷ p) = handler id p

-- what spawns, by the controls that were picked
abbrev pub tag : Id → List Entry → SpawnTag
tag id [] = spawning.Default
tag id (Made job ∷ p) = if same job id then spawning.Default else tag id p
tag id (Pick job ticket ∷ p) = if same job id then set_tag (picked_control id ticket p) (tag id p) else tag id p
tag id (_ ∷ p) = tag id p

-- what a job runs, by the acts that create it
abbrev pub creation : Id → List Act → Option Command
creation id [] = None
creation id (Create job command ∷ acts) = if same job id then Some command else creation id acts
creation id (Ask job ask ∷ acts) = creation id acts
creation id (Change change ∷ acts) = creation id acts
creation id (Quit ∷ acts) = creation id acts
creation id (QuitGracefully signal grace ∷ acts) = creation id acts

abbrev pub or_else : Option Command → Option Command → Option Command
or_else None other = other
or_else (Some command) other = Some command

abbrev pub command : Id → List Entry → Option Command
command id [] = None
command id (Hand n names acts ∷ p) = or_else (creation id acts) (command id p)
command id (_ ∷ p) = command id p

-- the job was created to run this, where the journal lists that it was created
abbrev pub RunsOnly : Id → Command → List Entry → Type 0
RunsOnly id what p = (created : Command) → command id p ≡ Some created → created ≡ what

abbrev pub with_ticket : ℕ → Option Control → Option (ℕ × Control)
with_ticket ticket None = None
with_ticket ticket (Some control) = Some (ticket, control)

abbrev pub unless_raised : ℕ → Option (ℕ × Control) → Option (ℕ × Control)
unless_raised ticket None = None
unless_raised ticket (Some x) = if x.0 == ticket then None else Some x

-- The control in whose case the job is, with its ticket: it was picked last. Where its ticket was raised, a signal was sent to the
-- child or a function begun since, or a grace was over, it is none any longer.
abbrev pub picked_last : Id → List Entry → Option (ℕ × Control)
picked_last id [] = None
picked_last id (Made job ∷ p) = if same job id then None else picked_last id p
picked_last id (Pick job ticket ∷ p) = if same job id then with_ticket ticket (picked_control id ticket p) else picked_last id p
picked_last id (GraceOver job ∷ p) = if same job id then None else picked_last id p
picked_last id (Signal c number (Ok done) ∷ p) = if is_child c (child id p) then None else picked_last id p
picked_last id (Begun job n ∷ p) = if same job id then None else picked_last id p
picked_last id (Raise ticket ∷ p) = unless_raised ticket (picked_last id p)
picked_last id (Gone job ∷ p) = if same job id then None else picked_last id p
picked_last id (_ ∷ p) = picked_last id p

-- ---- functions

-- the function that was begun in the case of the control that was picked
abbrev pub begun_with : ℕ → Option (ℕ × Control) → Option Function
begun_with n None = None
begun_with n (Some x) = Some (record { n = n; ticket = x.0 })

-- the function that was begun and isn't ready: a Begun of it came, and no Poll of it that was ready since
abbrev pub begun : Id → List Entry → Option Function
begun id [] = None
begun id (Made job ∷ p) = if same job id then None else begun id p
begun id (Begun job n ∷ p) = if same job id then begun_with n (picked_last id p) else begun id p
begun id (Poll job n true ∷ p) = if same job id then None else begun id p
begun id (Gone job ∷ p) = if same job id then None else begun id p
begun id (_ ∷ p) = begun id p

-- ---- graces

-- the grace that stands once a control sent its signal at this moment: its own, where it begins one
abbrev pub begins : ℕ → Control → ℕ → Option Grace → Option Grace
begins ticket (GracefulStop signal grace) at before = Some (record { ends = at + grace; ticket = ticket; restarts = false })
begins ticket (TryGracefulRestart signal grace) at before = Some (record { ends = at + grace; ticket = ticket; restarts = true })
begins ticket (_) at before = before

abbrev pub begins_by : Option (ℕ × Control) → ℕ → Option Grace → Option Grace
begins_by None at before = before
begins_by (Some x) at before = begins x.0 x.1 at before

-- The grace that stands: begun by the last Signal of the running child that answered ok, in the case of a control that begins
-- one. It ends when the journal says so, when the child was reaped or let go, and when the job is gone.
abbrev pub grace : Id → List Entry → Option Grace
grace id [] = None
grace id (Made job ∷ p) = if same job id then None else grace id p
grace id (GraceOver job ∷ p) = if same job id then None else grace id p
grace id (Signal c number (Ok done) ∷ p) = if is_child c (child id p) then begins_by (picked_last id p) (moment p) (grace id p) else grace id p
grace id (Gone job ∷ p) = if same job id then None else grace id p
grace id (e ∷ p) = if is_ended (ended_child e) (child id p) then None else grace id p

-- ---- tickets

-- these tickets without this one
abbrev pub without_ticket : ℕ → List ℕ → List ℕ
without_ticket ticket [] = []
without_ticket ticket (t ∷ ts) = if t == ticket then ts else t ∷ without_ticket ticket ts

-- the tickets that are parked once this control was picked, in this state: that of NextEnding where no child has ended
abbrev pub parks : Option Control → ℕ → CommandState → List ℕ → List ℕ
parks (Some NextEnding) ticket now before = if is_finished now then before else before ++ ticket ∷ []
parks (_) ticket now before = before

-- the tickets that are parked until the child ends, in the order in which they were picked: those of NextEnding that were picked
-- while the state wasn't Finished, and not raised
abbrev pub parked : Id → List Entry → List ℕ
parked id [] = []
parked id (Made job ∷ p) = if same job id then [] else parked id p
parked id (Pick job ticket ∷ p) = if same job id then parks (picked_control id ticket p) ticket (state id p) (parked id p) else parked id p
parked id (Raise ticket ∷ p) = without_ticket ticket (parked id p)
parked id (Gone job ∷ p) = if same job id then [] else parked id p
parked id (_ ∷ p) = parked id p

-- the tickets that are in hand once this control was picked, in this state: its own, where it isn't parked
abbrev pub takes : Option Control → ℕ → CommandState → List ℕ → List ℕ
takes (Some NextEnding) ticket now before = if is_finished now then before ++ ticket ∷ [] else before
takes (_) ticket now before = before ++ ticket ∷ []

-- the tickets in hand: those that were picked, and neither parked nor raised
abbrev pub in_hand : Id → List Entry → List ℕ
in_hand id [] = []
in_hand id (Made job ∷ p) = if same job id then [] else in_hand id p
in_hand id (Pick job ticket ∷ p) = if same job id then takes (picked_control id ticket p) ticket (state id p) (in_hand id p) else in_hand id p
in_hand id (Raise ticket ∷ p) = without_ticket ticket (in_hand id p)
in_hand id (Gone job ∷ p) = if same job id then [] else in_hand id p
in_hand id (_ ∷ p) = in_hand id p

-- the job of which the ticket of this name was asked
abbrev pub asked_of : ℕ → List Entry → Option Id
asked_of ticket [] = None
asked_of ticket (Asked t job level control ∷ p) = if t == ticket then Some job else asked_of ticket p
asked_of ticket (_ ∷ p) = asked_of ticket p

-- the job that spawned the child of this name
abbrev pub owner : ℕ → List Entry → Option Id
owner c [] = None
owner c (Spawn d job tag what answer ∷ p) = if d == c then Some job else owner c p
owner c (_ ∷ p) = owner c p

-- ---- all of it

-- what is kept of a job: all that a step of it goes by
pub record JobHistory : Type 0 where
  pub lives : Bool
  pub urgent : List (ℕ × Control)
  pub high : List (ℕ × Control)
  pub normal : List (ℕ × Control)
  pub child : Option ℕ
  pub kept : Bool
  pub state : CommandState
  pub previous : Option CommandState
  pub hook : Option ℕ
  pub handler : Option ℕ
  pub tag : SpawnTag
  pub begun : Option Function
  pub grace : Option Grace
  pub parked : List ℕ

abbrev pub history : Id → List Entry → JobHistory
history id p = record {
  lives = lives id p;
  urgent = waits id Urgent p;
  high = waits id High p;
  normal = waits id Normal p;
  child = child id p;
  kept = kept id p;
  state = state id p;
  previous = previous id p;
  hook = hook id p;
  handler = handler id p;
  tag = tag id p;
  begun = begun id p;
  grace = grace id p;
  parked = parked id p;
}
