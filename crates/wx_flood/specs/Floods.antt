-- The script of a flood: what comes in each of its steps is drawn.
use Rattle.std.specs.Prelude.{ℕ, zero, suc, ◌+◌, ◌==◌, nat_lt, false, if◌then◌else◌, List, [], ◌∷◌, ◌++◌, length, codes}
use Rattle.wx_events.specs.declared.event.Event.{Event}
use Rattle.wx_events.specs.declared.event.Tag.TheVariants.{Process}
use Rattle.wx_events.specs.declared.priority.Priority.{Priority}
use Rattle.wx_events.specs.declared.priority.Priority.TheVariants.{Low, Normal, High, Urgent}
use Rattle.wx_events.specs.declared.process.Signal.TheVariants.{Terminate, User1}
use Rattle.wx_command.specs.declared.command.Command.{Command}
use Rattle.wx_command.specs.declared.program.Program.TheVariants.{Exec}
use Rattle.wx_control.specs.declared.ask.Ask.{Ask as AnAsk}
use Rattle.wx_control.specs.declared.ask.Ask.TheVariants.{One as Alone, Restart}
use Rattle.wx_control.specs.declared.control.Control.TheVariants.{Start, GracefulStop, TryGracefulRestart}
use Rattle.wx_journal.specs.declared.entry.Act.TheVariants.{Create, Ask as Asks}
use Rattle.wx_journal.specs.declared.entry.TurnKind.{TurnKind}
use Rattle.wx_journal.specs.declared.entry.TurnKind.TheVariants.{Arrive, Work, Job, Ended}
use Rattle.wx_script.specs.declared.script.Script.{Script}
use Rattle.wx_script.specs.declared.script.ScriptAct.{ScriptAct}
use Rattle.wx_script.specs.declared.script.ScriptAct.TheVariants.{One}
use Rattle.wx_script.specs.declared.script.ScriptTurn.TheVariants.{Turn}
use Rattle.wx_script.specs.declared.script.Wanted.TheVariants.{New}
use Rattle.wx_script.specs.Scripts.{start, with_turn}
use Rattle.wx_flood.specs.Draws.{next, number}
use Rattle.wx_flood.specs.declared.script.Flood.{Flood}

-- ---- what a drawn number stands for

abbrev pub priority_of : ℕ → Priority
priority_of n = if n == 0 then Low else (if n == 1 then Normal else (if n == 2 then High else Urgent))

abbrev pub ask_of : ℕ → AnAsk
ask_of n = if n == 0 then Restart else (if n == 1 then Alone (GracefulStop Terminate 5000000) else (if n == 2 then Alone (TryGracefulRestart User1 5000000) else Alone Start))

-- an event of the process of this id
abbrev pub event_of : ℕ → Event
event_of process = record { tags = Process process ∷ [] }

-- the program `p`, without arguments
abbrev pub program : Command
program = record { program = Exec (codes "p") []; options = record { grouped = false; session = false; reset_sigmask = false; grant_foreground = false } }

-- the acts that create this job and start it, and those that ask this of it
abbrev pub creating : ℕ → List ScriptAct
creating job = One (Create New program) ∷ One (Asks (record { 0 = job }) (Alone Start)) ∷ []

abbrev pub asking : ℕ → AnAsk → List ScriptAct
asking job ask = One (Asks (record { 0 = job }) ask) ∷ []

-- ---- a step

-- with a turn at this moment
abbrev pub given : ℕ → TurnKind → Script → Script
given at kind s = with_turn (record s { last = at }) (Turn (record { at = at; kind = kind }))

-- an event of a drawn process arrives, with a drawn priority
abbrev pub arrives : ℕ → Flood → Flood
arrives at f = record {
  state = next (next f.state);
  script = given at (Arrive (event_of (number 1000 (next (next f.state)))) (priority_of (number 4 (next f.state)))) f.script;
}

-- the worker acts, and there is a line of acts more: each of the first four creates a job and starts it, and a later one asks something
-- drawn of a drawn one of these jobs
abbrev pub acting : ℕ → List ScriptAct → Script → Script
acting at acts s = given at Work (record s { actions = s.actions ++ acts ∷ [] })

abbrev pub works : ℕ → Flood → Flood
works at f =
    if nat_lt (length f.script.actions) 4
    then record f { script = acting at (creating (length f.script.actions)) f.script }
    else record {
      state = next (next f.state);
      script = acting at (asking (number 4 (next f.state)) (ask_of (number 4 (next (next f.state))))) f.script;
    }

-- a drawn one of these jobs takes a step
abbrev pub steps_job : ℕ → Flood → Flood
steps_job at f = record { state = next f.state; script = given at (Job (record { 0 = number 4 (next f.state) })) f.script }

-- a drawn child has ended
abbrev pub ends_child : ℕ → Flood → Flood
ends_child at f = record { state = next f.state; script = given at (Ended (number 64 (next f.state))) f.script }

-- what comes in a step, by a number below 8
abbrev pub comes : ℕ → ℕ → Flood → Flood
comes choice at f = if nat_lt choice 3 then arrives at f else (if nat_lt choice 5 then works at f else (if nat_lt choice 7 then steps_job at f else ends_child at f))

-- a step: a drawn time later, something drawn comes
abbrev pub stepped : Flood → Flood
stepped f = comes (number 8 (next (next f.state))) (f.script.last + number 20000000 (next f.state)) (record f { state = next (next f.state) })

-- ---- the whole script

-- the script of no step. Where steps come behind it an urgent event without tags is sent
abbrev pub begun : ℕ → Script
begun steps = record start { size = 64; sends = if steps == 0 then [] else (record { tags = [] }, Urgent) ∷ [] }

-- so many steps, one after another
abbrev pub flooded : ℕ → Flood → Flood
flooded zero f = f
flooded (suc n) f = stepped (flooded n f)

-- the script of a flood of so many steps, drawn from this seed on
abbrev pub flood_script : ℕ → ℕ → Script
flood_script steps seed = (flooded steps (record { state = seed; script = begun steps })).script
