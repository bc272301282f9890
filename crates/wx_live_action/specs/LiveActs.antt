-- What the program that runs a command again at each change asks for.
use Rattle.std.specs.Prelude.{◌≡◌, ℕ, ◌*◌, ◌^◌, ◌==◌, Bool, true, false, not, ◌&&◌, if◌then◌else◌, Option, None, Some, option_map, List, [], ◌∷◌}
use Rattle.std.specs.List.{filter_map, list_any, list_all}
use Rattle.std.specs.Option.{option_or}
use Rattle.wx_events.specs.declared.event.Event.{Event}
use Rattle.wx_events.specs.declared.event.Tag.{Tag}
use Rattle.wx_events.specs.declared.keyboard.Keyboard.TheVariants.{Eof, Key}
use Rattle.wx_events.specs.declared.keyboard.KeyCode.TheVariants.{Char}
use Rattle.wx_events.specs.declared.process.Signal.TheVariants.{Terminate}
use Rattle.wx_command.specs.declared.command.Command.{Command}
use Rattle.wx_control.specs.declared.ask.Ask.TheVariants.{One, RestartWithSignal}
use Rattle.wx_control.specs.declared.control.Control.TheVariants.{Start}
use Rattle.wx_control.specs.declared.id.Id.{Id}
use Rattle.wx_journal.specs.Acts.{JournalAct as Act}
use Rattle.wx_journal.specs.Names.{next_job}
use Rattle.wx_journal.specs.declared.entry.Act.TheVariants.{Create, Ask as Asks, QuitGracefully}
use Rattle.wx_journal.specs.declared.entry.Entry.{Entry}
use Rattle.wx_journal.specs.declared.entry.Entry.TheVariants.{Hand}
use Rattle.wx_machine.specs.Journal.{listed}

-- ---- keys

-- a tag is the key q, whose character is 113, without Ctrl
abbrev pub is_q : Tag → Bool
is_q (Tag.Keyboard (Key (Char c) held)) = (c == 113) && not held.ctrl
is_q (_) = false

-- a tag is the end of the keyboard's input
abbrev pub is_end : Tag → Bool
is_end (Tag.Keyboard Eof) = true
is_end (_) = false

-- an event has such a tag
abbrev pub has : (Tag → Bool) → Event → Bool
has kind event = list_any kind event.tags

-- ---- acts

abbrev pub second : ℕ
second = 10 ^ 9

-- the first batch creates the job, and starts it
abbrev pub first_acts : Command → Id → List Act
first_acts command job = Create job command ∷ Asks job (One Start) ∷ []

-- a later batch with the key q ends the run, one that holds ends of the keyboard's input alone does nothing, and any other runs
-- the command again
abbrev pub later_acts : Id → List Event → List Act
later_acts job events =
    if list_any (has is_q) events then QuitGracefully Terminate (10 * second) ∷ []
    else (if list_all (has is_end) events then []
    else Asks job (RestartWithSignal Terminate (5 * second)) ∷ [])

-- ---- in a journal

abbrev pub id_of : ℕ → Id
id_of n = record { 0 = n }

-- the job that the first batch among these entries created: the next one that wasn't made before
abbrev pub job_of : List Entry → Option Id
job_of [] = None
job_of (Hand n names acts ∷ p) = option_or (job_of p) (Some (id_of (next_job p)))
job_of (_ ∷ p) = job_of p

-- the events of these names
abbrev pub batch : List Entry → List ℕ → List Event
batch p names = filter_map (λ name. option_map (λ x. x.0) (listed name p)) names

-- what a batch of these events asks for, behind these entries
abbrev pub live_acts : Command → List Entry → List Event → Option Id → List Act
live_acts command p events None = first_acts command (id_of (next_job p))
live_acts command p events (Some job) = later_acts job events

-- the rule: each batch asks for just that
abbrev pub AsksAsLive : Command → List Entry → Entry → Type 0
AsksAsLive command p (Hand n names acts) = acts ≡ live_acts command p (batch p names) (job_of p)
AsksAsLive command p (_) = Unit {0}
