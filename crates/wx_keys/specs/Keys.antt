-- Signals and keys as events.
use Rattle.std.specs.Prelude.{ℕ, ◌+◌, ◌==◌, nat_le, Bool, true, false, ◌&&◌, ◌||◌, if◌then◌else◌, Option, None, Some, List, [], ◌∷◌, length, map}
use Rattle.std.specs.List.{filter_map, list_any}
use Rattle.wx_events.specs.declared.event.Event.{Event}
use Rattle.wx_events.specs.declared.event.Tag.{Tag}
use Rattle.wx_events.specs.declared.source.Source.{Source}
use Rattle.wx_events.specs.declared.priority.Priority.{Priority}
use Rattle.wx_events.specs.declared.priority.Priority.TheVariants.{High, Urgent}
use Rattle.wx_events.specs.declared.process.Signal.{Signal}
use Rattle.wx_events.specs.declared.process.Signal.TheVariants.{Interrupt, Terminate, ForceStop, Custom, TerminalSuspend, Continue}
use Rattle.wx_events.specs.declared.keyboard.Keyboard.{Keyboard}
use Rattle.wx_events.specs.declared.keyboard.Keyboard.TheVariants.{Eof, Key}
use Rattle.wx_events.specs.declared.keyboard.KeyCode.{KeyCode}
use Rattle.wx_events.specs.declared.keyboard.KeyCode.TheVariants.{Char, Enter, Escape}

-- ---- signals

-- an interrupt comes from the keyboard, all else from the system
abbrev pub signal_source : Signal → Source
signal_source Interrupt = Source.Keyboard
signal_source s = Source.Os

abbrev pub signal_priority : Signal → Priority
signal_priority Interrupt = Urgent
signal_priority Terminate = Urgent
signal_priority s = High

abbrev pub signal_event : Signal → Event × Priority
signal_event s = (record { tags = Tag.Source (signal_source s) ∷ Tag.Signal s ∷ [] }, signal_priority s)

-- Whether a signal to the program is heard: those of job control are only where this is on, and two sorts never are.
abbrev pub hears_signal : Bool → Signal → Bool
hears_signal job_control ForceStop = false
hears_signal job_control (Custom n) = false
hears_signal job_control TerminalSuspend = job_control
hears_signal job_control Continue = job_control
hears_signal job_control s = true

-- ---- keys

abbrev pub pressed : KeyCode → Bool → Keyboard
pressed key ctrl = Key key (record { ctrl = ctrl })

-- whether a byte lies between these
abbrev pub is_between : ℕ → ℕ → ℕ → Bool
is_between low high b = nat_le low b && nat_le b high

-- two bytes are the end of the input
abbrev pub is_end : ℕ → Bool
is_end b = b == 3 || b == 4

-- what a byte of the keyboard says: control bytes are letters with Ctrl but for the end of the input, Enter and Escape
abbrev pub byte_key : ℕ → Option Keyboard
byte_key b =
    if is_end b then Some Eof
    else (if b == 13 then Some (pressed Enter false)
    else (if is_between 1 26 b then Some (pressed (Char (b + 96)) true)
    else (if b == 27 then Some (pressed Escape false)
    else (if is_between 32 126 b then Some (pressed (Char b) false)
    else None))))

-- keys up to the end of the input, with it
abbrev pub up_to_eof : List Keyboard → List Keyboard
up_to_eof [] = []
up_to_eof (Eof ∷ keys) = Eof ∷ []
up_to_eof (Key key modifiers ∷ keys) = Key key modifiers ∷ up_to_eof keys

-- the keys of a read: one without bytes is the end of the input
abbrev pub read_keys : List ℕ → List Keyboard
read_keys [] = Eof ∷ []
read_keys (b ∷ bytes) = up_to_eof (filter_map byte_key (b ∷ bytes))

-- a read from the keyboard takes at most 10 bytes
abbrev pub fits_read : List ℕ → Bool
fits_read bytes = nat_le (length bytes) 10

-- a read holds the end of the input: it has no bytes, or one of them is that
abbrev pub ends_input : List ℕ → Bool
ends_input [] = true
ends_input (b ∷ bytes) = list_any is_end (b ∷ bytes)

abbrev pub is_eof : Keyboard → Bool
is_eof Eof = true
is_eof (Key key modifiers) = false

abbrev pub key_event : Keyboard → Event
key_event key = record { tags = Tag.Source Source.Keyboard ∷ Tag.Keyboard key ∷ [] }

abbrev pub key_events : List ℕ → List Event
key_events bytes = map key_event (read_keys bytes)
