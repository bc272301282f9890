-- What a journal says of the keyboard.
use Rattle.std.specs.Prelude.{Bool, false, not, ◌&&◌, ◌||◌, List, [], ◌∷◌}
use Rattle.wx_journal.specs.declared.entry.Entry.{Entry}
use Rattle.wx_journal.specs.declared.entry.Entry.TheVariants.{Turn as Turned, Changed}
use Rattle.wx_journal.specs.declared.entry.TurnKind.{TurnKind}
use Rattle.wx_journal.specs.declared.entry.TurnKind.TheVariants.{Keys}
use Rattle.wx_keys.specs.Keys.{ends_input}
use Rattle.wx_machine.specs.Start.{Start}
use Rattle.wx_machine.specs.Settings.{settings}

-- keyboard events are on
abbrev pub keyboard : Start → List Entry → Bool
keyboard s p = (settings s p).keyboard_events

-- Whether the input has ended, behind a turn of this kind: as before, and by a read that holds the end and finds keyboard events on.
abbrev pub ended_by : TurnKind → Bool → Bool → Bool
ended_by (Keys bytes) on ended = ended || (on && ends_input bytes)
ended_by (_) on ended = ended

-- And behind a change of the settings: as before, but not where keyboard events went on.
abbrev pub ended_over : Bool → Bool → Bool → Bool
ended_over before now ended = ended && not (not before && now)

-- The input has ended: since keyboard events last went on, or since the start, its end was read.
abbrev pub has_ended : Start → List Entry → Bool
has_ended s [] = false
has_ended s (Turned t ∷ p) = ended_by t.kind (keyboard s p) (has_ended s p)
has_ended s (Changed revision ∷ p) = ended_over (keyboard s p) (keyboard s (Changed revision ∷ p)) (has_ended s p)
has_ended s (_ ∷ p) = has_ended s p

-- keys are heard where keyboard events are on and the input hasn't ended
abbrev pub hears_keys : Start → List Entry → Bool
hears_keys s p = keyboard s p && not (has_ended s p)
