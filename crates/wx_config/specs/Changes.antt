-- What the settings are after changes.
use Rattle.std.specs.Prelude.{◌≡◌, ℕ, ◌+◌, ◌-◌, ◌^◌, ◌<◌, Result, Ok, Err, List, [], ◌∷◌}
use Rattle.wx_config.specs.declared.config.Config.{Config}
use Rattle.wx_config.specs.declared.change.RevisionSpent.{RevisionSpent}
use Rattle.wx_config.specs.declared.change.Change.{Change}
use Rattle.wx_config.specs.declared.change.Change.TheVariants.{Signal, Pathset, FileWatcher, FollowSymlinks, KeyboardEvents, Throttle, Filterer, OnError, OnAction}

-- the settings after a change: its value is set, where it has one, and the revision is one more
abbrev pub changed : Change → Config → Config
changed Signal c = record c { change_signal = c.change_signal + 1 }
changed (Pathset paths) c = record c { change_signal = c.change_signal + 1; pathset = paths }
changed (FileWatcher watcher) c = record c { change_signal = c.change_signal + 1; file_watcher = watcher }
changed (FollowSymlinks on) c = record c { change_signal = c.change_signal + 1; follow_symlinks = on }
changed (KeyboardEvents on) c = record c { change_signal = c.change_signal + 1; keyboard_events = on }
changed (Throttle throttle) c = record c { change_signal = c.change_signal + 1; throttle = throttle }
changed (Filterer n) c = record c { change_signal = c.change_signal + 1; filterer = n }
changed (OnError n) c = record c { change_signal = c.change_signal + 1; error_handler = n }
changed (OnAction n) c = record c { change_signal = c.change_signal + 1; action_handler = n }

-- the settings after a list of changes, in order
abbrev pub overlaid : List Change → Config → Config
overlaid [] c = c
overlaid (change ∷ changes) c = overlaid changes (changed change c)

-- the revision that can't be raised
abbrev pub last_revision : ℕ
last_revision = 2 ^ 64 - 1

-- A change was made, or refused: it is refused exactly at the last revision, and then the settings are as they were.
abbrev pub Changes : Change → Config → Config → Result (Unit {0}) RevisionSpent → Type 0
Changes change before after (Ok done) = (before.change_signal < last_revision) × (after ≡ changed change before)
Changes change before after (Err spent) = (before.change_signal ≡ last_revision) × (after ≡ before)
