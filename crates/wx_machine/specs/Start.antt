-- What an engine starts from.
use Rattle.std.specs.Prelude.{◌≡◌, ℕ, ◌≤◌, Bool, true, false, ◌==◌, List, [], ◌∷◌, length}
use Rattle.wx_events.specs.declared.event.Event.{Event}
use Rattle.wx_events.specs.declared.priority.Priority.{Priority}
use Rattle.wx_config.specs.declared.config.Config.{Config}

-- the settings and the folder that an engine was made with, and the events that were sent to it, in order
pub record Start : Type 0 where
  pub config : Config
  pub folder : List ℕ
  pub events : List (Event × Priority)

-- a path is absolute where it begins with a slash
abbrev pub is_absolute : List ℕ → Bool
is_absolute [] = false
is_absolute (b ∷ _) = b == 47

-- sizes are from 1 to 65,536
pub record IsSize (n : ℕ) : Type 0 where
  pub some : 1 ≤ n
  pub few : n ≤ 65536

-- what holds of every start
pub record IsStart (s : Start) : Type 0 where
  pub event_size : IsSize s.config.event_channel_size
  pub error_size : IsSize s.config.error_channel_size
  pub folder : is_absolute s.folder ≡ true
  pub events : length s.events ≤ s.config.event_channel_size
