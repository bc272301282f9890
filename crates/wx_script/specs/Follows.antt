-- What it means that a run follows a script.
use Rattle.std.specs.Prelude.{◌≡◌, ◌≤◌, ℕ, Bool, true, Option, None, Some, List, [], ◌∷◌, ◌++◌, length}
use Rattle.std.specs.List.{list_all}
use Rattle.wx_journal.specs.declared.entry.Entry.{Entry}
use Rattle.wx_paths.specs.Paths.{components}
use Rattle.wx_patterns.specs.Lines.{patterns_of}
use Rattle.wx_config.specs.Defaults.{default_config}
use Rattle.wx_control.specs.Flags.{Flag}
use Rattle.wx_config.specs.declared.config.Config.{Config}
use Rattle.wx_machine.specs.Start.{Start, IsSize, is_absolute}
use Rattle.wx_script.specs.declared.script.Script.{Script}
use Rattle.wx_script.specs.declared.script.TreeEdit.{TreeEdit}
use Rattle.wx_script.specs.Scripts.{edited_path, is_placed}
use Rattle.wx_script.specs.Turns.{any_fails, comes, Rises, Given, FollowsGiven}
use Rattle.wx_script.specs.Answered.{AreAnswered}
use Rattle.wx_script.specs.HostCalls.{FollowsAnswers}
use Rattle.wx_script.specs.Ignored.{Ignores}
use Rattle.wx_script.specs.Acted.{hands, filters, dirs, errors, polls, AreHooked, Wished}

-- the folder of its engine
abbrev pub folder_or_top : Option (List ℕ) → List ℕ
folder_or_top None = 47 ∷ []
folder_or_top (Some path) = path

abbrev pub folder_of : Script → List ℕ
folder_of s = folder_or_top s.folder

-- the changes of its tree: before each turn, and behind the last of them before the first turn that it doesn't have
abbrev pub edits_of : Script → List (List TreeEdit)
edits_of s = s.edits ++ s.pending ∷ []

-- it changes what is at an absolute path that is as `normalize` makes it
abbrev pub is_placed_edit : TreeEdit → Bool
is_placed_edit edit = is_placed (edited_path edit)

-- what holds of each script that is read
pub record IsScript (s : Script) : Type 0 where
  pub size : IsSize s.size
  pub error_size : IsSize s.error_size
  pub folder : is_absolute (folder_of s) ≡ true
  pub sends : length s.sends ≤ s.size
  pub comes : list_all comes s.turns ≡ true
  pub rises : Rises s.turns s.last
  pub placed : list_all (list_all is_placed_edit) (edits_of s) ≡ true

-- what the engine starts from: the settings of the script and its folder, with this flag, and the defaults of all else
abbrev pub config_of : Flag → Script → Config
config_of ready s = record (default_config ready) {
  throttle = s.throttle;
  event_channel_size = s.size;
  error_channel_size = s.error_size;
  keyboard_events = s.keyboard;
  follow_symlinks = s.follow;
  signal_job_control = s.job_signals;
  file_watcher = s.watcher;
  pathset = s.paths;
}

abbrev pub start_of : Flag → Script → Start
start_of ready s = record {
  config = config_of ready s;
  folder = folder_of s;
  events = s.sends;
}

-- what its world gives
abbrev pub given_of : Script → Given
given_of s = record { turns = s.turns; last = s.last; answers = s.answers; edits = edits_of s; fails = any_fails s.failing_looks }

-- what its filter ignores: below its folder, what its patterns say
abbrev pub ignores_of : Script → Ignores
ignores_of s = record { base = components (folder_of s); patterns = patterns_of s.ignores }

-- what its hooks do
abbrev pub wished_of : Script → Wished
wished_of s = record { actions = s.actions; filters = s.filters; dirs = s.dirs; errors = s.errors; polls = s.polls; hooks = s.hooks; ignores = ignores_of s }

-- the turns of the run are the script's first ones, and then last turns at its last moment
abbrev pub FollowsTurns : Script → List Entry → Type 0
FollowsTurns s p = FollowsGiven s.turns s.last p

-- the run follows the script: in its turns, in what is asked for in each call of the action handler, in what the error
-- handler wishes, in the words that spawn hooks append, and in what the calls of the filter about events and about
-- directories, the polls of begun functions, the calls on the host and those on the maker of backends are answered
pub record FollowsScript (s : Script) (p : List Entry) : Type 0 where
  pub turns : FollowsTurns s p
  pub acts : AreAnswered hands s.actions p
  pub filtered : AreAnswered (filters (ignores_of s)) s.filters p
  pub judged : AreAnswered (dirs (ignores_of s)) s.dirs p
  pub wished : AreAnswered errors s.errors p
  pub polled : AreAnswered polls s.polls p
  pub hooked : AreHooked s.hooks p
  pub answers : FollowsAnswers s.answers p
