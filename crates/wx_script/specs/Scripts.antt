-- A script as its lines, and the first bad line of what is none.
use Rattle.std.specs.Prelude.{ℕ, ◌≡◌, ◌⊎◌, ◌+◌, ◌<◌, ◌==◌, ◌&&◌, nat_lt, nat_le, if◌then◌else◌, Bool, true, false, Option, None, Some, List, [], ◌∷◌, ◌++◌, length}
use Rattle.std.specs.Str.{bytes_eq}
use Rattle.wx_words.specs.Line.{parts, ◌>>=◌}
use Rattle.wx_config.specs.Defaults.{default_throttle, default_event_size, default_error_size}
use Rattle.wx_watch.specs.declared.watched.Watcher.TheVariants.{Native}
use Rattle.wx_paths.specs.Paths.{normalize}
use Rattle.wx_machine.specs.Start.{is_absolute}
use Rattle.wx_script.specs.declared.script.Script.{Script}
use Rattle.wx_script.specs.declared.script.ScriptTurn.{ScriptTurn}
use Rattle.wx_script.specs.declared.script.ScriptTurn.TheVariants.{Turn, Fault}
use Rattle.wx_script.specs.declared.script.TreeEdit.{TreeEdit}
use Rattle.wx_script.specs.declared.script.TreeEdit.TheVariants.{Node, Gone}
use Rattle.wx_script.specs.HostCalls.{no_answers}
use Rattle.wx_script.specs.Lines.{line_in}
use Rattle.wx_script.specs.declared.lines.Line.{Line}
use Rattle.wx_script.specs.declared.lines.Line.TheVariants.{Nothing, Throttle, Size, ErrorSize, Keyboard, Follow, JobSignals, Watcher, Folder, Path, Send, Turn as Turned, Fault as Failed, Acts, Filter, Dir, Ignore, Wishes, Poll, Hook, Spawn, Signal, Kill, Wait, Edit, Make, FailScan, FailWatch}

-- the script of no lines
abbrev pub start : Script
start = record { throttle = default_throttle; size = default_event_size; error_size = default_error_size; keyboard = false; follow = true; job_signals = false; watcher = Native; folder = None; paths = []; sends = []; turns = []; edits = []; pending = []; actions = []; filters = []; dirs = []; ignores = []; errors = []; polls = []; hooks = []; answers = no_answers; failing_looks = []; failing_watches = []; last = 0 }

-- settings can stand where nothing was sent and no turn was given
abbrev pub is_early : Script → Bool
is_early s = length s.sends == 0 && length s.turns == 0

-- an absolute path that is as `normalize` makes it
abbrev pub is_placed : List ℕ → Bool
is_placed path = is_absolute path && bytes_eq (normalize path) path

abbrev pub edited_path : TreeEdit → List ℕ
edited_path (Node path node) = path
edited_path (Gone path) = path

-- a turn more, before which what pends is edited
abbrev pub with_turn : Script → ScriptTurn → Script
with_turn s turn = record s { turns = s.turns ++ turn ∷ []; edits = s.edits ++ s.pending ∷ []; pending = [] }

-- the script with what one more line says, where that can stand there
abbrev pub accepts : Script → Line → Option Script
accepts s Nothing = Some s
accepts s (Throttle n) = if is_early s then Some (record s { throttle = n }) else None
accepts s (Size n) = if is_early s && nat_le 1 n && nat_le n 65536 then Some (record s { size = n }) else None
accepts s (ErrorSize n) = if is_early s && nat_le 1 n && nat_le n 65536 then Some (record s { error_size = n }) else None
accepts s (Keyboard on) = if is_early s then Some (record s { keyboard = on }) else None
accepts s (Follow on) = if is_early s then Some (record s { follow = on }) else None
accepts s (JobSignals on) = if is_early s then Some (record s { job_signals = on }) else None
accepts s (Watcher watcher) = if is_early s then Some (record s { watcher = watcher }) else None
accepts s (Folder path) = if is_early s && is_absolute path then Some (record s { folder = Some path }) else None
accepts s (Path path) = if is_early s then Some (record s { paths = s.paths ++ path ∷ [] }) else None
accepts s (Send event priority) = if length s.turns == 0 && nat_lt (length s.sends) s.size then Some (record s { sends = s.sends ++ (event, priority) ∷ [] }) else None
accepts s (Turned turn) = if nat_le s.last turn.at then Some (with_turn (record s { last = turn.at }) (Turn turn)) else None
accepts s (Failed code) = Some (with_turn s (Fault code))
accepts s (Acts acts) = Some (record s { actions = s.actions ++ acts ∷ [] })
accepts s (Filter answer) = Some (record s { filters = s.filters ++ answer ∷ [] })
accepts s (Dir answer) = Some (record s { dirs = s.dirs ++ answer ∷ [] })
accepts s (Ignore pattern) = Some (record s { ignores = s.ignores ++ pattern ∷ [] })
accepts s (Wishes wish) = Some (record s { errors = s.errors ++ wish ∷ [] })
accepts s (Poll ready) = Some (record s { polls = s.polls ++ ready ∷ [] })
accepts s (Hook words) = Some (record s { hooks = s.hooks ++ words ∷ [] })
accepts s (Spawn answer) = Some (record s { answers = record s.answers { spawns = s.answers.spawns ++ answer ∷ [] } })
accepts s (Signal answer) = Some (record s { answers = record s.answers { signals = s.answers.signals ++ answer ∷ [] } })
accepts s (Kill answer) = Some (record s { answers = record s.answers { kills = s.answers.kills ++ answer ∷ [] } })
accepts s (Wait answer) = Some (record s { answers = record s.answers { waits = s.answers.waits ++ answer ∷ [] } })
accepts s (Edit edit) = if is_placed (edited_path edit) then Some (record s { pending = s.pending ++ edit ∷ [] }) else None
accepts s (Make answer) = Some (record s { answers = record s.answers { makes = s.answers.makes ++ answer ∷ [] } })
accepts s (FailScan failing) = Some (record s { failing_looks = s.failing_looks ++ failing ∷ [] })
accepts s (FailWatch failing) = Some (record s { failing_watches = s.failing_watches ++ failing ∷ [] })

-- the script with one more line
abbrev pub step : Script → List ℕ → Option Script
step s line = line_in line >>= accepts s

-- what whole lines make of a script, one by one, where each can stand there
abbrev pub begun_by : List (List ℕ) → Script → Option Script
begun_by [] s = Some s
begun_by (line ∷ lines) s = step s line >>= begun_by lines

-- The bytes are this script: behind each line stands a line feed, and the lines make the script.
pub record IsScriptOf (bytes : List ℕ) (s : Script) : Type 0 where
  pub lines : List (List ℕ)
  pub all : parts 10 bytes ≡ lines ++ [] ∷ []
  pub made : begun_by lines start ≡ Some s

-- Line n is the first bad one: the lines before it begin a script, and it can't stand behind them,
-- or it has no line feed.
pub record IsFirstBad (bytes : List ℕ) (n : ℕ) : Type 0 where
  pub before : List (List ℕ)
  pub line : List ℕ
  pub later : List (List ℕ)
  pub number : n ≡ length before + 1
  pub all : parts 10 bytes ≡ before ++ line ∷ later
  pub script : Script
  pub begun : begun_by before start ≡ Some script
  pub stuck : ((0 < length later) × (step script line ≡ None)) ⊎ ((later ≡ []) × (0 < length line))
