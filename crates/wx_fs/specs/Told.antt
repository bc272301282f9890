-- What a step or a replay hands out.
use Rattle.std.specs.Prelude.{◌≡◌, ◌⊎◌, Bool, true, false, List, [], length, map}
use Rattle.wx_watch.specs.declared.watched.Watcher.{Watcher}
use Rattle.wx_error.specs.declared.runtime.RuntimeError.{RuntimeError}
use Rattle.wx_recursor.specs.Calls.{has_work}
use Rattle.wx_recursor.specs.Rebuilds.{replayed}
use Rattle.wx_recursor.specs.States.{Evidence, RecursorState}
use Rattle.wx_recursor.specs.Steps.{stepped, told}
use Rattle.wx_recursor.specs.Written.{handed_error}
use Rattle.wx_recursor.specs.declared.answers.Watched.{Watched}
use Rattle.wx_step.specs.Causes.{Cause}
use Rattle.wx_rebuild.specs.Asked.{ReplayAsksFor}

-- what this state shows is handed out, in order, with its wish for a rebuild, and kept no more
pub record HandsOut (kind : Watcher) (s t : RecursorState) (errors : List RuntimeError) (rebuild : Bool) : Type 0 where
  pub state : t ≡ told s
  pub shown : errors ≡ map (handed_error kind) s.shown
  pub asked : rebuild ≡ s.asks_rebuild

-- A step: by what its calls answered. It asks for a rebuild only where one was asked for before, or for its causes. After the
-- sweep there is no work.
pub record TellsStep (kind : Watcher) (s t : RecursorState) (errors : List RuntimeError) (rebuild : Bool) : Type 0 where
  pub evidence : Evidence
  pub hands : HandsOut kind (stepped evidence s) t errors rebuild
  pub causes : rebuild ≡ true → (s.asks_rebuild ≡ true) ⊎ Cause s (stepped evidence s)
  pub swept : s.queue ≡ [] → has_work t.queue t.sweep_due ≡ false

-- A replay: by an answer for each registration that waited. It asks for a rebuild only where one was asked for before, or where
-- a watch of it failed.
pub record TellsReplay (kind : Watcher) (s t : RecursorState) (errors : List RuntimeError) (rebuild : Bool) : Type 0 where
  pub answers : List Watched
  pub each : length answers ≡ length s.waiting
  pub hands : HandsOut kind (replayed answers s) t errors rebuild
  pub causes : rebuild ≡ true → ReplayAsksFor answers s
