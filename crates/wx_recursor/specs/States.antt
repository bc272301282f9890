-- What a recursor keeps, and what the calls that one step makes answer.
use Rattle.std.specs.Prelude.{ℕ, Bool, List, Option}
use Rattle.wx_watch.specs.declared.notify_fault.NotifyFault.{NotifyFault}
use Rattle.wx_tree.specs.Paths.{Path}
use Rattle.wx_tree.specs.declared.root.Root.{Root}
use Rattle.wx_recursor.specs.declared.answers.BackendPlace.{BackendPlace}
use Rattle.wx_recursor.specs.declared.answers.Found.{Found}
use Rattle.wx_recursor.specs.declared.answers.GuardFound.{GuardFound}
use Rattle.wx_recursor.specs.declared.answers.Watched.{Watched}
use Rattle.wx_recursor.specs.declared.errors.ShownError.{ShownError}
use Rattle.wx_recursor.specs.declared.known.Known.{Known}
use Rattle.wx_recursor.specs.declared.owner.GuardWatch.{GuardWatch}
use Rattle.wx_recursor.specs.declared.owner.Owner.{Owner}
use Rattle.wx_recursor.specs.declared.work.Retry.{Retry}
use Rattle.wx_recursor.specs.declared.work.Work.{Work}

-- All that a recursor keeps. An epoch begins with each reconcile: then no owner has been seen.
pub record RecursorState : Type 0 where
  pub roots : List Root  -- what is to be watched
  pub filter : ℕ  -- the number of the filter that judges candidates
  pub queue : List Work
  pub sweep_due : Bool  -- a sweep of owners is owed
  pub owners : List Owner  -- which root owns which path, and whether it was seen in this epoch
  pub known : List Known  -- the identity of each owned path
  pub guards : List GuardWatch
  pub registrations : List Known  -- what the backend watches: one for each identity, under its representative path
  pub waiting : List Known  -- registrations that wait for replay
  pub retries : List Retry  -- what the next reconcile queues again
  pub failed : List Path  -- paths whose watch failed once in this epoch
  pub skipped : List Path  -- paths whose watch failed twice: they are skipped in this epoch
  pub stopped : Bool  -- nothing more is watched in this epoch
  pub excluded : List Path  -- what the next replay leaves out
  pub tombstones : List Path  -- what was removed
  pub lost : List Path  -- registrations whose representative is lost
  pub deferred : Bool  -- a replay was deferred since the last reconcile
  pub asks_rebuild : Bool  -- a rebuild of the backend is asked for, and wasn't told yet
  pub shown : List ShownError  -- the errors of the step that runs
  pub backend : BackendPlace

-- What the calls of one step answer. A step that doesn't make one of them doesn't read its answer.
pub record Evidence : Type 0 where
  pub found : Found  -- the look at the item
  pub guard_found : GuardFound  -- the search for a guard
  pub watched : Watched  -- the one call of watch, with the second look
  pub undone : Option NotifyFault  -- the unwatch of a path that changed
  pub root_is_safe : Bool  -- the last look at a root finds it there and safe
  pub releases : List (Option NotifyFault)  -- each unwatch of the release, in order
