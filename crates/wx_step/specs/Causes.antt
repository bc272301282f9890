-- Why a step asks for a rebuild of the backend.
use Rattle.std.specs.Prelude.{◌≡◌, ◌⊎◌, true, false, List, [], ◌∷◌, ◌++◌}
use Rattle.wx_watch.specs.declared.notify_fault.NotifyFault.{NotifyFault}
use Rattle.wx_tree.specs.Lists.{In}
use Rattle.wx_tree.specs.Paths.{Path}
use Rattle.wx_recursor.specs.Owners.{has_path}
use Rattle.wx_recursor.specs.States.{RecursorState}
use Rattle.wx_recursor.specs.Steps.{has_new}
use Rattle.wx_recursor.specs.declared.errors.ShownError.{ShownError}
use Rattle.wx_recursor.specs.declared.errors.ShownError.TheVariants.{PathAdd, PathRemove}

-- the watch of a path failed, the first time in this epoch, and this was shown
pub record WatchFailed (failed : List Path) (shown : List ShownError) : Type 0 where
  pub path : Path
  pub fault : NotifyFault
  pub first : has_path path failed ≡ false
  pub is_shown : In (PathAdd path fault) shown

-- the unwatch of a path failed, and this was shown
pub record UnwatchFailed (shown : List ShownError) : Type 0 where
  pub path : Path
  pub fault : NotifyFault
  pub is_shown : In (PathRemove path fault) shown

-- the identity of a path changed: what is known of it isn't replayed
pub record IdentityChanged (old new : List Path) : Type 0 where
  pub path : Path
  pub excluded : new ≡ old ++ path ∷ []

-- Why a step from one state to another asks for a rebuild: a watch or an unwatch failed, the identity of a path changed, or a
-- representative that others share went.
abbrev pub Cause : RecursorState → RecursorState → Type 0
Cause s t = WatchFailed s.failed t.shown ⊎ (UnwatchFailed t.shown ⊎ (IdentityChanged s.excluded t.excluded ⊎ (has_new t.lost s.lost ≡ true)))
