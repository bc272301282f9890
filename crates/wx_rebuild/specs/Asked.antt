-- Why a replay asks for a rebuild of the backend.
use Rattle.std.specs.Prelude.{◌≡◌, ◌⊎◌, true, false, List}
use Rattle.wx_watch.specs.declared.notify_fault.NotifyFault.{NotifyFault}
use Rattle.wx_tree.specs.Lists.{In}
use Rattle.wx_recursor.specs.Identities.{is_path_gone}
use Rattle.wx_recursor.specs.Owning.{is_resource_fault}
use Rattle.wx_recursor.specs.States.{RecursorState}
use Rattle.wx_recursor.specs.declared.answers.Watched.{Watched}
use Rattle.wx_recursor.specs.declared.answers.Watched.TheVariants.{Failed}

-- a fault of a watch but that nothing is there, and that no more can be watched
pub record IsWatchFault (f : NotifyFault) : Type 0 where
  pub there : is_path_gone f ≡ false
  pub room : is_resource_fault f ≡ false

-- it was asked for before, or a watch of the replay failed
abbrev pub ReplayAsksFor : List Watched → RecursorState → Type 0
ReplayAsksFor ws s = (s.asks_rebuild ≡ true) ⊎ ((f : NotifyFault) × In (Failed f) ws × IsWatchFault f)
