-- What a recursor keeps to, whatever its calls answered.
use Rattle.std.specs.Prelude.{◌≡◌, []}
use Rattle.wx_tree.specs.Lists.{In}
use Rattle.wx_tree.specs.declared.root.Root.{Root}
use Rattle.wx_scan.specs.Told.{AreNames}
use Rattle.wx_recursor.specs.Sound.{AreCovered, AreSound, parts, things}
use Rattle.wx_recursor.specs.States.{RecursorState}
use Rattle.wx_step.specs.Current.{AreAbout, current}

-- No path and no identity is registered twice, and each identity of an owned path or a guard is registered or waits. Each owner
-- covers its path. What is queued and guarded is about the roots that stand, which have names for parts. Nothing that was shown is
-- kept.
pub record IsKept (s : RecursorState) : Type 0 where
  pub sound : AreSound (things s)
  pub covered : AreCovered (parts s)
  pub about : AreAbout s.roots (current s)
  pub named : (r : Root) → In r s.roots → AreNames r.path
  pub told : s.shown ≡ []
