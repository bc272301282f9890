-- What is queued and guarded is about the roots of the last reconcile.
use Rattle.std.specs.Prelude.{List}
use Rattle.wx_tree.specs.Lists.{In}
use Rattle.wx_tree.specs.declared.root.Root.{Root}
use Rattle.wx_recursor.specs.Sound.{IsItemOf}
use Rattle.wx_recursor.specs.States.{RecursorState}
use Rattle.wx_recursor.specs.declared.owner.GuardWatch.{GuardWatch}
use Rattle.wx_recursor.specs.declared.work.Work.{Work}
use Rattle.wx_recursor.specs.declared.work.Work.TheVariants.{Plain, Probe}

-- the roots, what guards them, and what is queued
pub record Current : Type 0 where
  pub roots : List Root
  pub guards : List GuardWatch
  pub queue : List Work

abbrev pub current : RecursorState → Current
current s = record { roots = s.roots; guards = s.guards; queue = s.queue }

-- it is about one of these roots. A probe looks for its roots when it is done
abbrev pub IsWorkAbout : List Root → Work → Type 0
IsWorkAbout roots (Plain i) = IsItemOf roots i
IsWorkAbout roots (Probe p owners) = Unit {0}

-- These are the roots, and each queued item and guard is about one of them.
pub record AreAbout (given : List Root) (x : Current) : Type 0 where
  pub roots : (r : Root) → In r x.roots → In r given
  pub stand : (r : Root) → In r given → In r x.roots
  pub guards : (g : GuardWatch) → In g x.guards → In g.root given
  pub queue : (w : Work) → In w x.queue → IsWorkAbout given w
