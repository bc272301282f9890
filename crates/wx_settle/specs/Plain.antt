-- What of a recursor the plain machine keeps: the queue, owners, guards and the paths of registrations.
use Rattle.std.specs.Prelude.{List, [], ◌∷◌, ◌++◌, map}
use Rattle.wx_recursor.specs.Identities.{known_path}
use Rattle.wx_recursor.specs.States.{RecursorState}
use Rattle.wx_recursor.specs.declared.owner.GuardWatch.{GuardWatch}
use Rattle.wx_recursor.specs.declared.work.Item.{Item}
use Rattle.wx_recursor.specs.declared.work.Work.{Work}
use Rattle.wx_recursor.specs.declared.work.Work.TheVariants.{Plain, Probe}
use Rattle.wx_walk.specs.Machine.{State}
use Rattle.wx_walk.specs.declared.plain.Guarded.{Guarded}

abbrev pub item_of : Work → List Item
item_of (Plain i) = i ∷ []
item_of (Probe p owners) = []

abbrev pub plain_queue : List Work → List Item
plain_queue [] = []
plain_queue (w ∷ q) = item_of w ++ plain_queue q

abbrev pub plain_guard : GuardWatch → Guarded
plain_guard g = record { root = g.root; path = g.path }

abbrev pub plain : RecursorState → State
plain s = record { roots = s.roots; queue = plain_queue s.queue; owners = s.owners; guards = map plain_guard s.guards; registrations = map known_path s.registrations; sweep_due = s.sweep_due }
