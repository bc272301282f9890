-- What a notification says of the tree.
use Rattle.std.specs.Prelude.{ℕ, Bool, true, false, if◌then◌else◌, List, [], ◌∷◌, ◌++◌}
use Rattle.wx_events.specs.declared.kind.FileEventKind.{FileEventKind}
use Rattle.wx_events.specs.declared.kind.FileEventKind.TheVariants as event
use Rattle.wx_events.specs.declared.kind.ModifyKind.{ModifyKind}
use Rattle.wx_events.specs.declared.kind.ModifyKind.TheVariants as modify
use Rattle.wx_events.specs.declared.kind.RenameMode.{RenameMode}
use Rattle.wx_events.specs.declared.kind.RenameMode.TheVariants as name
use Rattle.wx_notify.specs.declared.notify.Notify.{Notify}
use Rattle.wx_notify.specs.declared.notify.NotifyPath.{NotifyPath}
use Rattle.wx_lane.specs.declared.topology.Said.{Said}
use Rattle.wx_lane.specs.declared.topology.Said.TheVariants as said
use Rattle.wx_lane.specs.declared.topology.Topology.{Topology}
use Rattle.wx_lane.specs.declared.topology.Topology.TheVariants.{Create, Remove, Rename, Ambiguous, Rescan}

-- what is said of one path
abbrev pub message : Said → List ℕ → Topology
message said.Create path = Create path
message said.Remove path = Remove path
message said.Ambiguous path = Ambiguous path

-- this of each path, in order
abbrev pub each : (List ℕ → Topology) → List NotifyPath → List Topology
each say [] = []
each say (p ∷ ps) = say p.path ∷ each say ps

-- both names of a renamed file: the second is the new one. Of paths more, or of fewer, nothing more is known
abbrev pub renamed : List NotifyPath → List Topology
renamed [] = []
renamed (p ∷ []) = Ambiguous p.path ∷ []
renamed (p ∷ q ∷ ps) = Rename p.path q.path ∷ each (message said.Ambiguous) ps

-- a name was changed
abbrev pub by_name : RenameMode → List NotifyPath → List Topology
by_name name.Any ps = each (message said.Ambiguous) ps
by_name name.To ps = each (message said.Ambiguous) ps
by_name name.From ps = each (message said.Remove) ps
by_name name.Both ps = renamed ps
by_name name.Other ps = each (message said.Ambiguous) ps

-- something was modified: only a change of a name is one of the tree
abbrev pub by_change : ModifyKind → List NotifyPath → List Topology
by_change modify.Any ps = []
by_change (modify.Data d) ps = []
by_change (modify.Metadata m) ps = []
by_change (modify.Name mode) ps = by_name mode ps
by_change modify.Other ps = []

abbrev pub by_kind : FileEventKind → List NotifyPath → List Topology
by_kind event.Any ps = each (message said.Ambiguous) ps
by_kind (event.Access a) ps = []
by_kind (event.Create c) ps = each (message said.Create) ps
by_kind (event.Modify m) ps = by_change m ps
by_kind (event.Remove r) ps = each (message said.Remove) ps
by_kind event.Other ps = each (message said.Ambiguous) ps

-- What a notification says: that something was missed comes first.
abbrev pub topology_messages : Notify → List Topology
topology_messages n = (if n.rescan then Rescan ∷ [] else []) ++ by_kind n.kind n.paths

abbrev pub has_message : List Topology → Bool
has_message [] = false
has_message (m ∷ ms) = true

-- the notification has changes: it says something of the tree
abbrev pub has_changes : Notify → Bool
has_changes n = has_message (topology_messages n)
