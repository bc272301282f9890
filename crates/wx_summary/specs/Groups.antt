-- Groups of changes.
use Rattle.std.specs.Prelude.{ℕ, Bool, true, false, List, [], ◌∷◌, codes}
use Rattle.std.specs.List.{list_any}
use Rattle.wx_events.specs.declared.event.Event.{Event}
use Rattle.wx_events.specs.declared.event.Tag.{Tag}
use Rattle.wx_events.specs.declared.kind.FileEventKind.{FileEventKind}
use Rattle.wx_events.specs.declared.kind.AccessKind.{AccessKind}
use Rattle.wx_events.specs.declared.kind.AccessMode.{AccessMode}
use Rattle.wx_events.specs.declared.kind.ModifyKind.{ModifyKind}
use Rattle.wx_summary.specs.declared.group.Group.{Group}
use Rattle.wx_summary.specs.declared.group.Group.TheVariants.{Created, MetaChanged, OtherwiseChanged, Removed, Renamed, Written}

-- the group of what happened to a file
abbrev pub group_of : FileEventKind → Group
group_of (FileEventKind.Access (AccessKind.Close AccessMode.Write)) = Written
group_of (FileEventKind.Create kind) = Created
group_of (FileEventKind.Modify (ModifyKind.Data change)) = Written
group_of (FileEventKind.Modify (ModifyKind.Metadata kind)) = MetaChanged
group_of (FileEventKind.Modify (ModifyKind.Name mode)) = Renamed
group_of (FileEventKind.Remove kind) = Removed
group_of kind = OtherwiseChanged

abbrev pub group_name : Group → List ℕ
group_name Created = codes "CREATED"
group_name MetaChanged = codes "META_CHANGED"
group_name OtherwiseChanged = codes "OTHERWISE_CHANGED"
group_name Removed = codes "REMOVED"
group_name Renamed = codes "RENAMED"
group_name Written = codes "WRITTEN"

-- all groups, by rising names
abbrev pub groups : List Group
groups = Created ∷ MetaChanged ∷ OtherwiseChanged ∷ Removed ∷ Renamed ∷ Written ∷ []

-- whether both are the same
abbrev pub is_same : Group → Group → Bool
is_same Created Created = true
is_same MetaChanged MetaChanged = true
is_same OtherwiseChanged OtherwiseChanged = true
is_same Removed Removed = true
is_same Renamed Renamed = true
is_same Written Written = true
is_same group other = false

-- whether a tag is a kind of this group
abbrev pub is_of : Group → Tag → Bool
is_of group (Tag.FileEventKind kind) = is_same (group_of kind) group
is_of group tag = false

-- whether an event is of this group: it may be of several
abbrev pub is_in : Group → Event → Bool
is_in group event = list_any (is_of group) event.tags
