-- What changed between two listings, as the events that tell it.
use Rattle.std.specs.Prelude.{ℕ, Bool, true, false, not, ◌&&◌, ◌==◌, Option, None, Some, List, [], ◌∷◌, ◌++◌, map, filter}
use Rattle.wx_events.specs.declared.file_type.FileType.{FileType}
use Rattle.wx_events.specs.declared.file_type.FileType.TheVariants.{File, Dir, Symlink, Other}
use Rattle.wx_events.specs.declared.kind.FileEventKind.{FileEventKind}
use Rattle.wx_events.specs.declared.kind.FileEventKind.TheVariants.{Create, Modify, Remove}
use Rattle.wx_events.specs.declared.kind.CreateKind.TheVariants as created
use Rattle.wx_events.specs.declared.kind.RemoveKind.TheVariants as removed
use Rattle.wx_events.specs.declared.kind.ModifyKind.TheVariants as modified
use Rattle.wx_events.specs.declared.kind.DataChange.TheVariants as data_change
use Rattle.wx_notify.specs.declared.notify.Notify.{Notify}
use Rattle.wx_poller.specs.declared.seen.Seen.{Seen}
use Rattle.wx_poller.specs.Listings.{Sight, same_type, seen_at}

abbrev pub removal : FileType → FileEventKind
removal File = Remove removed.File
removal Dir = Remove removed.Folder
removal Symlink = Remove removed.Any
removal Other = Remove removed.Any

abbrev pub creation : FileType → FileEventKind
creation File = Create created.File
creation Dir = Create created.Folder
creation Symlink = Create created.Any
creation Other = Create created.Any

abbrev pub modification : FileType → FileEventKind
modification kind = Modify (modified.Data data_change.Any)

-- the event of this kind about one path
abbrev pub told : (FileType → FileEventKind) → Sight → Notify
told event s = record { kind = event s.1.file_type; paths = record { path = s.0; file_type = Some s.1.file_type } ∷ []; rescan = false; process = None }

abbrev pub has_type : FileType → Option Seen → Bool
has_type kind None = false
has_type kind (Some s) = same_type s.file_type kind

abbrev pub has_stamp : ℕ → Option Seen → Bool
has_stamp stamp None = false
has_stamp stamp (Some s) = s.stamp == stamp

-- the path is in the other listing too, with the same kind
abbrev pub is_kept : List Sight → Sight → Bool
is_kept other s = has_type s.1.file_type (seen_at other s.0)

-- with the same kind, but another stamp
abbrev pub is_modified : List Sight → Sight → Bool
is_modified other s = is_kept other s && not (has_stamp s.1.stamp (seen_at other s.0))

-- Removes first, then creates, then modifications, each by path, as the listings are. A path whose kind changed is removed and
-- created.
abbrev pub changes : List Sight → List Sight → List Notify
changes old new =
    map (told removal) (filter (λ s. not (is_kept new s)) old)
    ++ (map (told creation) (filter (λ s. not (is_kept old s)) new) ++ map (told modification) (filter (is_modified old) new))
