-- The event that a notification becomes.
use Rattle.std.specs.Prelude.{ℕ, Option, None, Some, List, [], ◌∷◌, ◌++◌}
use Rattle.wx_events.specs.declared.event.Event.{Event}
use Rattle.wx_events.specs.declared.event.Tag.{Tag}
use Rattle.wx_events.specs.declared.source.Source.{Source}
use Rattle.wx_paths.specs.Paths.{normalize}
use Rattle.wx_notify.specs.declared.notify.Notify.{Notify}
use Rattle.wx_notify.specs.declared.notify.NotifyPath.{NotifyPath}

-- a tag for each path, without `.` and `..`, with what it leads to
abbrev pub path_tags : List NotifyPath → List Tag
path_tags [] = []
path_tags (p ∷ ps) = Tag.Path (normalize p.path) p.file_type ∷ path_tags ps

-- and one for the process, where it is known
abbrev pub process_tags : Option ℕ → List Tag
process_tags None = []
process_tags (Some id) = Tag.Process id ∷ []

-- It comes from files, and has what happened, then the paths, then the process.
abbrev pub event_of : Notify → Event
event_of n = record { tags = Tag.Source Source.Filesystem ∷ Tag.FileEventKind n.kind ∷ path_tags n.paths ++ process_tags n.process }
