-- What the tags of events hold.
use Rattle.std.specs.Prelude.{ℕ, Option, None, Some, List}
use Rattle.std.specs.List.{filter_map, flat_map}
use Rattle.wx_events.specs.declared.event.Event.{Event}
use Rattle.wx_events.specs.declared.event.Tag.{Tag}
use Rattle.wx_events.specs.declared.file_type.FileType.{FileType}
use Rattle.wx_events.specs.declared.process.Signal.{Signal}
use Rattle.wx_events.specs.declared.process.ProcessEnd.{ProcessEnd}

-- the tags of all these events, in order
abbrev pub all_tags : List Event → List Tag
all_tags events = flat_map (λ event. event.tags) events

abbrev pub signal_in : Tag → Option Signal
signal_in (Tag.Signal s) = Some s
signal_in tag = None

-- a path, and what it leads to
abbrev pub path_in : Tag → Option (List ℕ × Option FileType)
path_in (Tag.Path path file_type) = Some (path, file_type)
path_in tag = None

-- an end, where it is known
abbrev pub completion_in : Tag → Option (Option ProcessEnd)
completion_in (Tag.ProcessCompletion end) = Some end
completion_in tag = None

-- what these tags hold of each, in order
abbrev pub signals : List Tag → List Signal
signals tags = filter_map signal_in tags

abbrev pub paths : List Tag → List (List ℕ × Option FileType)
paths tags = filter_map path_in tags

abbrev pub completions : List Tag → List (Option ProcessEnd)
completions tags = filter_map completion_in tags
