-- The order of priorities.
use Rattle.std.specs.Prelude.{◌≤◌}
use Rattle.wx_events.specs.declared.priority.Priority.{Priority}
use Rattle.wx_events.specs.Priority.{rank}

abbrev pub IsAtMost : Priority → Priority → Type 0
IsAtMost x y = rank x ≤ rank y
