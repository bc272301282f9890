use Rattle.std.proofs.Common.{◌≡◌, ◌++◌, drop}
use Rattle.std.specs.List.{flat_map}
use Rattle.wx_summary.specs.Summaries.{changed_in, changed}
use Rattle.wx_summary.proofs.relative.changed.Given as goal

abbrev pub invariant-loop-event : goal.invariant-loop-event
invariant-loop-event l = l.texts.items ++ flat_map (changed_in l.above l.group) (drop l.event-index l.events) ≡ changed l.fn.above l.fn.group l.fn.events
