use Rattle.std.proofs.Common.{◌≡◌, ◌≤◌, ◌+◌, length}
use Rattle.wx_paths.specs.Paths.{path_parts}
use Rattle.wx_lane.specs.Meetings.{meet_all}
use Rattle.wx_lane.proofs.meeting.meet_all.Given as goal

abbrev pub invariant-loop-part : goal.invariant-loop-part
invariant-loop-part l =
    record {
      met : meet_all l.fn.parts l.at l.part-iterator ≡ meet_all l.fn.parts l.fn.from (path_parts l.fn.path);
      within : l.at.depth + length l.part-iterator ≤ l.fn.from.depth + length (path_parts l.fn.path);
    }
