use Rattle.std.proofs.Common.{arith, ◌≤◌, ◌+◌, length}
use Rattle.wx_paths.specs.Paths.{path_parts}
use Rattle.wx_lane.proofs.WalkLemmas.{parts-short}
use Rattle.wx_lane.proofs.meeting.meet_all.Goals as goal

pub meet_part-at-requires : goal.meet_part-at-requires
meet_part-at-requires c = let k : length (path_parts c.args.path.now) ≤ length c.args.path.now + 1 = parts-short c.args.path.now in omega arith

pub returns-clause-within : goal.returns-clause-within
returns-clause-within c = let k : length (path_parts c.args.path.now) ≤ length c.args.path.now + 1 = parts-short c.args.path.now in omega arith
