use Rattle.std.proofs.Common.{◌≡◌, ◌++◌, false, take, drop}
use Rattle.wx_patterns.specs.Matching.{part_matches}
use Rattle.wx_patterns.specs.Rows.{moved}
use Rattle.wx_patterns.proofs.fronts.one_name.Given as goal

abbrev pub invariant-loop-i : goal.invariant-loop-i
invariant-loop-i l = take l.i l.row ++ moved (part_matches l.part) l.before (drop l.i l.row) (drop l.i l.names) ≡ moved (part_matches l.part) false l.fn.row l.names
