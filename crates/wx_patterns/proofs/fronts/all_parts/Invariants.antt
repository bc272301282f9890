use Rattle.std.proofs.Common.{◌≡◌, drop}
use Rattle.wx_patterns.specs.Rows.{behind_parts}
use Rattle.wx_patterns.proofs.fronts.all_parts.Given as goal

abbrev pub invariant-loop-i : goal.invariant-loop-i
invariant-loop-i l = behind_parts (drop l.i l.parts) l.row l.names ≡ behind_parts l.parts l.fn.row l.names
