use Rattle.std.proofs.Common.{◌≡◌, ◌++◌, false, take, drop}
use Rattle.wx_patterns.specs.Matching.{byte_fits}
use Rattle.wx_patterns.specs.Rows.{moved}
use Rattle.wx_patterns.proofs.parts.one_byte.Given as goal

abbrev pub invariant-loop-i : goal.invariant-loop-i
invariant-loop-i l = take l.i l.row ++ moved (byte_fits l.byte) l.before (drop l.i l.row) (drop l.i l.name) ≡ moved (byte_fits l.byte) false l.fn.row l.name
