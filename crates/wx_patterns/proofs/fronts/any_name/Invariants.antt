use Rattle.std.proofs.Common.{◌≡◌, ◌++◌, true, false, take, drop}
use Rattle.wx_patterns.specs.Rows.{moved}
use Rattle.wx_patterns.proofs.fronts.any_name.Given as goal

abbrev pub invariant-loop-i : goal.invariant-loop-i
invariant-loop-i l = take l.i l.row ++ moved (λ name. true) l.before (drop l.i l.row) (drop l.i l.names) ≡ moved (λ name. true) false l.fn.row l.names
