use Rattle.std.proofs.Common.{◌≡◌, ◌++◌, false, take, drop}
use Rattle.wx_patterns.specs.Rows.{spread}
use Rattle.wx_patterns.proofs.rows.spread.Given as goal

abbrev pub invariant-loop-i : goal.invariant-loop-i
invariant-loop-i l = take l.i l.row ++ spread l.before (drop l.i l.row) ≡ spread false l.fn.row
