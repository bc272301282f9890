use Rattle.std.proofs.Common.{◌≡◌, ◌++◌, take, drop}
use Rattle.wx_patterns.specs.Rows.{judged}
use Rattle.wx_patterns.proofs.ignoring.judge.Given as goal

abbrev pub invariant-loop-i : goal.invariant-loop-i
invariant-loop-i l = take l.i l.hidden ++ judged l.word (drop l.i l.row) (drop l.i l.hidden) ≡ judged l.word l.row l.fn.hidden
