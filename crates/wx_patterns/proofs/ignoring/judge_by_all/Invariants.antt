use Rattle.std.proofs.Common.{◌≡◌, take}
use Rattle.wx_patterns.specs.Ignoring.{hidden_by}
use Rattle.wx_patterns.specs.Rows.{of_fronts}
use Rattle.wx_patterns.proofs.ignoring.judge_by_all.Given as goal

abbrev pub invariant-loop-pattern : goal.invariant-loop-pattern
invariant-loop-pattern l = l.hidden ≡ of_fronts (hidden_by (take l.pattern-index l.patterns)) l.names
