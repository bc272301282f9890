use Rattle.std.proofs.Common.{◌≡◌, ◌++◌}
use Rattle.wx_paths.specs.Paths.{components}
use Rattle.wx_patterns.specs.Ignoring.{below}
use Rattle.wx_patterns.proofs.ignoring.names_below.Given as goal

abbrev pub invariant-loop-part : goal.invariant-loop-part
invariant-loop-part l = l.names ++ l.part-iterator ≡ below l.base (components l.path)
