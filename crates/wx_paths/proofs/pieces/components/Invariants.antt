use Rattle.std.proofs.Common.{◌≡◌, ◌++◌}
use Rattle.wx_paths.specs.Paths.{components}
use Rattle.wx_paths.proofs.pieces.components.Given as goal

abbrev pub invariant-loop-part : goal.invariant-loop-part
invariant-loop-part l = l.parts ++ l.part-iterator ≡ components l.fn.path
