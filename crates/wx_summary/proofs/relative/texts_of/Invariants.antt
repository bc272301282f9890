use Rattle.std.proofs.Common.{◌≡◌, ◌++◌}
use Rattle.wx_summary.proofs.relative.texts_of.Given as goal

abbrev pub invariant-loop-part : goal.invariant-loop-part
invariant-loop-part l = l.texts.items ++ l.part-iterator ≡ l.fn.parts
