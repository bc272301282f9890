use Rattle.std.proofs.Common.{◌≡◌, take}
use Rattle.wx_tree.proofs.place.copy_parts.Given as goal

abbrev pub invariant-loop-part : goal.invariant-loop-part
invariant-loop-part l = l.copied.items ≡ take l.part-index l.fn.parts
