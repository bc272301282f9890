use Rattle.std.proofs.Common.{◌≡◌, take}
use Rattle.wx_text.proofs.list.ListCopies.copy.Given as goal

abbrev pub invariant-loop-x : goal.invariant-loop-x
invariant-loop-x g l = l.items.items ≡ take l.x-index l.x-items
