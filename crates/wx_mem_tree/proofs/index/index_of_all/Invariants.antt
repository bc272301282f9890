use Rattle.std.proofs.Common.{take}
use Rattle.wx_mem_tree.specs.Indexed.{AreIndexed}
use Rattle.wx_mem_tree.proofs.index.index_of_all.Given as goal

abbrev pub invariant-loop-at : goal.invariant-loop-at
invariant-loop-at l = AreIndexed (take l.at l.fn.entries) l.index
