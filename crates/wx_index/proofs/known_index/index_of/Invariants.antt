use Rattle.std.proofs.Common.{take}
use Rattle.wx_index.specs.Keys.{AreIndexed}
use Rattle.wx_index.proofs.known_index.index_of.Given as goal

abbrev pub invariant-loop-one : goal.invariant-loop-one
invariant-loop-one l = AreIndexed (take l.one-index l.fn.known) l.index
