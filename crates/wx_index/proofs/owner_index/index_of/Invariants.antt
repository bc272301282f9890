use Rattle.std.proofs.Common.{take}
use Rattle.wx_index.specs.Owned.{AreOwnersIndexed}
use Rattle.wx_index.proofs.owner_index.index_of.Given as goal

abbrev pub invariant-loop-one : goal.invariant-loop-one
invariant-loop-one l = AreOwnersIndexed (take l.one-index l.fn.owners) l.index
