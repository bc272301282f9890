use Rattle.std.proofs.Common.{◌≡◌, None, take}
use Rattle.wx_mem_tree.specs.Indexed.{place_of}
use Rattle.wx_mem_tree.proofs.index.place_of.Given as goal

abbrev pub invariant-loop-at : goal.invariant-loop-at
invariant-loop-at l = place_of l.fn.path (take l.at l.fn.entries) ≡ None
