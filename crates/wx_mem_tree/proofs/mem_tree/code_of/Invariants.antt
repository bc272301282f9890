use Rattle.std.proofs.Common.{◌≡◌, length}
use Rattle.wx_mem_tree.specs.Entries.{code_of}
use Rattle.wx_mem_tree.proofs.mem_tree.code_of.Given as goal

abbrev pub invariant-loop-rest : goal.invariant-loop-rest
invariant-loop-rest l = code_of l.rest l.fn.look ≡ code_of l.fn.failing l.fn.look

abbrev pub decreases-loop-rest : goal.decreases-loop-rest
decreases-loop-rest l = length l.rest
