use Rattle.std.proofs.Common.{◌≡◌, ◌++◌, length, map}
use Rattle.wx_tree.specs.Places.{spelled}
use Rattle.wx_mem_tree.specs.Children.{paths_at}
use Rattle.wx_mem_tree.proofs.entry.paths_at.Given as goal

abbrev pub invariant-loop-rest : goal.invariant-loop-rest
invariant-loop-rest l = l.paths ++ map spelled (paths_at l.rest l.fn.entries) ≡ map spelled (paths_at l.fn.places l.fn.entries)

abbrev pub decreases-loop-rest : goal.decreases-loop-rest
decreases-loop-rest l = length l.rest
