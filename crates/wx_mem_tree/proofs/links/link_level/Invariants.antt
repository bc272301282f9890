use Rattle.std.proofs.Common.{◌≤◌, length}
use Rattle.wx_mem_tree.proofs.links.link_level.Given as goal

abbrev pub invariant-loop-level : goal.invariant-loop-level
invariant-loop-level l = l.level ≤ length l.fn.path

abbrev pub decreases-loop-level : goal.decreases-loop-level
decreases-loop-level l = l.level
