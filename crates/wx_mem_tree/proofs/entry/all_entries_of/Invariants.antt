use Rattle.std.proofs.Common.{◌≡◌, ◌++◌, length, map}
use Rattle.wx_tree.specs.Places.{spelled}
use Rattle.wx_mem_tree.specs.Entries.{entries_of}
use Rattle.wx_mem_tree.proofs.entry.all_entries_of.Given as goal

abbrev pub invariant-loop-rest : goal.invariant-loop-rest
invariant-loop-rest l = l.paths ++ map spelled (entries_of l.fn.path l.rest) ≡ map spelled (entries_of l.fn.path l.fn.entries)

abbrev pub decreases-loop-rest : goal.decreases-loop-rest
decreases-loop-rest l = length l.rest
