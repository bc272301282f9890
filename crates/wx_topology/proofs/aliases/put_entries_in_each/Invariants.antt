use Rattle.std.proofs.Common.{◌≡◌, length, ◌++◌}
use Rattle.wx_topology.specs.Entries.{entries_in_each}
use Rattle.wx_topology.proofs.aliases.put_entries_in_each.Given as goal

abbrev pub invariant-loop-rest : goal.invariant-loop-rest
invariant-loop-rest l = l.out.items ++ entries_in_each l.fn.path l.rest (l.fn.known ++ l.fn.guards) ≡ l.fn.out.items ++ entries_in_each l.fn.path l.fn.identities (l.fn.known ++ l.fn.guards)

abbrev pub decreases-loop-rest : goal.decreases-loop-rest
decreases-loop-rest l = length l.rest
