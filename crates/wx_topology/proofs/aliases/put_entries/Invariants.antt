use Rattle.std.proofs.Common.{◌≡◌, length, ◌++◌}
use Rattle.std.specs.Prelude.{map}
use Rattle.wx_topology.specs.Entries.{entry_in}
use Rattle.wx_topology.proofs.aliases.put_entries.Given as goal

abbrev pub invariant-loop-rest : goal.invariant-loop-rest
invariant-loop-rest l = l.out.items ++ map (λ q. entry_in l.fn.path q) l.rest ≡ l.fn.out.items ++ map (λ q. entry_in l.fn.path q) l.fn.directories

abbrev pub decreases-loop-rest : goal.decreases-loop-rest
decreases-loop-rest l = length l.rest
