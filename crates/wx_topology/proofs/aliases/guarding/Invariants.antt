use Rattle.std.proofs.Common.{◌≡◌, length, ◌++◌}
use Rattle.std.specs.Prelude.{map}
use Rattle.wx_recursor.specs.Identities.{guard_known}
use Rattle.wx_topology.proofs.aliases.guarding.Given as goal

abbrev pub invariant-loop-rest : goal.invariant-loop-rest
invariant-loop-rest l = l.out.items ++ map guard_known l.rest ≡ map guard_known l.fn.guards

abbrev pub decreases-loop-rest : goal.decreases-loop-rest
decreases-loop-rest l = length l.rest
