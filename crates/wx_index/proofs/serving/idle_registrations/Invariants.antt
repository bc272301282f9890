use Rattle.std.proofs.Common.{◌≡◌, length}
use Rattle.std.specs.Prelude.{filter, not}
use Rattle.wx_recursor.specs.Holding.{deepest_first, serves}
use Rattle.wx_recursor.specs.Steps.{idle_registrations}
use Rattle.wx_index.proofs.serving.idle_registrations.Given as goal

abbrev pub invariant-loop-rest : goal.invariant-loop-rest
invariant-loop-rest l = deepest_first (filter (λ g. not (serves l.fn.known l.fn.guards g.identity)) l.rest) l.out.items ≡ idle_registrations l.fn.known l.fn.guards l.fn.registrations

abbrev pub decreases-loop-rest : goal.decreases-loop-rest
decreases-loop-rest l = length l.rest
