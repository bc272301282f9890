use Rattle.std.proofs.Common.{◌≡◌, length, ◌++◌}
use Rattle.std.specs.Prelude.{filter, not}
use Rattle.wx_recursor.specs.Identities.{has_identity}
use Rattle.wx_recursor.specs.Rebuilds.{representatives}
use Rattle.wx_rebuild.proofs.standing.put_guarding.Given as goal

abbrev pub invariant-loop-rest : goal.invariant-loop-rest
invariant-loop-rest l = l.out.items ++ representatives (filter (λ g. not (has_identity g.identity l.fn.known)) l.rest) l.fn.guards ≡ l.fn.out.items ++ representatives (filter (λ g. not (has_identity g.identity l.fn.known)) l.fn.registrations) l.fn.guards

abbrev pub decreases-loop-rest : goal.decreases-loop-rest
decreases-loop-rest l = length l.rest
