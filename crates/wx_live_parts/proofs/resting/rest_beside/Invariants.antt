use Rattle.std.proofs.Common.{◌≡◌}
use Rattle.wx_live_parts.proofs.resting.rest_beside.Given as goal

abbrev pub invariant-loop : goal.invariant-loop
invariant-loop g l = l.children.faults ≡ l.initial.children.faults
