use Rattle.std.proofs.Common.{◌≡◌, drop}
use Rattle.std.specs.List.{list_any}
use Rattle.wx_patterns.proofs.ignoring.any.Given as goal

abbrev pub invariant-loop-front : goal.invariant-loop-front
invariant-loop-front l = list_any (λ front. front) (drop l.front-index l.fronts) ≡ list_any (λ front. front) l.fronts
