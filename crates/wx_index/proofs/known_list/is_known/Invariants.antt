use Rattle.std.proofs.Common.{◌≡◌, length, map}
use Rattle.wx_recursor.specs.Owners.{has_path}
use Rattle.wx_index.proofs.known_list.is_known.Given as goal

abbrev pub invariant-loop-rest : goal.invariant-loop-rest
invariant-loop-rest l = has_path l.fn.path (map (λ k. k.path) l.rest) ≡ has_path l.fn.path (map (λ k. k.path) l.fn.known)

abbrev pub decreases-loop-rest : goal.decreases-loop-rest
decreases-loop-rest l = length l.rest
