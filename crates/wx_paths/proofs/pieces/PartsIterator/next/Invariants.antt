use Rattle.std.proofs.Common.{◌≡◌, None, length}
use Rattle.wx_paths.specs.Paths.{path_parts}
use Rattle.wx_paths.proofs.pieces.PartsIterator.next.Given as goal

abbrev pub invariant-loop-self : goal.invariant-loop-self
invariant-loop-self l = (l.self-inside.front ≡ None) × (path_parts l.self-inside.parts.now ≡ l.fn.self)

abbrev pub decreases-loop-self : goal.decreases-loop-self
decreases-loop-self l = length l.self-inside.parts.now
