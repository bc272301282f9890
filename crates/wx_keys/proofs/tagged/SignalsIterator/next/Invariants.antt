use Rattle.std.proofs.Common.{◌≡◌, length}
use Rattle.wx_keys.specs.Tags.{signals}
use Rattle.wx_keys.proofs.tagged.SignalsIterator.next.Given as goal

abbrev pub invariant-loop-tag : goal.invariant-loop-tag
invariant-loop-tag l = signals l.self-inside.tags ≡ l.fn.self

abbrev pub decreases-loop-tag : goal.decreases-loop-tag
decreases-loop-tag l = length l.self-inside.tags
