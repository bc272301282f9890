use Rattle.std.proofs.Common.{◌≡◌, length}
use Rattle.wx_keys.specs.Tags.{paths}
use Rattle.wx_keys.proofs.tagged.PathsIterator.next.Given as goal

abbrev pub invariant-loop-tag : goal.invariant-loop-tag
invariant-loop-tag l = paths l.self-inside.tags ≡ l.fn.self

abbrev pub decreases-loop-tag : goal.decreases-loop-tag
decreases-loop-tag l = length l.self-inside.tags
