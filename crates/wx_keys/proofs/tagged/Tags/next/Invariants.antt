use Rattle.std.proofs.Common.{◌≡◌, ◌++◌, length}
use Rattle.wx_keys.specs.Tags.{all_tags}
use Rattle.wx_keys.proofs.tagged.Tags.next.Given as goal

abbrev pub invariant-loop-self : goal.invariant-loop-self
invariant-loop-self l = l.self-inside.tags.now ++ all_tags l.self-inside.events.now ≡ l.fn.self

abbrev pub decreases-loop-self : goal.decreases-loop-self
decreases-loop-self l = length l.self-inside.events.now
