use Rattle.std.proofs.Common.{◌≡◌, ◌++◌, length}
use Rattle.wx_words.specs.Line.{parts}
use Rattle.wx_patterns.proofs.pattern.put_parts.Given as goal

abbrev pub invariant-loop-piece : goal.invariant-loop-piece
invariant-loop-piece l = l.out ++ parts 47 l.rest ≡ l.fn.out ++ parts 47 l.text

abbrev pub decreases-loop-piece : goal.decreases-loop-piece
decreases-loop-piece l = length l.rest
