use Rattle.std.proofs.Common.{◌≡◌, length}
use Rattle.std.specs.List.{list_all}
use Rattle.wx_words.specs.Line.{parts}
use Rattle.wx_patterns.specs.Lines.{is_part}
use Rattle.wx_patterns.proofs.pattern.are_parts.Given as goal

abbrev pub invariant-loop-piece : goal.invariant-loop-piece
invariant-loop-piece l = list_all is_part (parts 47 l.rest) ≡ list_all is_part (parts 47 l.text)

abbrev pub decreases-loop-piece : goal.decreases-loop-piece
decreases-loop-piece l = length l.rest
