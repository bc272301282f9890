use Rattle.std.proofs.Common.{◌≡◌, length}
use Rattle.wx_journal.specs.AtFront.{read_front}
use Rattle.wx_journal.proofs.AtFrontLaws.{with_front}
use Rattle.wx_journal.proofs.reading.take_front.Given as goal

abbrev pub invariant-loop-items : goal.invariant-loop-items
invariant-loop-items g l = with_front l.items (read_front g.T.Spelled.spelling.read l.line) ≡ read_front g.T.Spelled.spelling.read l.fn.line

abbrev pub decreases-loop-items : goal.decreases-loop-items
decreases-loop-items g l = length l.line
