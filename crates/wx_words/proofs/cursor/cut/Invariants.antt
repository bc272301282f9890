use Rattle.wx_words.proofs.CutLaws.{NotBefore}
use Rattle.wx_words.proofs.cursor.cut.Given as goal

abbrev pub invariant-loop-i : goal.invariant-loop-i
invariant-loop-i l = NotBefore l.line l.byte l.i
