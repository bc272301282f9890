use Rattle.std.proofs.Common.{arith}
use Rattle.wx_words.proofs.CutLaws.{cut_here, cut_none}
use Rattle.wx_words.proofs.cursor.cut.Goals as goal

pub returns-then-line-i-clause-parts : goal.returns-then-line-i-clause-parts
returns-then-line-i-clause-parts c = cut_here _ _ _ (omega arith) c.loop-i.invariant c.if-line-i.true

pub returns-clause-parts : goal.returns-clause-parts
returns-clause-parts c = cut_none _ _ c.loop-i.i (omega arith) c.loop-i.invariant
