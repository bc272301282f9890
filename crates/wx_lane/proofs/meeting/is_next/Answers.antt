use Rattle.std.proofs.Common.{rules, refl, sym, arith}
use Rattle.wx_lane.proofs.NextLemmas.{next_by, next_none}
use Rattle.wx_lane.proofs.meeting.is_next.Goals as goal

pub returns-then-n-parts : goal.returns-then-n-parts
returns-then-n-parts c = next_by c.args.part.now c.args.n _ c.args.parts.now c.as_slice.result.now c.eq.result (omega arith) refl (search rules) (search rules)

pub returns-else-n-parts : goal.returns-else-n-parts
returns-else-n-parts c = sym (next_none c.args.part.now c.args.n c.args.parts.now (omega arith))
