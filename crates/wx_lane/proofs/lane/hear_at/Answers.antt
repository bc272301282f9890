use Rattle.wx_lane.proofs.HearLemmas.{marked_by}
use Rattle.wx_lane.proofs.lane.hear_at.Goals as goal

pub returns-then-is_waiting : goal.returns-then-is_waiting
returns-then-is_waiting c = marked_by c.args.items.now.items c.args.i c.index.result.now c.index_mut.result.now c.is_waiting.result c.requires c.index.ensures c.index_mut.ensures.value c.is_waiting.ensures c.if-is_waiting.true
