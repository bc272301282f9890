use Rattle.std.proofs.Common.{rules}
use Rattle.wx_lane.proofs.KeptLemmas.{risen_by}
use Rattle.wx_lane.proofs.lane.rises.Goals as goal

pub returns-then-rising : goal.returns-then-rising
returns-then-rising c = rw c.if-rising.true (risen_by c.args.name c.args.items.now.len c.args.items.now.items c.in-Some.last.now c.args.items.now.ok.0 (search rules) (search rules))
