use Rattle.std.proofs.Common.{take}
use Rattle.wx_index.proofs.AskedLemmas.{indexed_taken}
use Rattle.wx_index.proofs.known_index.index_of.Goals as goal

pub loop-one-preserved : goal.loop-one-preserved
loop-one-preserved c =
    indexed_taken c.args.known.now c.loop-one.one-index c.one-item.result c.grown-index.result c.loop-one-test.true c.one-item.is
    (c.grown-index.ensures (take c.loop-one.one-index c.args.known.now) c.loop-one.invariant)
