use Rattle.std.proofs.Common.{take}
use Rattle.wx_index.proofs.OwnerLemmas.{owners_taken}
use Rattle.wx_index.proofs.owner_index.index_of.Goals as goal

pub loop-one-preserved : goal.loop-one-preserved
loop-one-preserved c =
    owners_taken c.args.owners.now c.loop-one.one-index c.one-item.result c.grown-index.result c.loop-one-test.true c.one-item.is
    (c.grown-index.ensures (take c.loop-one.one-index c.args.owners.now) c.loop-one.invariant)
