use Rattle.std.proofs.Common.{arith}
use Rattle.wx_index.proofs.OwnerLemmas.{above_ok}
use Rattle.wx_index.proofs.owner_index.add_above.Goals as goal

pub returns-clause-added : goal.returns-clause-added
returns-clause-added c =
    above_ok c.add_level-2.result c.args.path.now c.loop-level.above c.add_level-2.new.above c.depth-depth.result (λ n lt. c.loop-level.invariant.all n (omega (arith, lt, c.loop-level-test.false))) c.depth-depth.ensures c.add_level-2.ensures.added c.add_level-2.ensures.kept
