use Rattle.std.proofs.Common.{false, ◌<◌, length, ◌∙◌, arith}
use Rattle.wx_patterns.specs.Matching.{part_matches}
use Rattle.wx_patterns.proofs.RowLemmas.{moved-step}
use Rattle.wx_patterns.proofs.fronts.one_name.Goals as goal

pub loop-i-preserved : goal.loop-i-preserved
loop-i-preserved c =
    let lt : c.loop-i.i < length c.loop-i.row = omega arith in
    moved-step (part_matches c.args.part.now) c.loop-i.i c.loop-i.row c.args.names.now c.loop-i.before c.in_ok-before.before false lt c.in_ok-before.ensures ∙ c.loop-i.invariant
