use Rattle.std.proofs.Common.{Bool, true, false, ◌<◌, length, get_or, ap, ◌∙◌, arith}
use Rattle.std.specs.Prelude.{◌&&◌}
use Rattle.wx_patterns.proofs.RowLemmas.{moved-step}
use Rattle.wx_patterns.proofs.fronts.any_name.Goals as goal

pub loop-i-preserved : goal.loop-i-preserved
loop-i-preserved c =
    let lt : c.loop-i.i < length c.loop-i.row = omega arith in
    moved-step (λ name. true) c.loop-i.i c.loop-i.row c.args.names.now c.loop-i.before (get_or c.loop-i.row c.loop-i.i false && c.is_name_at.result) false lt (ap (λ (b : Bool). get_or c.loop-i.row c.loop-i.i false && b) c.is_name_at.ensures)
    ∙ c.loop-i.invariant
