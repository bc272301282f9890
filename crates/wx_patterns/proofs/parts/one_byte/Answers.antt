use Rattle.std.proofs.Common.{Bool, false, ◌<◌, length, get_or, ap, ◌∙◌, arith}
use Rattle.std.specs.Prelude.{◌&&◌}
use Rattle.wx_patterns.specs.Matching.{byte_fits}
use Rattle.wx_patterns.proofs.RowLemmas.{moved-step}
use Rattle.wx_patterns.proofs.parts.one_byte.Goals as goal

pub loop-i-preserved : goal.loop-i-preserved
loop-i-preserved c =
    let lt : c.loop-i.i < length c.loop-i.row = omega arith in
    moved-step (byte_fits c.args.byte) c.loop-i.i c.loop-i.row c.args.name.now c.loop-i.before (get_or c.loop-i.row c.loop-i.i false && c.byte_fits_at.result) false lt (ap (λ (b : Bool). get_or c.loop-i.row c.loop-i.i false && b) c.byte_fits_at.ensures)
    ∙ c.loop-i.invariant
