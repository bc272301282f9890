use Rattle.std.proofs.Common.{◌≡◌, ◌<◌, List, ℕ, length, ap, ◌∙◌, arith}
use Rattle.wx_patterns.specs.Rows.{behind_part}
use Rattle.wx_patterns.proofs.FrontLemmas.{parts_step}
use Rattle.wx_patterns.proofs.fronts.all_parts.Goals as goal

pub loop-i-preserved : goal.loop-i-preserved
loop-i-preserved c =
    let lt : c.loop-i.i < length c.args.parts.now = omega arith in
    let e : c.next_part.new.row ≡ behind_part c.index-parts-i.result c.is_last-last.result c.loop-i.row c.args.names.now =
    c.in_ok-next_part.ensures ∙ ap (λ (v : List ℕ). behind_part v c.is_last-last.result c.loop-i.row c.args.names.now) c.as_slice.ensures in
    parts_step c.args.parts.now c.loop-i.i c.index-parts-i.result c.is_last-last.result c.loop-i.row c.next_part.new.row c.args.names.now lt c.index-parts-i.is c.is_last-last.ensures e ∙ c.loop-i.invariant
