use Rattle.std.proofs.Common.{◌≡◌, true, false, List, Bool, ◌∷◌, ◌++◌, length, replicate, take, drop, ap, ◌∙◌, arith}
use Rattle.wx_patterns.specs.Rows.{behind_parts}
use Rattle.wx_patterns.proofs.FrontLemmas.{written_back, parts_matched}
use Rattle.wx_patterns.proofs.fronts.matched_fronts.Goals as goal

pub returns : goal.returns
returns c =
    let n : c.in_ok-row.row.len ≡ length c.all_parts.new.row = omega arith in
    let begun : c.all_parts.new.row ≡ behind_parts c.args.parts.now (true ∷ replicate (length c.args.names.now) false) c.args.names.now =
    c.in_ok-all_parts.ensures ∙ ap (λ (v : List Bool). behind_parts c.args.parts.now v c.args.names.now) (c.as_mut_slice.ensures.value ∙ c.in_ok-row.ensures) in
    written_back c.all_parts.new.row c.in_ok-row.row.items c.in_ok-row.row.len n ∙ parts_matched c.args.parts.now c.args.names.now c.all_parts.new.row begun
