use Rattle.std.proofs.Common.{◌≡◌, true, false, List, Bool, ◌∷◌, ◌++◌, length, replicate, take, drop, ap, ◌∙◌, arith}
use Rattle.wx_patterns.specs.Lists.{last_or}
use Rattle.wx_patterns.specs.Rows.{behind_bytes}
use Rattle.wx_patterns.proofs.FrontLemmas.{written_back, bytes_matched}
use Rattle.wx_patterns.proofs.parts.part_matches.Goals as goal

pub returns : goal.returns
returns c =
    let n : c.in_ok-row.row.len ≡ length c.all_bytes.new.row = omega arith in
    let back : take c.in_ok-row.row.len (c.all_bytes.new.row ++ drop (length c.all_bytes.new.row) c.in_ok-row.row.items) ≡ c.all_bytes.new.row = written_back c.all_bytes.new.row c.in_ok-row.row.items c.in_ok-row.row.len n in
    let begun : c.all_bytes.new.row ≡ behind_bytes c.args.part.now (true ∷ replicate (length c.args.name.now) false) c.args.name.now =
    c.all_bytes.ensures ∙ ap (λ (v : List Bool). behind_bytes c.args.part.now v c.args.name.now) (c.as_mut_slice.ensures.value ∙ c.in_ok-row.ensures) in
    c.last_place.ensures ∙ ap (last_or false) (c.as_slice.ensures.value ∙ back) ∙ bytes_matched c.args.part.now c.args.name.now c.all_bytes.new.row begun
