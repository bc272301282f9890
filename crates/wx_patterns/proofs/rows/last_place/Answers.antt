use Rattle.std.proofs.Common.{◌≡◌, false, suc, ◌-◌, length, sym, arith}
use Rattle.wx_patterns.proofs.LastLemmas.{last_or-at}
use Rattle.wx_patterns.proofs.rows.last_place.Goals as goal

pub returns-in-len1-up : goal.returns-in-len1-up
returns-in-len1-up c =
    let some : length c.args.row.now ≡ suc (length c.args.row.now - 1) = omega (arith, c.in-len1-up.len_at_least) in
    sym (last_or-at false c.args.row.now (length c.args.row.now - 1) false some)
