use Rattle.std.proofs.Common.{◌≡◌, suc, ◌-◌, length, sym, ap, arith}
use Rattle.wx_patterns.specs.Lines.{is_slash}
use Rattle.wx_patterns.proofs.LastLemmas.{last_or-at}
use Rattle.wx_patterns.proofs.pattern.ends_with_slash.Goals as goal

pub returns-in-len1-up-clause-slash : goal.returns-in-len1-up-clause-slash
returns-in-len1-up-clause-slash c =
    let some : length c.args.line.now ≡ suc (length c.args.line.now - 1) = omega (arith, c.in-len1-up.len_at_least) in
    ap is_slash (sym (last_or-at 0 c.args.line.now (length c.args.line.now - 1) 0 some))
