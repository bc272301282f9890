use Rattle.std.proofs.Common.{false, ◌<◌, length, ◌∙◌, arith}
use Rattle.wx_patterns.proofs.RowLemmas.{judged-step}
use Rattle.wx_patterns.proofs.ignoring.judge.Goals as goal

pub loop-i-preserved : goal.loop-i-preserved
loop-i-preserved c =
    let lt : c.loop-i.i < length c.loop-i.hidden = omega arith in
    judged-step c.args.word c.loop-i.i c.loop-i.hidden c.args.row.now c.word_at.result false lt c.word_at.ensures ∙ c.loop-i.invariant
