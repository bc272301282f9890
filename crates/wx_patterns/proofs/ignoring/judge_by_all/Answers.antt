use Rattle.std.proofs.Common.{◌<◌, List, Bool, length, ap, ◌∙◌, arith}
use Rattle.std.specs.Prelude.{not}
use Rattle.wx_patterns.specs.Matching.{matches}
use Rattle.wx_patterns.specs.Rows.{judged, of_fronts}
use Rattle.wx_patterns.proofs.WordLemmas.{judged-more}
use Rattle.wx_patterns.proofs.ignoring.judge_by_all.Goals as goal

pub loop-pattern-preserved : goal.loop-pattern-preserved
loop-pattern-preserved c =
    let lt : c.loop-pattern.pattern-index < length c.args.patterns.now = omega arith in
    c.in_ok-judge_by.ensures
    ∙ ap (λ (v : List Bool). judged (not c.pattern-item.result.negated) (of_fronts (matches c.pattern-item.result.parts) c.args.names.now) v) c.loop-pattern.invariant
    ∙ judged-more c.args.patterns.now c.loop-pattern.pattern-index c.pattern-item.result c.args.names.now lt c.pattern-item.is
