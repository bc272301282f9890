use Rattle.std.proofs.Common.{◌≡◌, List, Bool, ◌++◌, length, take, drop, ap, ◌∙◌, arith}
use Rattle.std.specs.List.{list_any}
use Rattle.wx_patterns.specs.Ignoring.{hidden_by}
use Rattle.wx_patterns.proofs.FrontLemmas.{written_back}
use Rattle.wx_patterns.proofs.RowLemmas.{some-front}
use Rattle.wx_patterns.proofs.WordLemmas.{nothing_hidden}
use Rattle.wx_patterns.proofs.ignoring.is_hidden.Goals as goal

pub judge_by_all-requires : goal.judge_by_all-requires
judge_by_all-requires c = c.as_mut_slice.ensures.value ∙ c.in_ok-hidden.ensures ∙ nothing_hidden c.args.names.now

pub returns : goal.returns
returns c =
    let n : c.in_ok-hidden.hidden.len ≡ length c.judge_by_all.new.hidden = omega arith in
    let back : take c.in_ok-hidden.hidden.len (c.judge_by_all.new.hidden ++ drop (length c.judge_by_all.new.hidden) c.in_ok-hidden.hidden.items) ≡ c.judge_by_all.new.hidden = written_back c.judge_by_all.new.hidden c.in_ok-hidden.hidden.items c.in_ok-hidden.hidden.len n in
    c.any_hidden.ensures ∙ ap (λ (v : List Bool). list_any (λ front. front) (drop 1 v)) (c.as_slice.ensures.value ∙ back ∙ c.in_ok-judge_by_all.ensures) ∙ some-front (hidden_by c.args.patterns.now) c.args.names.now
