-- The texts are sorted, and then each is kept once.
use Rattle.wx_summary.proofs.SetLemmas.{sorted_once}
use Rattle.wx_summary.proofs.summary.distinct.Goals as goal

pub returns : goal.returns
returns c = sorted_once _ _ _ c.in_ok-sorted.ensures.moved c.in_ok-sorted.ensures.rising c.without_repeats.ensures
