use Rattle.std.proofs.Common.{◌≡◌, drop}
use Rattle.wx_summary.specs.Summaries.{value_of}
use Rattle.wx_summary.proofs.summary.Summary.get.Given as goal

abbrev pub invariant-loop-pair : goal.invariant-loop-pair
invariant-loop-pair l = value_of (drop l.pair-index l.pair-items) l.name ≡ value_of l.fn.self.pairs l.fn.name
