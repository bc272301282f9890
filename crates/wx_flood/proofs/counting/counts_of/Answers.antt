use Rattle.std.proofs.Common.{ap, ◌∙◌, arith}
use Rattle.wx_print.proofs.PrintLemmas.{newest_first}
use Rattle.wx_flood.specs.Summaries.{counted}
use Rattle.wx_flood.specs.declared.counting.Counts.{Counts}
use Rattle.wx_flood.proofs.counting.counts_of.Goals as goal

pub loop-entry-preserved : goal.loop-entry-preserved
loop-entry-preserved c =
    let step = newest_first c.as_slice-entries.result.now c.loop-entry.entry-index c.entry-item.result (omega arith) c.entry-item.is in
    rw step (c.in_ok-count.ensures ∙ ap (λ (so_far : Counts). counted so_far c.entry-item.result) c.loop-entry.invariant)
