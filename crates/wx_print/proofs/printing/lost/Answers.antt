use Rattle.std.proofs.Common.{arith}
use Rattle.wx_print.proofs.PrintLemmas.{newest_first}
use Rattle.wx_print.proofs.printing.lost.Goals as goal

pub loop-entry-preserved : goal.loop-entry-preserved
loop-entry-preserved c =
    let step = newest_first c.as_slice-entries.result.now c.loop-entry.entry-index c.entry-item.result (omega arith) c.entry-item.is in
    rw step (c.in_ok-note_listed.ensures _ c.loop-entry.invariant.0, c.in_ok-follow.ensures _ c.loop-entry.invariant.0 c.loop-entry.invariant.1)
