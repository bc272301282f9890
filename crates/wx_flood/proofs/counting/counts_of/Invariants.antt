use Rattle.std.proofs.Common.{◌≡◌, take, reverse}
use Rattle.wx_flood.specs.Summaries.{counts_of}
use Rattle.wx_flood.proofs.counting.counts_of.Given as goal

abbrev pub invariant-loop-entry : goal.invariant-loop-entry
invariant-loop-entry l = l.found ≡ counts_of (reverse (take l.entry-index l.entries))
