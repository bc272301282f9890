use Rattle.std.proofs.Common.{◌+◌, ◌≤◌, length}
use Rattle.wx_script.proofs.ScanLemmas.{Begun}
use Rattle.wx_script.proofs.reading.scan_into.Given as goal

abbrev pub invariant-loop-line : goal.invariant-loop-line
invariant-loop-line l = record {
  begun : Begun l.bytes l.rest l.number l.script;
  small : l.number + length l.rest ≤ 1 + length l.bytes;
}

abbrev pub decreases-loop-line : goal.decreases-loop-line
decreases-loop-line l = length l.rest
