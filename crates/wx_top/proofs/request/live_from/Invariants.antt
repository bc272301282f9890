use Rattle.std.proofs.Common.{◌≡◌, ◌+◌, ◌<◌, length}
use Rattle.wx_top.specs.Requests.{live_behind, live_from}
use Rattle.wx_top.proofs.request.live_from.Given as goal

abbrev pub invariant-loop-word : goal.invariant-loop-word
invariant-loop-word l = record {
  same : live_behind l.room l.rest l.turns l.from l.before ≡ live_from l.words l.turns l.from;
  small : l.before + length l.rest ≡ l.from + 1 + length l.words;
  behind : l.from < l.before;
}

abbrev pub decreases-loop-word : goal.decreases-loop-word
decreases-loop-word l = length l.rest
