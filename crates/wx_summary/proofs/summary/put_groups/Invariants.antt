use Rattle.std.proofs.Common.{◌≡◌, ◌++◌, drop}
use Rattle.std.specs.List.{filter_map}
use Rattle.wx_summary.specs.Summaries.{group_pair}
use Rattle.wx_summary.proofs.summary.put_groups.Given as goal

abbrev pub invariant-loop-group : goal.invariant-loop-group
invariant-loop-group l = l.pairs ++ filter_map (group_pair l.events) (drop l.group-index l.groups) ≡ l.fn.pairs ++ filter_map (group_pair l.fn.events) l.fn.groups
