use Rattle.std.proofs.Common.{◌≡◌, drop}
use Rattle.std.specs.List.{list_any}
use Rattle.wx_summary.specs.Groups.{is_of, is_in}
use Rattle.wx_summary.proofs.group.is_in.Given as goal

abbrev pub invariant-loop-tag : goal.invariant-loop-tag
invariant-loop-tag l = list_any (is_of l.group) (drop l.tag-index l.tag-items) ≡ is_in l.fn.group l.fn.event
