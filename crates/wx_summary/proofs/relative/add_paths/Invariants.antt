use Rattle.std.proofs.Common.{◌≡◌, ◌++◌, map}
use Rattle.wx_keys.specs.Tags.{paths}
use Rattle.wx_summary.specs.Summaries.{relative}
use Rattle.wx_summary.proofs.relative.add_paths.Given as goal

abbrev pub invariant-loop-path : goal.invariant-loop-path
invariant-loop-path l = l.texts.items ++ map (λ found. relative l.above found.0) l.path-iterator ≡ l.fn.texts.items ++ map (λ found. relative l.fn.above found.0) (paths l.fn.event.tags)
