use Rattle.std.proofs.Common.{◌≡◌, map, drop}
use Rattle.std.specs.List.{fold}
use Rattle.wx_paths.specs.Paths.{both_begin, components}
use Rattle.wx_paths.proofs.prefix.shared_parts.Given as goal

abbrev pub invariant-loop-path : goal.invariant-loop-path
invariant-loop-path l = fold both_begin l.parts.items (map components (drop l.path-index l.others)) ≡ fold both_begin (components l.fn.first) (map components l.others)
