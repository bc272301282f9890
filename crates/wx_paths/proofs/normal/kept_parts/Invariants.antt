use Rattle.std.proofs.Common.{◌≡◌}
use Rattle.std.specs.List.{fold}
use Rattle.wx_paths.specs.Paths.{with_part, kept, path_parts}
use Rattle.wx_paths.proofs.normal.kept_parts.Given as goal

abbrev pub invariant-loop-part : goal.invariant-loop-part
invariant-loop-part l = fold with_part l.kept.items l.part-iterator ≡ kept (path_parts l.fn.path)
