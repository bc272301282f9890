use Rattle.std.proofs.Common.{◌≡◌, drop, length}
use Rattle.wx_paths.specs.Paths.{components}
use Rattle.wx_summary.proofs.relative.behind.Given as goal

abbrev pub invariant-loop-part : goal.invariant-loop-part
invariant-loop-part l = drop (length l._part-iterator) l.rest ≡ drop (length (components l.fn.above)) (components l.fn.path)
