use Rattle.std.proofs.Common.{◌≡◌}
use Rattle.wx_paths.specs.Paths.{begins_with, starts_with}
use Rattle.wx_paths.proofs.prefix.starts_with.Given as goal

abbrev pub invariant-loop-theirs : goal.invariant-loop-theirs
invariant-loop-theirs l = begins_with l.ours l.theirs-iterator ≡ starts_with l.fn.path l.fn.other
