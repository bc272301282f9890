use Rattle.std.proofs.Common.{◌≡◌, length, drop}
use Rattle.wx_paths.specs.Paths.{begins_with}
use Rattle.wx_patterns.proofs.ignoring.goes_past.Given as goal

abbrev pub invariant-loop-ours : goal.invariant-loop-ours
invariant-loop-ours l = record { begins : begins_with l.path (drop l.ours-index l.base) ≡ begins_with l.fn.path l.base; rest : drop (length (drop l.ours-index l.base)) l.path ≡ drop (length l.base) l.fn.path }
