use Rattle.std.proofs.Common.{◌≡◌, ◌++◌, map}
use Rattle.wx_summary.specs.Summaries.{trunk, trunks}
use Rattle.wx_summary.proofs.relative.trunks.Given as goal

abbrev pub invariant-loop-path : goal.invariant-loop-path
invariant-loop-path l = l.trunks ++ map trunk l.path-iterator ≡ trunks l.fn.events
