use Rattle.std.proofs.Common.{◌≡◌, length}
use Rattle.wx_fs.specs.Kept.{keep_roots, kept_roots}
use Rattle.wx_fs.proofs.rooting.kept_roots.Given as goal

abbrev pub invariant-loop-rest : goal.invariant-loop-rest
invariant-loop-rest l = keep_roots l.fn.folder l.rest l.roots.items ≡ kept_roots l.fn.folder l.fn.watched

abbrev pub decreases-loop-rest : goal.decreases-loop-rest
decreases-loop-rest l = length l.rest
