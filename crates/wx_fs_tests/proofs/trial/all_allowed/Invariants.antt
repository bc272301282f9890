use Rattle.std.proofs.Common.{◌≡◌, length}
use Rattle.wx_fs_tests.specs.Allowed.{all_allowed}
use Rattle.wx_fs_tests.proofs.trial.all_allowed.Given as goal

abbrev pub invariant-loop-rest : goal.invariant-loop-rest
invariant-loop-rest l = all_allowed l.fn.under l.rest ≡ all_allowed l.fn.under l.fn.roots

abbrev pub decreases-loop-rest : goal.decreases-loop-rest
decreases-loop-rest l = length l.rest
