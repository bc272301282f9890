use Rattle.std.proofs.Common.{sym, ◌∙◌}
use Rattle.wx_fs_tests.proofs.Asked.{allowed}
use Rattle.wx_fs_tests.proofs.trial.are_allowed.Goals as goal

pub returns : goal.returns
returns c = λ h. allowed c.args.under.now c.args.roots.now (sym c.all_allowed.ensures ∙ h)
