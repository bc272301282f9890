use Rattle.std.proofs.Common.{◌∙◌}
use Rattle.wx_recursor_lists.proofs.MetAgain.{met_known}
use Rattle.wx_recursor_lists.proofs.owners.has_met.Goals as goal

pub returns : goal.returns
returns c = c.has_met_one.ensures ∙ met_known c.args.root.now c.args.identity.now c.args.known.now c.args.owners.now
