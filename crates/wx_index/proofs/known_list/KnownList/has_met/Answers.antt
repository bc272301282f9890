use Rattle.std.proofs.Common.{ap, ◌∙◌}
use Rattle.wx_recursor_lists.specs.Met.{has_met_one}
use Rattle.wx_recursor_lists.proofs.MetAgain.{met_known}
use Rattle.wx_index.proofs.known_list.KnownList.has_met.Goals as goal

pub returns-in-Ok : goal.returns-in-Ok
returns-in-Ok c =
    c.in-Ok.ensures
    ∙ (ap (has_met_one c.args.root.now c.args.identity.now c.args.self.now c.args.owners.now) (c.as_slice-known.ensures.value ∙ c.self.view_is)
    ∙ met_known c.args.root.now c.args.identity.now c.args.self.now c.args.owners.now)
