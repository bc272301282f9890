use Rattle.wx_index.proofs.OwnerLemmas.{owners_some}
use Rattle.wx_index.proofs.owner_index.grown.Goals as goal

pub returns-in-Ok : goal.returns-in-Ok
returns-in-Ok c = λ os is. c.in-Ok.ensures os (owners_some os c.args.index c.in-Some.index c.in-Some.is is)
