use Rattle.wx_tree.proofs.ResultLemmas.{ok_always}
use Rattle.wx_holding.proofs.held.Held.look_again.Goals as goal

pub returns-clause-raised : goal.returns-clause-raised
returns-clause-raised g c = ok_always c.queue_again.result _ c.in_ok-safe.ensures.raised
