use Rattle.wx_index.proofs.OwnerLemmas.{unseen_indexed}
use Rattle.wx_index.proofs.owner_list.OwnerList.set_unseen.Goals as goal

pub invariant_of-self : goal.invariant_of-self
invariant_of-self c = unseen_indexed c.self.inside.items.items c.set_unseen.new.owners.items c.self.inside.index c.take-index.result c.set_unseen.ensures c.take-index.ensures.value c.self.invariant
