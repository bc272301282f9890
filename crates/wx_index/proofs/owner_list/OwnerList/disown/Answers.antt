use Rattle.wx_index.proofs.OwnerLemmas.{disown_none}
use Rattle.wx_index.proofs.owner_list.OwnerList.disown.Goals as goal

pub returns-else-may_hold : goal.returns-else-may_hold
returns-else-may_hold c = disown_none c.args.root.now c.args.path.now c.args.self.now (c.may_hold.ensures c.if-may_hold.false)
