use Rattle.wx_index.proofs.OwnerLemmas.{disown_below_none}
use Rattle.wx_index.proofs.owner_list.OwnerList.disown_below.Goals as goal

pub returns-else-may_hold : goal.returns-else-may_hold
returns-else-may_hold c = disown_below_none c.args.root.now c.args.path.now c.args.self.now (c.may_hold.ensures c.if-may_hold.false)
