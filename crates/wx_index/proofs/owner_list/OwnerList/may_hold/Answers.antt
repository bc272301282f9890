use Rattle.wx_index.proofs.OwnerLemmas.{owners_some}
use Rattle.wx_index.proofs.owner_list.OwnerList.may_hold.Goals as goal

pub returns-in-Ok : goal.returns-in-Ok
returns-in-Ok c = λ none. rw (← c.self.view_is)
    (c.in-Ok.ensures none c.self.inside.items.items (owners_some c.self.inside.items.items c.self.inside.index c.in-Some.index c.in-Some.is c.self.invariant))
