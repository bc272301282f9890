use Rattle.wx_holding.specs.Holding.{state_of}
use Rattle.wx_topology.proofs.Drafting.{new_drafts}
use Rattle.wx_topology.proofs.drafts.Draft.new.Goals as goal

pub returns : goal.returns
returns c = new_drafts (state_of c.args.held.now) c.new-4.result.items c.new.result.items c.new-2.result.items c.new-3.result.items c.new-4.ensures.items c.new.ensures.items c.new-2.ensures.items c.new-3.ensures.items
