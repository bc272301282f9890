use Rattle.wx_holding.specs.Holding.{state_of}
use Rattle.wx_topology.proofs.Drafting.{renames}
use Rattle.wx_topology.proofs.changes.draft_rename.Goals as goal

pub returns : goal.returns
returns c =
    renames (state_of c.args.held.now) _ _ _ _ _ _ _ _ _ c.args.from.now c.args.to.now c.new-draft.ensures c.in_ok-left.ensures c.in_ok-reached.ensures c.as_slice.ensures.value c.as_slice-2.ensures.value c.as_slice-3.ensures.value
    c.in_ok-remove_each.ensures c.in_ok-remove_each-2.ensures c.in_ok-create_each.ensures
