use Rattle.std.proofs.Common.{arith}
use Rattle.std.proofs.lemmas.Grind.{common_steps}
use Rattle.wx_topology.proofs.Drafting.{spared_end, spared_rest}
use Rattle.wx_topology.proofs.drafts.spare.Goals as goal

pub loop-rest-preserved : goal.loop-rest-preserved
loop-rest-preserved c = spared_rest c.loop-rest.rest.now c.first-item.result _ _ _ _ c.in-len1-up.len_at_least (grind (arith, common_steps)) (grind (arith, common_steps)) c.disown_all.ensures c.loop-rest.invariant

pub returns : goal.returns
returns c = spared_end c.loop-rest.rest.now _ _ c.in_default.len_below c.loop-rest.invariant
