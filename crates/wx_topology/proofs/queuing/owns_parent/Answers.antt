use Rattle.std.proofs.Common.{◌≡◌, arith, drop, sym, ◌∙◌}
use Rattle.std.proofs.lemmas.Grind.{common_steps}
use Rattle.wx_recursor.specs.Steps.{owns_parent}
use Rattle.wx_topology.specs.Drafts.{spared}
use Rattle.wx_topology.proofs.Asking.{asked_first, asked_rest}
use Rattle.wx_topology.proofs.queuing.owns_parent.Goals as goal

pub returns-then-is_owner_above : goal.returns-then-is_owner_above
returns-then-is_owner_above c =
    sym (asked_first c.args.root.now c.args.path.now c.args.cleared.now c.loop-rest.rest.now c.first-item.result c.in-len1-up.len_at_least c.first-item.is (sym c.is_owner_above.ensures ∙ c.if-is_owner_above.true)) ∙ c.loop-rest.invariant

pub loop-rest-preserved : goal.loop-rest-preserved
loop-rest-preserved c =
    let e : owns_parent c.args.root.now c.args.path.now (spared c.args.cleared.now (drop 1 c.loop-rest.rest.now)) ≡ owns_parent c.args.root.now c.args.path.now (spared c.args.cleared.now c.loop-rest.rest.now) =
    asked_rest c.args.root.now c.args.path.now c.args.cleared.now c.loop-rest.rest.now c.first-item.result c.in-len1-up.len_at_least c.first-item.is (sym c.is_owner_above.ensures ∙ c.if-is_owner_above.false) in
    grind (arith, common_steps)
