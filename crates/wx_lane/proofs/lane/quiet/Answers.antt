use Rattle.std.proofs.Common.{arith, rules, ap, sym, ◌∙◌}
use Rattle.wx_lane.specs.Kept.{is_to_be_heard}
use Rattle.wx_lane.proofs.KeptLemmas.{quiet_more, quiet_most, quiet_there}
use Rattle.wx_lane.proofs.lane.quiet.Goals as goal

pub returns-then-is_to_be_heard : goal.returns-then-is_to_be_heard
returns-then-is_to_be_heard c =
    let most = quiet_there c.args.items.now.items c.loop-i.i c.index.result.now (search rules) (ap is_to_be_heard (sym c.index.ensures) ∙ (sym c.is_to_be_heard.ensures ∙ c.if-is_to_be_heard.true)) in
    omega (arith, most, c.loop-i.invariant)

pub loop-i-preserved : goal.loop-i-preserved
loop-i-preserved c =
    quiet_more c.args.items.now.items c.loop-i.i c.index.result.now (search rules) c.loop-i.invariant (ap is_to_be_heard (sym c.index.ensures) ∙ (sym c.is_to_be_heard.ensures ∙ c.if-is_to_be_heard.false))

pub returns : goal.returns
returns c = let most = quiet_most c.args.items.now.items in omega (arith, most, c.loop-i.invariant)
