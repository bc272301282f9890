use Rattle.std.proofs.Common.{subst}
use Rattle.wx_lane.specs.Kept.{Kept}
use Rattle.wx_lane.proofs.KeptLemmas.{kept_behind}
use Rattle.wx_lane.proofs.lane.Lane.take.Goals as goal

pub invariant_of-self-2 : goal.invariant_of-self-2
invariant_of-self-2 c =
    let inside = c.self.inside in
    let kept = subst (λ xs. Kept xs inside.size inside.count inside.before inside.rising) c.in-Some.ensures.items c.self.invariant in
    kept_behind c.in-Some.first c.pop_front.new.self.items inside.size inside.count inside.before c.waits.result c.quiet-self-inside.result inside.rising kept c.waits.ensures c.quiet-self-inside.ensures
