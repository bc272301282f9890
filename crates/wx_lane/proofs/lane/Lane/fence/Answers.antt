use Rattle.std.proofs.Common.{arith, rules, ap, sym, ◌≤◌, length, subst, ◌<◌, Some, ◌∙◌}
use Rattle.wx_lane.proofs.KeptLemmas.{fenced_none, fenced_risen, fenced_there}
use Rattle.wx_lane.proofs.lane.Lane.fence.Goals as goal

pub returns-in_default : goal.returns-in_default
returns-in_default c = let out : length c.self.inside.items.items ≤ c.self.inside.before = search rules in rw (← c.self.view_is) (sym (fenced_none c.args.below c.self.inside.items.items (omega (arith, out, c.self.invariant.found))))

pub returns-then-first-below : goal.returns-then-first-below
returns-then-first-below c =
    let at = c.in-Some.ensures.lookup in
    rw (← c.self.view_is) (ap Some at ∙ sym (fenced_there c.args.below c.self.inside.items.items c.self.inside.before c.in-Some.first.now (search rules) c.self.invariant.found (subst (λ x. x.name < c.args.below) at c.if-first-below.true)))

pub returns-then-self : goal.returns-then-self
returns-then-self c =
    rw (← c.self.view_is) (sym (fenced_risen 0 c.args.below c.self.inside.items.items c.self.inside.before c.in-Some.first.now (c.self.invariant.rise c.if-self.true) (search rules) c.self.invariant.found (subst (λ x. c.args.below ≤ x.name) c.in-Some.ensures.lookup c.if-first-below.false)))
