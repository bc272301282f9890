use Rattle.std.proofs.Common.{rules, sym, subst, ◌≤◌, drop, ◌∙◌}
use Rattle.wx_lane.specs.Lanes.{hear_first}
use Rattle.wx_lane.specs.Kept.{quiet}
use Rattle.wx_lane.proofs.KeptLemmas.{kept_heard, quiet_kept}
use Rattle.wx_lane.proofs.lane.Lane.hear.Goals as goal

pub quiet-self-inside-requires : goal.quiet-self-inside-requires
quiet-self-inside-requires c =
    subst (λ xs. c.min.result ≤ quiet xs) (sym c.hear_at.ensures)
    (quiet_kept c.self.inside.items.items (hear_first (drop c.in-Some.i c.self.inside.items.items)) c.min.result c.in-Some.i (search rules) (search rules))

pub invariant_of-self : goal.invariant_of-self
invariant_of-self c = kept_heard c.args.name c.self.inside.items.items c.hear_at.new.items.items c.self.inside.size c.self.inside.count c.self.inside.before c.quiet-self-inside.result c.self.inside.rising c.self.invariant (c.hear_at.ensures ∙ sym c.in-Some.ensures.1) c.quiet-self-inside.ensures
