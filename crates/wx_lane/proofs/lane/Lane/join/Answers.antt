use Rattle.std.proofs.Common.{arith, ap, sym, subst, true, [], ◌∷◌, ◌≡◌, ◌<◌, ◌≤◌, ◌+◌, ◌∙◌}
use Rattle.wx_lane.specs.Lanes.{LaneState, is_waiting, waiting}
use Rattle.wx_lane.specs.Kept.{Kept, quiet}
use Rattle.wx_lane.proofs.KeptLemmas.{kept_joined, quiet_joined}
use Rattle.wx_lane.proofs.lane.Lane.join.Goals as goal

pub quiet-self-inside-requires : goal.quiet-self-inside-requires
quiet-self-inside-requires c =
    let more = quiet_joined c.self.inside.items.items (c.args.item ∷ []) in
    subst (λ xs. c.self.inside.before ≤ quiet xs) (sym c.in_ok-push_back.ensures.items) (omega (arith, more, c.self.invariant.found))

pub invariant_of-self-2 : goal.invariant_of-self-2
invariant_of-self-2 c =
    let inside = c.self.inside in
    let room = subst (λ (s : LaneState). is_waiting c.args.item ≡ true → waiting s.items < s.size) (sym c.self.view_is) c.requires in
    let joined = c.in_ok-push_back.ensures.items in
    subst (λ xs. Kept xs inside.size (inside.count + c.waits-waits.result) c.quiet-self-inside.result c.rises-rising.result) (sym joined)
    (kept_joined inside.items.items c.args.item inside.size inside.count inside.before c.waits-waits.result c.quiet-self-inside.result inside.rising c.rises-rising.result c.self.invariant c.waits-waits.ensures room c.rises-rising.ensures (c.quiet-self-inside.ensures ∙ ap quiet joined))
