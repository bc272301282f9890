use Rattle.std.proofs.Common.{◌≡◌, ◌++◌, ◌∷◌, [], length, ap, arith}
use Rattle.wx_hooks.proofs.HandlerLemmas.{kept_room, kept_change, revision_same, revision_then, revision_spent, revision_left}
use Rattle.wx_hooks.proofs.handler.ActionHandler.change.Goals as goal

pub invariant_of-self : goal.invariant_of-self
invariant_of-self c = (kept_room c.self.inside.journal.now.past c.self.inside.held.now c.self.inside.names.items c.self.inside.events c.self.inside.ids.0 c.self.inside.acts.items _ c.self.inside.second c.self.inside.todo.items _ _ c.reserve_act.new.second _ c.self.invariant.0 c.reserve_act.ensures.acts c.reserve_act.ensures.capacity c.reserve_act.ensures.second c.reserve_act.ensures.todo, revision_same _ _ _ _ c.self.invariant.1 c.reserve_act.ensures.acts)

pub invariant_of-self-in_err-change : goal.invariant_of-self-in_err-change
invariant_of-self-in_err-change c = (kept_room c.self.inside.journal.now.past c.self.inside.held.now c.self.inside.names.items c.self.inside.events c.self.inside.ids.0 c.self.inside.acts.items _ c.self.inside.second c.self.inside.todo.items _ _ c.reserve_act.new.second _ c.self.invariant.0 c.reserve_act.ensures.acts c.reserve_act.ensures.capacity c.reserve_act.ensures.second c.reserve_act.ensures.todo, revision_same _ _ _ _ c.self.invariant.1 c.reserve_act.ensures.acts)

pub put_act-requires-clause-second_room : goal.put_act-requires-clause-second_room
put_act-requires-clause-second_room c = λ twice is. omega (arith, c.in-Ok.ensures.second_room twice is)

pub invariant_of-self-2 : goal.invariant_of-self-2
invariant_of-self-2 c = (
  kept_change c.self.inside.journal.now.past c.self.inside.held.now c.self.inside.names.items c.self.inside.events c.self.inside.ids.0 c.self.inside.acts.items _ c.self.inside.second c.reserve_act.new.second c.put_act.new.second c.self.inside.todo.items c.args.change _ _ _ c.self.invariant.0
      (omega (arith, ap length c.reserve_act.ensures.acts, c.reserve_act.new.acts.ok.0, c.in-Ok.ensures.room, c.put_act.ensures.capacity)) c.reserve_act.ensures.second c.in-Ok.ensures.second_room (rw c.in_ok-change.ensures.2 at c.put_act.ensures.second)
      (rw (c.reserve_act.ensures.acts, c.in_ok-change.ensures.1) at c.put_act.ensures.acts)
      (rw (c.reserve_act.ensures.todo, c.in_ok-change.ensures.0) at c.put_act.ensures.todo),
  revision_then _ c.self.inside.acts.items _ _ _ _ c.self.invariant.1 (rw (c.reserve_act.ensures.acts, c.in_ok-change.ensures.1) at c.put_act.ensures.acts) (omega arith) (omega arith),
)
