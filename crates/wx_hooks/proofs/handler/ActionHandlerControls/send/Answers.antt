use Rattle.std.proofs.Common.{◌≡◌, ◌∷◌, ◌++◌, ◌∙◌, [], length, ap, arith, refl}
use Rattle.std.specs.Prelude.{is_none}
use Rattle.wx_journal.specs.declared.entry.Act.TheVariants.{Ask}
use Rattle.wx_hooks.proofs.HandlerLemmas.{kept_room, kept_ask, revision_same, revision_then, asks_append, still_added, still_there}
use Rattle.wx_hooks.proofs.handler.ActionHandlerControls.send.Goals as goal

pub invariant_of-self : goal.invariant_of-self
invariant_of-self c = (kept_room c.self.inside.journal.now.past c.self.inside.held.now c.self.inside.names.items c.self.inside.events c.self.inside.ids.0 c.self.inside.acts.items _ c.self.inside.second c.self.inside.todo.items _ _ c.reserve_act.new.second _ c.self.invariant.0 c.reserve_act.ensures.acts c.reserve_act.ensures.capacity c.reserve_act.ensures.second c.reserve_act.ensures.todo, revision_same _ _ _ _ c.self.invariant.1 c.reserve_act.ensures.acts)

pub invariant_of-self-in_err-ticket : goal.invariant_of-self-in_err-ticket
invariant_of-self-in_err-ticket c = (kept_room c.self.inside.journal.now.past c.self.inside.held.now c.self.inside.names.items c.self.inside.events c.self.inside.ids.0 c.self.inside.acts.items _ c.self.inside.second c.self.inside.todo.items _ _ c.reserve_act.new.second _ c.self.invariant.0 c.reserve_act.ensures.acts c.reserve_act.ensures.capacity c.reserve_act.ensures.second c.reserve_act.ensures.todo, revision_same _ _ _ _ c.self.invariant.1 c.reserve_act.ensures.acts)

pub put_act-requires-clause-second_room : goal.put_act-requires-clause-second_room
put_act-requires-clause-second_room c = λ twice is. omega (arith, c.in_ok-reserve_act.ensures.second_room twice is)

pub invariant_of-self-2 : goal.invariant_of-self-2
invariant_of-self-2 c = (
  kept_ask c.self.inside.journal.now.past c.self.inside.held.now c.self.inside.names.items c.self.inside.events c.self.inside.ids.0 c.self.inside.acts.items _ c.self.inside.second c.reserve_act.new.second c.put_act.new.second c.self.inside.todo.items c.id-id.result c.args.ask c.in_ok-ticket.done _ _ _ c.self.invariant.0
      (omega (arith, ap length c.reserve_act.ensures.acts, c.reserve_act.new.acts.ok.0, c.in_ok-reserve_act.ensures.room, c.put_act.ensures.capacity)) c.reserve_act.ensures.second c.in_ok-reserve_act.ensures.second_room c.put_act.ensures.second
      (rw c.reserve_act.ensures.acts at c.put_act.ensures.acts)
      (rw c.reserve_act.ensures.todo at c.put_act.ensures.todo),
  revision_then _ c.self.inside.acts.items _ _ _ _ c.self.invariant.1 (rw c.reserve_act.ensures.acts at c.put_act.ensures.acts) (omega arith) c.self.invariant.1.fits,
)

pub returns-clause-sink : goal.returns-clause-sink
returns-clause-sink c =
    let grown : c.put_act.new.acts.items ≡ c.self.inside.acts.items ++ Ask c.id-id.result c.args.ask ∷ [] = rw c.reserve_act.ensures.acts at c.put_act.ensures.acts in
    let handed : is_none c.put_act.new.second ≡ is_none c.self.inside.second = still_added _ c.reserve_act.new.second c.put_act.new.second c.put_act.ensures.second ∙ still_there c.self.inside.second c.reserve_act.new.second c.reserve_act.ensures.second in
    rw (grown, asks_append c.self.inside.acts.items (Ask c.id-id.result c.args.ask ∷ []), c.id-id.ensures, ← c.self.view_is, handed) refl
