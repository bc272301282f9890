use Rattle.std.proofs.Common.{refl}
use Rattle.wx_hooks.proofs.HandlerLemmas.{kept_quit, revision_quit, quit_room_twice}
use Rattle.wx_hooks.proofs.handler.ActionHandler.quit_gracefully.Goals as goal

pub invariant_of-self : goal.invariant_of-self
invariant_of-self c = (
  kept_quit _ c.self.inside.journal.now.past c.self.inside.held.now c.self.inside.names.items c.self.inside.events c.self.inside.ids.0 c.self.inside.acts.items _ c.self.inside.second c.put_second_quit.new.second c.self.inside.todo.items _ _ refl c.self.invariant.0 c.put_second_quit.ensures c.put_quit.ensures.acts c.put_quit.ensures.capacity,
  revision_quit _ _ _ _ _ refl c.self.invariant.1 c.put_quit.ensures.acts,
)

pub put_second_quit-requires : goal.put_second_quit-requires
put_second_quit-requires c = quit_room_twice _ _ _ c.self.invariant.0.twice
