use Rattle.std.proofs.Common.{length, ap, arith}
use Rattle.wx_journal.specs.Names.{next_job}
use Rattle.wx_machine.specs.Jobs.{set}
use Rattle.wx_hooks.proofs.HandlerLemmas.{kept_room, kept_create, revision_same, revision_then, ids_left, next_grows}
use Rattle.wx_hooks.proofs.HeldLemmas.{not_seen}
use Rattle.wx_hooks.proofs.GivenIds.{fresh_id}
use Rattle.wx_hooks.proofs.handler.ActionHandler.create_job.Goals as goal

pub invariant_of-self : goal.invariant_of-self
invariant_of-self c = (kept_room c.self.inside.journal.now.past c.self.inside.held.now c.self.inside.names.items c.self.inside.events c.self.inside.ids.0 c.self.inside.acts.items _ c.self.inside.second c.self.inside.todo.items _ _ c.reserve_act.new.second _ c.self.invariant.0 c.reserve_act.ensures.acts c.reserve_act.ensures.capacity c.reserve_act.ensures.second c.reserve_act.ensures.todo, revision_same _ _ _ _ c.self.invariant.1 c.reserve_act.ensures.acts)

pub invariant_of-self-in_err-new : goal.invariant_of-self-in_err-new
invariant_of-self-in_err-new c = (kept_room c.self.inside.journal.now.past c.self.inside.held.now c.self.inside.names.items c.self.inside.events c.self.inside.ids.0 c.self.inside.acts.items _ c.self.inside.second c.self.inside.todo.items _ _ c.reserve_act.new.second _ c.self.invariant.0 c.reserve_act.ensures.acts c.reserve_act.ensures.capacity c.reserve_act.ensures.second c.reserve_act.ensures.todo, revision_same _ _ _ _ c.self.invariant.1 c.reserve_act.ensures.acts)

pub put_act-requires-clause-second_room : goal.put_act-requires-clause-second_room
put_act-requires-clause-second_room c = λ twice is. omega (arith, c.in-Ok.ensures.second_room twice is)

pub invariant_of-self-2 : goal.invariant_of-self-2
invariant_of-self-2 c = (
  kept_create c.self.inside.journal.now.past c.self.inside.held.now c.self.inside.names.items c.self.inside.events c.self.inside.ids.0 c.self.inside.acts.items _ c.self.inside.second c.reserve_act.new.second c.put_act.new.second c.self.inside.todo.items c.in-Some.id c.args.command c.in_ok-new.new.held _ _ _ _ c.self.invariant.0 c.in-Some.ensures.id c.in-Some.ensures.left c.in-Some.ensures.counted
      c.in_ok-new.ensures.held
      (omega (arith, ap length c.reserve_act.ensures.acts, c.reserve_act.new.acts.ok.0, c.in-Ok.ensures.room, c.put_act.ensures.capacity)) c.reserve_act.ensures.second c.in-Ok.ensures.second_room (rw c.in_ok-new.ensures.acts.1 at c.put_act.ensures.second)
      (rw (c.reserve_act.ensures.acts, c.in_ok-new.ensures.acts.0) at c.put_act.ensures.acts)
      (rw c.reserve_act.ensures.todo at c.put_act.ensures.todo),
  revision_then _ c.self.inside.acts.items _ _ _ _ c.self.invariant.1 (rw (c.reserve_act.ensures.acts, c.in_ok-new.ensures.acts.0) at c.put_act.ensures.acts) (omega arith) c.self.invariant.1.fits,
)

pub returns-clause-new : goal.returns-clause-new
returns-clause-new c =
    rw (← ap (λ h. h.past) c.self.view_is) (not_seen (next_job c.self.inside.journal.now.past) c.in-Some.id (set c.self.inside.journal.now.past) c.self.invariant.0.shown.below (omega (arith, c.in-Some.ensures.id, c.in-Some.ensures.left, c.in-Some.ensures.counted, c.self.invariant.0.next, next_grows (next_job c.self.inside.journal.now.past) c.self.inside.acts.items)))

pub returns-clause-fresh : goal.returns-clause-fresh
returns-clause-fresh c =
    rw (← c.self.view_is) (fresh_id c.self.inside.journal.now.past c.self.inside.acts.items c.in-Some.id (omega (arith, c.in-Some.ensures.id, c.in-Some.ensures.left, c.in-Some.ensures.counted, c.self.invariant.0.next)))

pub returns-in_default-reserve_act-clause-exactly : goal.returns-in_default-reserve_act-clause-exactly
returns-in_default-reserve_act-clause-exactly c = rw (← c.self.view_is) (λ full. absurd (ids_left _ _ c.self.invariant.0.next c.in-Some.ensures.left full))

pub returns-in_err-new-clause-exactly : goal.returns-in_err-new-clause-exactly
returns-in_err-new-clause-exactly c = rw (← c.self.view_is) (λ full. absurd (ids_left _ _ c.self.invariant.0.next c.in-Some.ensures.left full))

pub returns-clause-exactly : goal.returns-clause-exactly
returns-clause-exactly c = rw (← c.self.view_is) (λ full. absurd (ids_left _ _ c.self.invariant.0.next c.in-Some.ensures.left full))
