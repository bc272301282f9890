use Rattle.std.proofs.Common.{◌≡◌, ◌∷◌, ◌++◌, [], true, false, length, refl, sym, ◌∙◌, ap, arith}
use Rattle.std.specs.Prelude.{Some, is_none}
use Rattle.wx_command.specs.declared.command.Command.{Command}
use Rattle.wx_journal.specs.declared.entry.Act.TheVariants.{Create}
use Rattle.wx_hooks.proofs.HandlerLemmas.{kept_room, kept_again, revision_same, revision_then, still_added, still_there}
use Rattle.wx_hooks.proofs.GivenIds.{found_is, none_is, there_given, was_given, not_given, not_creates, job_added, not_unseen, creation_last}
use Rattle.wx_hooks.proofs.handler.ActionHandler.get_or_create_job.Goals as goal

pub returns-in-Some-clause-id : goal.returns-in-Some-clause-id
returns-in-Some-clause-id c = rw c.in_ok-copy.ensures (found_is c.self.inside.journal.now.past c.self.inside.acts.items c.args.id c.self.inside.held.now c.self.inside.todo.items c.in-Some.held.now c.self.invariant.0.shown c.self.invariant.0.todo (rw c.as_slice.ensures.value at c.in-Some.ensures)).its

pub returns-in-Some-clause-seen : goal.returns-in-Some-clause-seen
returns-in-Some-clause-seen c = rw (← c.self.view_is, c.in_ok-copy.ensures) (found_is c.self.inside.journal.now.past c.self.inside.acts.items c.args.id c.self.inside.held.now c.self.inside.todo.items c.in-Some.held.now c.self.invariant.0.shown c.self.invariant.0.todo (rw c.as_slice.ensures.value at c.in-Some.ensures)).seen

pub returns-in-Some-clause-created : goal.returns-in-Some-clause-created
returns-in-Some-clause-created c = rw (← c.self.view_is, c.in_ok-copy.ensures) (found_is c.self.inside.journal.now.past c.self.inside.acts.items c.args.id c.self.inside.held.now c.self.inside.todo.items c.in-Some.held.now c.self.invariant.0.shown c.self.invariant.0.todo (rw c.as_slice.ensures.value at c.in-Some.ensures)).created

pub returns-in-Some-clause-acts : goal.returns-in-Some-clause-acts
returns-in-Some-clause-acts c = rw (← c.self.view_is, (found_is c.self.inside.journal.now.past c.self.inside.acts.items c.args.id c.self.inside.held.now c.self.inside.todo.items c.in-Some.held.now c.self.invariant.0.shown c.self.invariant.0.todo (rw c.as_slice.ensures.value at c.in-Some.ensures)).no_more c.args.command.now) refl

pub returns-in-Some-clause-exactly : goal.returns-in-Some-clause-exactly
returns-in-Some-clause-exactly c = rw (← c.self.view_is) (λ none. (let both : true ≡ false = sym (there_given c.self.inside.journal.now.past c.self.inside.acts.items c.args.id (found_is c.self.inside.journal.now.past c.self.inside.acts.items c.args.id c.self.inside.held.now c.self.inside.todo.items c.in-Some.held.now c.self.invariant.0.shown c.self.invariant.0.todo (rw c.as_slice.ensures.value at c.in-Some.ensures)).there) ∙ none in absurd cc))

pub returns-in_err-copy-clause-exactly : goal.returns-in_err-copy-clause-exactly
returns-in_err-copy-clause-exactly c = rw (← c.self.view_is) (λ none. (let both : true ≡ false = sym (there_given c.self.inside.journal.now.past c.self.inside.acts.items c.args.id (found_is c.self.inside.journal.now.past c.self.inside.acts.items c.args.id c.self.inside.held.now c.self.inside.todo.items c.in-Some.held.now c.self.invariant.0.shown c.self.invariant.0.todo (rw c.as_slice.ensures.value at c.in-Some.ensures)).there) ∙ none in absurd cc))

pub returns-then-not-was_made-clause-unknown : goal.returns-then-not-was_made-clause-unknown
returns-then-not-was_made-clause-unknown c = rw (← c.self.view_is) (λ is. not_given c.self.inside.journal.now.past c.self.inside.acts.items c.args.id (none_is c.self.inside.journal.now.past c.self.inside.acts.items c.args.id c.self.inside.held.now c.self.inside.todo.items c.self.invariant.0.shown c.self.invariant.0.todo (rw c.as_slice.ensures.value at c.in_default.ensures)) (sym c.was_made.ensures ∙ c.if-not-was_made.true))

pub invariant_of-self : goal.invariant_of-self
invariant_of-self c = (kept_room c.self.inside.journal.now.past c.self.inside.held.now c.self.inside.names.items c.self.inside.events c.self.inside.ids.0 c.self.inside.acts.items _ c.self.inside.second c.self.inside.todo.items _ _ c.reserve_act.new.second _ c.self.invariant.0 c.reserve_act.ensures.acts c.reserve_act.ensures.capacity c.reserve_act.ensures.second c.reserve_act.ensures.todo, revision_same _ _ _ _ c.self.invariant.1 c.reserve_act.ensures.acts)

pub invariant_of-self-in_err-new : goal.invariant_of-self-in_err-new
invariant_of-self-in_err-new c = (kept_room c.self.inside.journal.now.past c.self.inside.held.now c.self.inside.names.items c.self.inside.events c.self.inside.ids.0 c.self.inside.acts.items _ c.self.inside.second c.self.inside.todo.items _ _ c.reserve_act.new.second _ c.self.invariant.0 c.reserve_act.ensures.acts c.reserve_act.ensures.capacity c.reserve_act.ensures.second c.reserve_act.ensures.todo, revision_same _ _ _ _ c.self.invariant.1 c.reserve_act.ensures.acts)

pub put_act-requires-clause-second_room : goal.put_act-requires-clause-second_room
put_act-requires-clause-second_room c = λ twice is. omega (arith, c.in-Ok.ensures.second_room twice is)

pub invariant_of-self-2 : goal.invariant_of-self-2
invariant_of-self-2 c = (
  kept_again c.self.inside.journal.now.past c.self.inside.held.now c.self.inside.names.items c.self.inside.events c.self.inside.ids.0 c.self.inside.acts.items _ c.self.inside.second c.reserve_act.new.second c.put_act.new.second c.self.inside.todo.items c.args.id _ c.in_ok-new.new.held _ _ _ c.self.invariant.0 (sym c.was_made.ensures ∙ c.if-not-was_made.false) (none_is c.self.inside.journal.now.past c.self.inside.acts.items c.args.id c.self.inside.held.now c.self.inside.todo.items c.self.invariant.0.shown c.self.invariant.0.todo (rw c.as_slice.ensures.value at c.in_default.ensures))
      c.in_ok-new.ensures.held
      (omega (arith, ap length c.reserve_act.ensures.acts, c.reserve_act.new.acts.ok.0, c.in-Ok.ensures.room, c.put_act.ensures.capacity)) c.reserve_act.ensures.second c.in-Ok.ensures.second_room (rw c.in_ok-new.ensures.acts.1 at c.put_act.ensures.second)
      (rw (c.reserve_act.ensures.acts, c.in_ok-new.ensures.acts.0) at c.put_act.ensures.acts)
      (rw c.reserve_act.ensures.todo at c.put_act.ensures.todo),
  revision_then _ c.self.inside.acts.items _ _ _ _ c.self.invariant.1 (rw (c.reserve_act.ensures.acts, c.in_ok-new.ensures.acts.0) at c.put_act.ensures.acts) (omega arith) c.self.invariant.1.fits,
)

pub returns-in_default-reserve_act-clause-exactly : goal.returns-in_default-reserve_act-clause-exactly
returns-in_default-reserve_act-clause-exactly c = rw (← c.self.view_is) (λ none. (let both : true ≡ false = sym (was_given c.self.inside.journal.now.past c.self.inside.acts.items c.args.id (sym c.was_made.ensures ∙ c.if-not-was_made.false)) ∙ none in absurd cc))

pub returns-in_err-new-clause-exactly : goal.returns-in_err-new-clause-exactly
returns-in_err-new-clause-exactly c = rw (← c.self.view_is) (λ none. (let both : true ≡ false = sym (was_given c.self.inside.journal.now.past c.self.inside.acts.items c.args.id (sym c.was_made.ensures ∙ c.if-not-was_made.false)) ∙ none in absurd cc))

pub returns-clause-exactly : goal.returns-clause-exactly
returns-clause-exactly c = rw (← c.self.view_is) (λ none. (let both : true ≡ false = sym (was_given c.self.inside.journal.now.past c.self.inside.acts.items c.args.id (sym c.was_made.ensures ∙ c.if-not-was_made.false)) ∙ none in absurd cc))

pub returns-clause-seen : goal.returns-clause-seen
returns-clause-seen c = rw (← c.self.view_is) (λ s. (let both : true ≡ false = sym s ∙ not_unseen c.self.inside.journal.now.past c.self.inside.acts.items c.args.id (none_is c.self.inside.journal.now.past c.self.inside.acts.items c.args.id c.self.inside.held.now c.self.inside.todo.items c.self.invariant.0.shown c.self.invariant.0.todo (rw c.as_slice.ensures.value at c.in_default.ensures)) in absurd cc))

pub returns-clause-created : goal.returns-clause-created
returns-clause-created c = λ s.
    rw (c.put_act.ensures.acts, c.reserve_act.ensures.acts, c.in_ok-new.ensures.acts.0)
    (creation_last c.args.id c.self.inside.acts.items _ (not_creates c.self.inside.journal.now.past c.self.inside.acts.items c.args.id (none_is c.self.inside.journal.now.past c.self.inside.acts.items c.args.id c.self.inside.held.now c.self.inside.todo.items c.self.invariant.0.shown c.self.invariant.0.todo (rw c.as_slice.ensures.value at c.in_default.ensures))) ∙ ap (λ (what : Command). Some what) (sym c.in_ok-new.ensures.job.1))

pub returns-clause-acts : goal.returns-clause-acts
returns-clause-acts c =
    let grown : c.put_act.new.acts.items ≡ c.self.inside.acts.items ++ Create c.args.id c.args.command.now ∷ [] = rw (c.reserve_act.ensures.acts, c.in_ok-new.ensures.acts.0, c.in_ok-copy-2.ensures) at c.put_act.ensures.acts in
    let handed : is_none c.put_act.new.second ≡ is_none c.self.inside.second = still_added _ c.reserve_act.new.second c.put_act.new.second c.put_act.ensures.second ∙ still_there c.self.inside.second c.reserve_act.new.second c.reserve_act.ensures.second in
    rw (← c.self.view_is, job_added c.self.inside.journal.now.past c.self.inside.acts.items c.args.id c.args.command.now (none_is c.self.inside.journal.now.past c.self.inside.acts.items c.args.id c.self.inside.held.now c.self.inside.todo.items c.self.invariant.0.shown c.self.invariant.0.todo (rw c.as_slice.ensures.value at c.in_default.ensures)), grown, handed) refl
