use Rattle.std.proofs.Common.{◌≡◌, refl, ap, ◌∙◌}
use Rattle.wx_journal.specs.declared.entry.Entry.TheVariants.{Hand}
use Rattle.wx_machine.specs.Settings.{revision, MayChange}
use Rattle.wx_machine.specs.Journal.{window}
use Rattle.wx_machine.specs.Due.{Due}
use Rattle.wx_machine.specs.Jobs.{jobs, with_created, AreLawful}
use Rattle.wx_machine.specs.Kept.{Called, KeepsOn}
use Rattle.wx_machine.specs.Leads.{FollowsHooks}
use Rattle.wx_worker.proofs.ServesLaws.{adds_hand}
use Rattle.wx_action.proofs.ShownLemmas.{shown}
use Rattle.wx_action.proofs.HandLemmas.{Handed, handed, hand_due, hand_follows, turns_hand}
use Rattle.wx_action.proofs.work_turn.hand_batch.Goals as goal

pub new-handler-requires-clause-some : goal.new-handler-requires-clause-some
new-handler-requires-clause-some g c =
    rw (c.replace-batch.ensures.value, c.requires.1.0.names_kept) c.requires.1.1.0.some

pub new-handler-requires-clause-shown : goal.new-handler-requires-clause-shown
new-handler-requires-clause-shown g c = shown g.start c.args.worker.now c.args.journal.now.past c.requires.1.0

are_lawful : (g : _) (c : goal.After-leave_gone g) → AreLawful c.args.journal.now.past c.action.new.handler.acts
are_lawful g c =
    let past_is = ap (λ h. h.past) c.action.ensures.same ∙ ap (λ h. h.past) c.new-handler.ensures in
    rw (c.into_parts-names.ensures.acts, past_is) at c.into_parts-names.ensures.lawful

may_change : (g : _) (c : goal.After-leave_gone g) → MayChange (revision g.start c.args.journal.now.past) c.action.new.handler.acts
may_change g c =
    let at = ap (λ h. h.revision) c.action.ensures.same ∙ ap (λ h. h.revision) c.new-handler.ensures ∙ ap (λ k. k.change_signal) c.requires.1.0.config_kept in
    rw (c.into_parts-names.ensures.acts, at) at c.into_parts-names.ensures.changes

whole : (g : _) (c : goal.After-leave_gone g) → c.action.new.handler.names ≡ window c.args.journal.now.past
whole g c = ap (λ h. h.names) c.action.ensures.same ∙ ap (λ h. h.names) c.new-handler.ensures ∙ ap (λ b. b.names) c.replace-batch.ensures.value ∙ c.requires.1.0.names_kept

is_due : (g : _) (c : goal.After-leave_gone g) → Due g.start c.args.journal.now.past (Hand c.args.worker.now.config.action_handler c.action.new.handler.names c.action.new.handler.acts)
is_due g c =
    hand_due g.start c.args.journal.now.past c.args.worker.now.config.action_handler c.action.new.handler.names c.action.new.handler.acts c.requires.1.1.0.due (ap (λ k. k.action_handler) c.requires.1.0.config_kept) (whole g c) (are_lawful g c) (may_change g c)

done : (g : _) (c : goal.After-leave_gone g) → Handed g.start (record c.args.worker.now { batch = c.replace-batch.new.dest; jobs = c.leave_gone.new.self; graceful = c.graceful_behind-worker.result }) c.push.new.self.past c.into_parts-names.result.2.items c.quit_of-quit.result (with_created c.action.new.handler.acts (jobs c.args.journal.now.past))
done g c =
    handed g.start c.args.worker.now _ c.args.worker.now.config.action_handler c.action.new.handler.names c.action.new.handler.acts c.into_parts-names.result.2.items c.quit_of-quit.result c.args.journal.now.past c.push.new.self.past c.requires.1.0 (whole g c) (are_lawful g c) (may_change g c)
    (rw c.into_parts-names.ensures.acts at c.into_parts-names.ensures.todo) (rw (c.as_slice.ensures, c.into_parts-names.ensures.acts) at c.quit_of-quit.ensures) refl c.graceful_behind-worker.ensures
    (ap (λ b. b.names) c.replace-batch.ensures.after ∙ c.new.ensures.names) (ap (λ b. b.events) c.replace-batch.ensures.after ∙ c.new.ensures.events) c.leave_gone.ensures.here
    (rw (c.into_parts-names.ensures.names, c.into_parts-names.ensures.acts) at c.push.ensures.past)

pub returns-clause-owes : goal.returns-clause-owes
returns-clause-owes g c = (_, (done g c).owes)

pub returns-clause-aborts : goal.returns-clause-aborts
returns-clause-aborts g c = (done g c).aborts

follows : (g : _) (c : goal.After-leave_gone g) → FollowsHooks g.start c.args.journal.now.past (g.H.JobHooks.seen c.args.hooks.now).told c.push.new.self.past (g.H.JobHooks.seen c.action.new.self).told
follows g c =
    hand_follows g.start c.args.journal.now.past c.push.new.self.past c.args.worker.now.config.action_handler c.action.new.handler.names c.action.new.handler.acts _ _ (is_due g c)
    (rw (c.into_parts-names.ensures.names, c.into_parts-names.ensures.acts) at c.push.ensures.past) c.action.ensures.told.told

keeps : (g : _) (c : goal.After-leave_gone g) → KeepsOn (λ h. g.H.JobHooks.seen h) (λ plan. g.H.JobHooks.rule plan) (λ h. g.H.JobHooks.stands h) c.args.hooks.now c.args.journal.now.past c.action.new.self c.push.new.self.past
keeps g c =
    let past_is = ap (λ h. h.past) c.new-handler.ensures in
    let called = rw past_is at c.action.ensures.keeps in
    let grown = rw (c.into_parts-names.ensures.names, c.into_parts-names.ensures.acts) at c.push.ensures.past in
    λ x₀ p₀ k. rw grown (Called c.args.hooks.now c.action.new.self _ c.args.journal.now.past k called)

pub returns-clause-grows : goal.returns-clause-grows
returns-clause-grows g c = record {
  stands = (done g c).stands;
  adds = adds_hand _ _ _ _ _ (follows g c) (turns_hand c.args.worker.now.config.action_handler c.into_parts-names.result.0 c.into_parts-names.result.1 c.args.journal.now.past c.push.new.self.past c.push.ensures.past);
  keeps = keeps g c;
}
