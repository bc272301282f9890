use Rattle.std.proofs.Common.{rules, refl, ap, ◌∙◌}
use Rattle.wx_holding.specs.Calm.{IsStill}
use Rattle.wx_holding.specs.Holding.{state_of}
use Rattle.wx_machine.specs.Settings.{settings}
use Rattle.wx_worker.proofs.ArriveLemmas.{on_err}
use Rattle.wx_file_turns.specs.Judged.{IsKept, IsStepping}
use Rattle.wx_file_turns.proofs.DirLemmas.{kept_first, kept_behind, leaves_behind, dirs_behind}
use Rattle.wx_file_turns.proofs.Onward.{steps_by_hand, steps_looked, steps_then}
use Rattle.wx_file_turns.proofs.Rebuilt.{step_done, step_worth, looks_seen}
use Rattle.wx_file_turns.proofs.Standing.{allowed}
use Rattle.wx_file_turns.proofs.judging.take_step.Goals.{After-step}
use Rattle.wx_file_turns.proofs.Walks.{step_behind}
use Rattle.wx_file_turns.proofs.judging.take_step.Goals as goal

pub step-requires-clause-allowed : goal.step-requires-clause-allowed
step-requires-clause-allowed g c =
    let w = c.requires.1.1.1.1.0.watching.watches in
    rw (c.requires.1.1.1.1.1, c.requires.1.1.1.0.config_kept) (allowed g.start.folder (settings g.start c.args.journal.now.past).pathset (state_of c.args.watching.now.recursor.held).roots w.roots_kept)

-- what is known of worker, journal and hooks behind the step
kept : (g : _) (c : After-step g) → IsKept g.H.JobHooks.seen g.H.JobHooks.rule g.H.JobHooks.stands (record { start = g.start; worker = c.args.worker.now; journal = c.args.journal.now; hooks = c.args.hooks.now }) c.step.new.dirs.folder.now c.step.new.dirs.worker.now c.step.new.dirs.journal.now c.step.new.dirs.hooks.now
kept g c =
    let at = c.requires.1.1.1.1.0 in
    c.step.ensures.kept (record { start = g.start; worker = c.args.worker.now; journal = c.args.journal.now; hooks = c.args.hooks.now })
    (kept_first g.H.JobHooks.seen g.H.JobHooks.rule g.H.JobHooks.stands g.start c.args.folder.now c.args.worker.now c.args.journal.now c.args.hooks.now c.requires.1.1.1.0 at.stepping at.watching.applied_now c.requires.1.1.1.1.1)

pub returns-clause-steps : goal.returns-clause-steps
returns-clause-steps g c =
    let behind = kept_behind g.H.JobHooks.seen g.H.JobHooks.rule g.H.JobHooks.stands _ _ _ c.step.new.dirs.worker.now _ c.step.new.dirs.journal.now _ c.step.new.dirs.hooks.now _ (kept g (goal.at.returns-clause-steps g c).After-step) refl (search rules) (search rules) (search rules) in
    let law = g.met.W.World.only_looks in
    let looked = looks_seen (g.W.Outside.seen c.args.world.now) (g.W.Outside.seen c.step.new.scan) _ _ (law c.args.world.now c.args.world.now refl) (law c.args.world.now c.step.new.scan c.step.ensures.rest) c.step.ensures.looked in
    steps_then _ _ _ g.start _ _ _ _ _ _ _ _ _ _ _ _ (steps_by_hand _ _ _ g.start _ _ (g.W.Outside.seen c.args.world.now) _ _ _ _ behind.hand) (steps_looked _ _ _ g.start _ _ _ _ _ _ behind.hand.grows.stands looked.0 looked.1)

pub returns-clause-at_step : goal.returns-clause-at_step
returns-clause-at_step g c =
    let k = kept g (goal.at.returns-clause-at_step g c).After-step in
    let on : IsStepping g.start c.step.new.dirs.journal.now.past = k.stepping in
    step_done g.start c.args.watching.now _ c.args.journal.now.past _ c.step.result c.requires.1.1.1.1.0.watching (leaves_behind g.start _ _ _ k.hand.leaves (search rules)) (on.0, search rules) refl c.step.ensures.spent c.step.ensures.others c.step.ensures.state

pub returns-clause-worthwhile : goal.returns-clause-worthwhile
returns-clause-worthwhile g c =
    let law = g.met.W.World.only_looks in
    step_worth c.args.watching.now _ _ _ (g.W.Outside.seen c.args.world.now) (g.W.Outside.seen c.step.new.scan) _ _ c.step.result (ap (λ x. x.looked) (law c.args.world.now c.args.world.now refl)) (ap (λ x. x.looked) (law c.args.world.now c.step.new.scan c.step.ensures.rest)) c.step.ensures.raised

pub returns-clause-cut : goal.returns-clause-cut
returns-clause-cut g c =
    let on : IsStepping g.start c.step.new.dirs.journal.now.past = (kept g (goal.at.returns-clause-cut g c).After-step).stepping in
    search (rules, on, on_err)

pub returns-clause-dirs : goal.returns-clause-dirs
returns-clause-dirs g c = dirs_behind _ _ _ (kept g (goal.at.returns-clause-dirs g c).After-step).dirs (search rules)

pub returns-clause-walks : goal.returns-clause-walks
returns-clause-walks g c = λ t ok calm h work.
    let law = g.met.W.World.only_looks in
    let k = kept g (goal.at.returns-clause-walks g c).After-step in
    let at = c.requires.1.1.1.1.0 in
    let old = ap (λ x. x.looked) (law c.args.world.now c.args.world.now refl) in
    let new = ap (λ x. x.looked) (law c.args.world.now c.step.new.scan c.step.ensures.rest) in
    let still : IsStill t (g.W.Looks.looked c.args.world.now) (g.W.Looks.looked c.step.new.scan) = record { told = rw old at calm.tree; no_fault = rw (old, new) at calm.stays.no_fault } in
    let steps = c.step.ensures.settles t h.sound.links still calm.stays.named h.sound.stands in
    step_behind _ _ t ok g.start c.args.journal.now.past c.step.new.dirs.journal.now.past _ c.args.watching.now _ c.step.new.dirs.worker.now.config.filterer c.step.result h work at.watching (search rules) (returns-clause-at_step g c) k.hand.leaves.settings_kept (ap (λ d. d.filterer) (k.hand.grows.stands.config_kept ∙ k.hand.leaves.settings_kept)) calm.stays.calm k.dirs c.step.ensures.others.2 c.step.ensures.others.3 steps
