use Rattle.std.proofs.Common.{refl, ap, arith, ◌∙◌}
use Rattle.wx_worker.specs.Serves.{GrowsWithin}
use Rattle.wx_worker.proofs.Serving.{hooks_none, hand_room}
use Rattle.wx_worker.proofs.CallLemmas.{owes_none, show_grows, wants_here}
use Rattle.wx_worker.proofs.worker_state.Worker.call_show.Goals.{After-close_where}
use Rattle.wx_worker.proofs.worker_state.Worker.call_show.Goals as goal

within : (g : _) (c : After-close_where g) → GrowsWithin (λ h. g.H.JobHooks.seen h) (λ plan. g.H.JobHooks.rule plan) (λ h. g.H.JobHooks.stands h) g.start 1 1 c.args.self.now c.args.journal.now c.args.hooks.now (record c.args.self.now { queue = c.close_where.new.queue }) c.push.new.self c.error.new.self
within g c = record {
  grows =
      show_grows _ _ _ g.start c.args.self.now c.args.journal.now.past c.push.new.self.past c.args.hooks.now c.error.new.self c.args.self.now.config.error_handler c.args.error c.in_ok-hook.hook.error c.into_parts-error.result.0 c.error.new.hook.wish c.into_parts-error.result.1 c.close_where.new.queue
      c.requires.1.0 refl (ap (λ h. h.error) c.in_ok-hook.ensures) (c.into_parts-error.ensures.error ∙ c.error.ensures.error) c.into_parts-error.ensures.wish c.close_where.ensures.items c.close_where.ensures.size (rw c.is_close-closes.ensures at c.close_where.ensures.closed) c.push.ensures.past c.error.ensures.told.told (c.error.ensures.keeps c.args.journal.now.past);
  end_kept = refl;
  in_journal = omega (arith, c.push.ensures.room);
  in_hooks = c.error.ensures.told.room;
}

pub returns-in_err-hook-clause-within : goal.returns-in_err-hook-clause-within
returns-in_err-hook-clause-within g c = record { grows = hand_room _ _ _ _ _ _ _ _ _ c.requires.1.0.stands refl (hooks_none _ _ _); end_kept = refl; in_journal = omega arith; in_hooks = omega arith }

pub returns-in_err-hook-clause-breaks : goal.returns-in_err-hook-clause-breaks
returns-in_err-hook-clause-breaks g c = wants_here g.start c.args.journal.now.past c.from_residual.result c.from_residual.ensures.1 (owes_none g.start c.args.self.now c.args.error c.args.journal.now.past c.requires.1.0)

pub returns-in-Some-clause-within : goal.returns-in-Some-clause-within
returns-in-Some-clause-within g c = within g (goal.at.returns-in-Some-clause-within g c).After-close_where

pub returns-in-None-clause-within : goal.returns-in-None-clause-within
returns-in-None-clause-within g c = within g (goal.at.returns-in-None-clause-within g c).After-close_where

pub returns-in_err-error-clause-within : goal.returns-in_err-error-clause-within
returns-in_err-error-clause-within g c = within g (goal.at.returns-in_err-error-clause-within g c).After-close_where
