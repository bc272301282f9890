use Rattle.std.proofs.Common.{arith, ap, ◌∙◌}
use Rattle.wx_machine.specs.Due.{Open, is_quitting}
use Rattle.wx_machine.proofs.SettleLaws.{settle_calm}
use Rattle.wx_worker.proofs.BreakLemmas.{collects_shown}
use Rattle.wx_worker.proofs.Serving.{within_more, hand_then, promised_grown}
use Rattle.wx_worker.proofs.TurnLaws.{at_turn}
use Rattle.wx_worker.specs.Serves.{GrowsWithin}
use Rattle.wx_worker.proofs.collecting.throttle_collect.Goals.{After-show}
use Rattle.wx_worker.proofs.collecting.throttle_collect.Goals as goal

pub collect-requires : goal.collect-requires
collect-requires g c = λ κs lives. let h = at_turn g.start c.args.worker.now c.args.at _ c.args.journal.now.past tt c.requires.1 in (lives, record { stands = h.stands; due = h.due; now = h.now; going = h.going })

-- ---- what holds where none was shown

pub returns-in_err-collected-clause-within : goal.returns-in_err-collected-clause-within
returns-in_err-collected-clause-within g c = within_more _ _ _ _ _ _ _ _ _ _ _ _ _ _ (omega arith) (omega arith) c.collect.ensures.within

pub returns-in-Done-clause-within : goal.returns-in-Done-clause-within
returns-in-Done-clause-within g c = within_more _ _ _ _ _ _ _ _ _ _ _ _ _ _ (omega arith) (omega arith) c.collect.ensures.within

pub returns-in_err-error-in-Failed-clause-within : goal.returns-in_err-error-in-Failed-clause-within
returns-in_err-error-in-Failed-clause-within g c = within_more _ _ _ _ _ _ _ _ _ _ _ _ _ _ (omega arith) (omega arith) c.collect.ensures.within

-- ---- the error of a filter was shown

within : (g : _) (c : After-show g) → GrowsWithin (λ h. g.H.JobHooks.seen h) (λ plan. g.H.JobHooks.rule plan) (λ h. g.H.JobHooks.stands h) g.start 3 2 c.args.worker.now c.args.journal.now c.args.hooks.now c.show.new.self c.show.new.journal c.show.new.hooks
within g c = record {
  grows = hand_then _ _ _ _ _ _ _ _ _ _ _ _ c.collect.ensures.within.grows c.show.ensures.within.grows;
  end_kept = c.show.ensures.within.end_kept ∙ c.collect.ensures.within.end_kept;
  in_journal = omega (arith, c.collect.ensures.within.in_journal, c.show.ensures.within.in_journal);
  in_hooks = omega (arith, c.collect.ensures.within.in_hooks, c.show.ensures.within.in_hooks);
}

pub returns-in_err-show-in-Failed-clause-within : goal.returns-in_err-show-in-Failed-clause-within
returns-in_err-show-in-Failed-clause-within g c = within g (goal.at.returns-in_err-show-in-Failed-clause-within g c).After-show

pub returns-in_ok-show-in-Failed-clause-within : goal.returns-in_ok-show-in-Failed-clause-within
returns-in_ok-show-in-Failed-clause-within g c = within g (goal.at.returns-in_ok-show-in-Failed-clause-within g c).After-show

pub returns-in_err-show-in-Failed-clause-kept_room : goal.returns-in_err-show-in-Failed-clause-kept_room
returns-in_err-show-in-Failed-clause-kept_room g c = λ h. omega (arith, (rw c.in-Failed.is at c.in_ok-collected.ensures.left).0, c.show.ensures.within.in_journal, c.show.ensures.within.end_kept)

pub returns-in_ok-show-in-Failed-clause-kept_room : goal.returns-in_ok-show-in-Failed-clause-kept_room
returns-in_ok-show-in-Failed-clause-kept_room g c = λ h. omega (arith, (rw c.in-Failed.is at c.in_ok-collected.ensures.left).0, c.show.ensures.within.in_journal, c.show.ensures.within.end_kept)

pub returns-in_ok-show-in-Failed-clause-collected : goal.returns-in_ok-show-in-Failed-clause-collected
returns-in_ok-show-in-Failed-clause-collected g c =
    let found = rw c.in-Failed.is at c.in_ok-collected.ensures.found in
    let at = at_turn g.start c.args.worker.now c.args.at _ c.args.journal.now.past tt c.requires.1 in
    let done = c.in_ok-show-in-Failed.ensures.done Open (rw c.in_ok-error-in-Failed.was at found.1) ∙ settle_calm c.collect.new.journal.past Open (ap is_quitting found.0.shown ∙ at.going) in
    collects_shown g.start c.args.journal.now.past c.collect.new.journal.past c.show.new.journal.past found.0 c.show.ensures.adds done

-- ---- what hooks promise

pub returns-in_err-collected-clause-promised : goal.returns-in_err-collected-clause-promised
returns-in_err-collected-clause-promised g c = let d = c.collect.ensures.within in promised_grown (λ h. g.H.JobHooks.seen h) (λ plan. g.H.JobHooks.rule plan) (λ h. g.H.JobHooks.stands h) g.start _ _ _ _ _ (λ h. g.met.H.JobHooks.stands_other h) d.grows.stands d.grows.keeps

pub returns-in-Done-clause-promised : goal.returns-in-Done-clause-promised
returns-in-Done-clause-promised g c = let d = c.collect.ensures.within in promised_grown (λ h. g.H.JobHooks.seen h) (λ plan. g.H.JobHooks.rule plan) (λ h. g.H.JobHooks.stands h) g.start _ _ _ _ _ (λ h. g.met.H.JobHooks.stands_other h) d.grows.stands d.grows.keeps

pub returns-in_err-error-in-Failed-clause-promised : goal.returns-in_err-error-in-Failed-clause-promised
returns-in_err-error-in-Failed-clause-promised g c = let d = c.collect.ensures.within in promised_grown (λ h. g.H.JobHooks.seen h) (λ plan. g.H.JobHooks.rule plan) (λ h. g.H.JobHooks.stands h) g.start _ _ _ _ _ (λ h. g.met.H.JobHooks.stands_other h) d.grows.stands d.grows.keeps

pub returns-in_err-show-in-Failed-clause-promised : goal.returns-in_err-show-in-Failed-clause-promised
returns-in_err-show-in-Failed-clause-promised g c = let d = returns-in_err-show-in-Failed-clause-within g c in promised_grown (λ h. g.H.JobHooks.seen h) (λ plan. g.H.JobHooks.rule plan) (λ h. g.H.JobHooks.stands h) g.start _ _ _ _ _ (λ h. g.met.H.JobHooks.stands_other h) d.grows.stands d.grows.keeps

pub returns-in_ok-show-in-Failed-clause-promised : goal.returns-in_ok-show-in-Failed-clause-promised
returns-in_ok-show-in-Failed-clause-promised g c = let d = returns-in_ok-show-in-Failed-clause-within g c in promised_grown (λ h. g.H.JobHooks.seen h) (λ plan. g.H.JobHooks.rule plan) (λ h. g.H.JobHooks.stands h) g.start _ _ _ _ _ (λ h. g.met.H.JobHooks.stands_other h) d.grows.stands d.grows.keeps
