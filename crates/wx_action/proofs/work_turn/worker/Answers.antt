use Rattle.std.proofs.Common.{inr}
use Rattle.wx_worker.specs.Serves.{Continues}
use Rattle.wx_worker.proofs.TurnLaws.{at_turn}
use Rattle.wx_action.proofs.HandLemmas.{works_unhanded}
use Rattle.wx_worker.proofs.BreakLemmas.{behind, breaks_want, breaks_on, breaks_fails}
use Rattle.wx_action.proofs.work_turn.worker.Goals.{After-hand}
use Rattle.wx_worker.proofs.Serving.{continues_room, continues_after, continues_grown, continues_hand, promised_grown}
use Rattle.wx_action.proofs.work_turn.worker.Goals as goal

-- ---- what holds where no room was there

pub returns-in_err-reserve_calls-clause-continues : goal.returns-in_err-reserve_calls-clause-continues
returns-in_err-reserve_calls-clause-continues g c =
    let at = at_turn g.start c.args.worker.now c.args.at _ c.args.journal.now.past tt c.requires.1.1 in
    continues_room _ _ _ _ _ _ _ _ _ _ _ at.stands c.reserve_calls.ensures.same c.reserve_calls.ensures.kept c.reserve_calls.ensures.host c.reserve_calls.ensures.hooks

pub returns-in_err-reserve_calls-clause-breaks : goal.returns-in_err-reserve_calls-clause-breaks
returns-in_err-reserve_calls-clause-breaks g c = breaks_want g.start c.reserve_calls.new.journal.past c.from_residual.result c.from_residual.ensures.1 (behind g.start c.args.worker.now c.args.at c.args.journal.now.past _ c.requires.1.1 c.reserve_calls.ensures.same)

-- ---- what holds where collecting failed

pub returns-in_err-found-clause-breaks : goal.returns-in_err-found-clause-breaks
returns-in_err-found-clause-breaks g c =
    breaks_on g.start c.throttle_collect.new.journal.past c.from_residual-in_err-found.result c.in_err-found.field-0.0 c.from_residual-in_err-found.ensures.1
    (breaks_fails g.start c.args.worker.now c.args.at c.args.journal.now.past c.reserve_calls.new.journal.past c.throttle_collect.new.journal.past c.in_err-found.field-0.0 c.requires.1.1 c.reserve_calls.ensures.same c.in_err-found.ensures.fails)

pub returns-in_err-found-clause-continues : goal.returns-in_err-found-clause-continues
returns-in_err-found-clause-continues g c =
    continues_after _ _ _ _ _ _ _ _ _ _ _ _ _ _ _ c.reserve_calls.ensures.same c.reserve_calls.ensures.kept c.reserve_calls.ensures.host c.reserve_calls.ensures.hooks (continues_grown _ _ _ _ _ _ _ _ _ _ _ _ _ c.throttle_collect.ensures.within c.throttle_collect.ensures.kept_room)

-- ---- what holds where the window isn't due

pub returns-in_default-clause-works : goal.returns-in_default-clause-works
returns-in_default-clause-works g c = rw c.without_hand.ensures (works_unhanded g.start c.reserve_calls.new.journal.past c.throttle_collect.new.journal.past c.in_ok-found.found c.in_default.not-Hand c.in_ok-found.ensures.collected)

pub returns-in_default-clause-continues : goal.returns-in_default-clause-continues
returns-in_default-clause-continues g c =
    continues_after _ _ _ _ _ _ _ _ _ _ _ _ _ _ _ c.reserve_calls.ensures.same c.reserve_calls.ensures.kept c.reserve_calls.ensures.host c.reserve_calls.ensures.hooks (continues_grown _ _ _ _ _ _ _ _ _ _ _ _ _ c.throttle_collect.ensures.within c.throttle_collect.ensures.kept_room)

-- ---- what holds once it was handed

continues : (g : _) (c : After-hand g) → Continues (λ h. g.H.JobHooks.seen h) (λ plan. g.H.JobHooks.rule plan) (λ h. g.H.JobHooks.stands h) g.start c.args.worker.now c.args.journal.now (g.W.Outside.seen c.args.host.now) c.args.hooks.now c.hand.new.worker c.hand.new.journal (g.W.Outside.seen c.hand.new.host) c.hand.new.hooks
continues g c = continues_after _ _ _ _ _ _ _ _ _ _ _ _ _ _ _ c.reserve_calls.ensures.same c.reserve_calls.ensures.kept c.reserve_calls.ensures.host c.reserve_calls.ensures.hooks (continues_hand _ _ _ _ _ _ _ _ _ _ _ _ _ _ _ _ _ c.throttle_collect.ensures.within c.throttle_collect.ensures.kept_room c.hand.ensures.continues)

pub returns-in_err-hand-in-Hand-clause-continues : goal.returns-in_err-hand-in-Hand-clause-continues
returns-in_err-hand-in-Hand-clause-continues g c = continues g (goal.at.returns-in_err-hand-in-Hand-clause-continues g c).After-hand

pub returns-in_ok-hand-in-Hand-clause-continues : goal.returns-in_ok-hand-in-Hand-clause-continues
returns-in_ok-hand-in-Hand-clause-continues g c = continues g (goal.at.returns-in_ok-hand-in-Hand-clause-continues g c).After-hand

pub returns-in_err-hand-in-Hand-clause-breaks : goal.returns-in_err-hand-in-Hand-clause-breaks
returns-in_err-hand-in-Hand-clause-breaks g c = breaks_want g.start c.hand.new.journal.past c.from_residual-in_err-hand-in-Hand.result c.from_residual-in_err-hand-in-Hand.ensures.1 (inr c.in_err-hand-in-Hand.ensures.cut)

-- ---- what hooks promise

pub returns-in_err-reserve_calls-clause-promised : goal.returns-in_err-reserve_calls-clause-promised
returns-in_err-reserve_calls-clause-promised g c = let d = returns-in_err-reserve_calls-clause-continues g c in promised_grown (λ h. g.H.JobHooks.seen h) (λ plan. g.H.JobHooks.rule plan) (λ h. g.H.JobHooks.stands h) g.start _ _ _ _ _ (λ h. g.met.H.JobHooks.stands_other h) d.stands d.keeps

pub returns-in_err-found-clause-promised : goal.returns-in_err-found-clause-promised
returns-in_err-found-clause-promised g c = let d = returns-in_err-found-clause-continues g c in promised_grown (λ h. g.H.JobHooks.seen h) (λ plan. g.H.JobHooks.rule plan) (λ h. g.H.JobHooks.stands h) g.start _ _ _ _ _ (λ h. g.met.H.JobHooks.stands_other h) d.stands d.keeps

pub returns-in_default-clause-promised : goal.returns-in_default-clause-promised
returns-in_default-clause-promised g c = let d = returns-in_default-clause-continues g c in promised_grown (λ h. g.H.JobHooks.seen h) (λ plan. g.H.JobHooks.rule plan) (λ h. g.H.JobHooks.stands h) g.start _ _ _ _ _ (λ h. g.met.H.JobHooks.stands_other h) d.stands d.keeps

pub returns-in_err-hand-in-Hand-clause-promised : goal.returns-in_err-hand-in-Hand-clause-promised
returns-in_err-hand-in-Hand-clause-promised g c = let d = returns-in_err-hand-in-Hand-clause-continues g c in promised_grown (λ h. g.H.JobHooks.seen h) (λ plan. g.H.JobHooks.rule plan) (λ h. g.H.JobHooks.stands h) g.start _ _ _ _ _ (λ h. g.met.H.JobHooks.stands_other h) d.stands d.keeps

pub returns-in_ok-hand-in-Hand-clause-promised : goal.returns-in_ok-hand-in-Hand-clause-promised
returns-in_ok-hand-in-Hand-clause-promised g c = let d = returns-in_ok-hand-in-Hand-clause-continues g c in promised_grown (λ h. g.H.JobHooks.seen h) (λ plan. g.H.JobHooks.rule plan) (λ h. g.H.JobHooks.stands h) g.start _ _ _ _ _ (λ h. g.met.H.JobHooks.stands_other h) d.stands d.keeps
