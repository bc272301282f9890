use Rattle.std.proofs.Common.{arith, ◌∙◌}
use Rattle.wx_worker.specs.Serves.{Continues}
use Rattle.wx_worker.proofs.ArriveLemmas.{on_err}
use Rattle.wx_action.proofs.HandLemmas.{none_to_go, through, aborting_kept, works_acts}
use Rattle.wx_action.proofs.PerformLemmas.{quit_owed}
use Rattle.wx_action.proofs.work_turn.hand.Goals.{After-perform, After-ask_quit}
use Rattle.wx_worker.proofs.Serving.{serves_both, keeps_adds, continues_then}
use Rattle.wx_action.proofs.work_turn.hand.Goals as goal

pub perform-requires : goal.perform-requires
perform-requires g c = λ κs lives. (
  lives,
  (
    (c.hand_batch-quit.result.0, c.hand_batch-quit.ensures.owes.0, c.hand_batch-quit.ensures.owes.1),
    record { stands = c.hand_batch-quit.ensures.grows.stands; room = record { in_journal = c.hand_batch-quit.ensures.room; in_host = (let fewer = c.hand_batch-quit.ensures.end_room in let room = c.requires.1.1.1.1.1 in omega arith) } },
  ),
)

-- what the quit asks is owed once the acts are done
pub ask_quit-requires : goal.ask_quit-requires
ask_quit-requires g c = (
  quit_owed g.start c.perform.new.journal.past c.hand_batch-quit.result.0 c.hand_batch-quit.ensures.owes.0 (c.in_ok-perform.ensures.done c.hand_batch-quit.result.0 c.hand_batch-quit.ensures.owes.0 c.hand_batch-quit.ensures.owes.1),
  c.perform.ensures.performs.ready.stands,
)

-- ---- the acts were performed, in part or all

pub returns-in_err-perform-clause-cut : goal.returns-in_err-perform-clause-cut
returns-in_err-perform-clause-cut g c =
    let left = c.perform.ensures.owes c.hand_batch-quit.result.0 c.hand_batch-quit.ensures.owes.0 c.hand_batch-quit.ensures.owes.1 in
    on_err c.from_residual.result (none_to_go g.start c.perform.new.journal.past left.0 c.hand_batch-quit.result.0 c.hand_batch-quit.ensures.owes.0 left.1)

continues : (g : _) (c : After-perform g) → Continues (λ h. g.H.JobHooks.seen h) (λ plan. g.H.JobHooks.rule plan) (λ h. g.H.JobHooks.stands h) g.start c.args.worker.now c.args.journal.now (g.W.Outside.seen c.args.host.now) c.args.hooks.now c.perform.new.worker c.perform.new.journal (g.W.Outside.seen c.perform.new.host) c.hand_batch-quit.new.hooks
continues g c = record {
  stands = c.perform.ensures.performs.ready.stands;
  serves = serves_both _ _ _ _ _ _ _ _ c.hand_batch-quit.ensures.grows.adds c.perform.ensures.performs.adds c.perform.ensures.performs.rest;
  keeps = λ x₀ p₀ k. keeps_adds _ _ _ _ _ _ _ c.perform.ensures.performs.adds x₀ p₀ (c.hand_batch-quit.ensures.grows.keeps x₀ p₀ k);
  room = λ before. c.perform.ensures.performs.ready.room;
}

pub returns-in_err-perform-clause-continues : goal.returns-in_err-perform-clause-continues
returns-in_err-perform-clause-continues g c = continues g (goal.at.returns-in_err-perform-clause-continues g c).After-perform

-- ---- the quit was asked

asked : (g : _) (c : After-ask_quit g) → Continues (λ h. g.H.JobHooks.seen h) (λ plan. g.H.JobHooks.rule plan) (λ h. g.H.JobHooks.stands h) g.start c.args.worker.now c.args.journal.now (g.W.Outside.seen c.args.host.now) c.args.hooks.now c.perform.new.worker c.perform.new.journal (g.W.Outside.seen c.perform.new.host) c.hand_batch-quit.new.hooks
    → Continues (λ h. g.H.JobHooks.seen h) (λ plan. g.H.JobHooks.rule plan) (λ h. g.H.JobHooks.stands h) g.start c.args.worker.now c.args.journal.now (g.W.Outside.seen c.args.host.now) c.args.hooks.now c.ask_quit.new.worker c.ask_quit.new.journal (g.W.Outside.seen c.perform.new.host) c.hand_batch-quit.new.hooks
asked g c before = continues_then _ _ _ _ _ _ _ _ _ _ _ _ _ _ before c.ask_quit.ensures.grows

pub returns-in_err-ask_quit-clause-continues : goal.returns-in_err-ask_quit-clause-continues
returns-in_err-ask_quit-clause-continues g c = let at = goal.at.returns-in_err-ask_quit-clause-continues g c in asked g at.After-ask_quit (continues g at.After-perform)

pub returns-clause-continues : goal.returns-clause-continues
returns-clause-continues g c = let at = goal.at.returns-clause-continues g c in asked g at.After-ask_quit (continues g at.After-perform)

pub returns-in_err-ask_quit-clause-cut : goal.returns-in_err-ask_quit-clause-cut
returns-in_err-ask_quit-clause-cut g c = on_err c.from_residual-in_err-ask_quit.result c.in_err-ask_quit.ensures.cut

pub returns-clause-works : goal.returns-clause-works
returns-clause-works g c =
    let aborts = aborting_kept g.start c.perform.new.journal.past c.ask_quit.new.journal.past c.ask_quit.ensures.grows.adds ∙ aborting_kept g.start c.hand_batch-quit.new.journal.past c.perform.new.journal.past c.perform.ensures.performs.adds ∙ c.hand_batch-quit.ensures.aborts in
    rw c.worked_by.ensures (works_acts g.start c.ask_quit.new.journal.past _ _ aborts (through g.start c.ask_quit.new.worker c.ask_quit.new.journal.past c.ask_quit.ensures.grows.stands) c.in_ok-ask_quit.ensures.done)
