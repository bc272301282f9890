use Rattle.std.proofs.Common.{refl, arith, inr, ◌∙◌}
use Rattle.wx_journal.specs.declared.entry.TurnKind.TheVariants.{Arrive, Last}
use Rattle.wx_machine.proofs.SteadyLemmas.{only_none}
use Rattle.wx_machine.specs.Due.{Open}
use Rattle.wx_machine.proofs.SettleLaws.{settle_calm, served_open}
use Rattle.wx_action.proofs.HandLemmas.{works_served}
use Rattle.wx_worker.proofs.TurnLaws.{at_turn}
use Rattle.wx_worker.proofs.Serving.{hooks_none, continues_room, continues_grows}
use Rattle.wx_worker.proofs.BreakLemmas.{breaks_want, breaks_left}
use Rattle.wx_engine.proofs.running.serve_other.Goals as goal

pub arrive-requires : goal.arrive-requires
arrive-requires g c =
    let d = at_turn g.start c.args.state.now c.args.at (Arrive c.in-Arrive.event c.in-Arrive.priority) c.args.journal.now.past tt (rw c.in-Arrive.is at c.requires.1.1.1.0) in (Open, record { stands = d.stands; due = d.due })

pub returns-in_ok-arrive-in-Arrive-clause-works : goal.returns-in_ok-arrive-in-Arrive-clause-works
returns-in_ok-arrive-in-Arrive-clause-works g c =
    let d = at_turn g.start c.args.state.now c.args.at (Arrive c.in-Arrive.event c.in-Arrive.priority) c.args.journal.now.past tt (rw c.in-Arrive.is at c.requires.1.1.1.0) in
    rw c.worked.ensures (works_served g.start c.arrive.new.self c.arrive.new.journal.past c.arrive.ensures.grows.stands (served_open g.start c.arrive.new.journal.past (c.in_ok-arrive-in-Arrive.ensures.done Open d.due ∙ settle_calm c.args.journal.now.past Open d.going)))

pub returns-in_ok-job_turn-in-Job-clause-works : goal.returns-in_ok-job_turn-in-Job-clause-works
returns-in_ok-job_turn-in-Job-clause-works g c = rw c.worked-in-Job.ensures (works_served g.start c.job_turn.new.worker c.job_turn.new.journal.past c.job_turn.ensures.continues.stands c.in_ok-job_turn-in-Job.ensures.steps.done)

pub returns-in_ok-ended_turn-in-Ended-clause-works : goal.returns-in_ok-ended_turn-in-Ended-clause-works
returns-in_ok-ended_turn-in-Ended-clause-works g c = rw c.worked-in-Ended.ensures (works_served g.start c.ended_turn.new.worker c.ended_turn.new.journal.past c.ended_turn.ensures.continues.stands c.in_ok-ended_turn-in-Ended.ensures.steps.done)

pub returns-in_ok-ask_turn-in-Ask-clause-works : goal.returns-in_ok-ask_turn-in-Ask-clause-works
returns-in_ok-ask_turn-in-Ask-clause-works g c = rw c.worked-in-Ask.ensures (works_served g.start c.ask_turn.new.worker c.ask_turn.new.journal.past c.ask_turn.ensures.grows.stands c.in_ok-ask_turn-in-Ask.ensures.settles.done)

pub returns-in_ok-change_turn-in-Change-clause-works : goal.returns-in_ok-change_turn-in-Change-clause-works
returns-in_ok-change_turn-in-Change-clause-works g c = rw c.worked-in-Change.ensures (works_served g.start c.change_turn.new.worker c.change_turn.new.journal.past c.change_turn.ensures.grows.stands c.in_ok-change_turn-in-Change.ensures.settles.done)

pub returns-in-Last-clause-continues : goal.returns-in-Last-clause-continues
returns-in-Last-clause-continues g c = continues_room _ _ _ _ _ _ _ _ _ _ _ (at_turn g.start c.args.state.now c.args.at Last c.args.journal.now.past tt (rw c.in-Last.is at c.requires.1.1.1.0)).stands refl (omega arith) only_none (hooks_none _ _ _)

pub returns-in_ok-arrive-in-Arrive-clause-continues : goal.returns-in_ok-arrive-in-Arrive-clause-continues
returns-in_ok-arrive-in-Arrive-clause-continues g c = continues_grows _ _ _ _ _ _ _ _ _ _ c.arrive.ensures.grows

pub returns-in_err-arrive-in-Arrive-clause-continues : goal.returns-in_err-arrive-in-Arrive-clause-continues
returns-in_err-arrive-in-Arrive-clause-continues g c = continues_grows _ _ _ _ _ _ _ _ _ _ c.arrive.ensures.grows

pub returns-in_ok-ask_turn-in-Ask-clause-continues : goal.returns-in_ok-ask_turn-in-Ask-clause-continues
returns-in_ok-ask_turn-in-Ask-clause-continues g c = continues_grows _ _ _ _ _ _ _ _ _ _ c.ask_turn.ensures.grows

pub returns-in_err-ask_turn-in-Ask-clause-continues : goal.returns-in_err-ask_turn-in-Ask-clause-continues
returns-in_err-ask_turn-in-Ask-clause-continues g c = continues_grows _ _ _ _ _ _ _ _ _ _ c.ask_turn.ensures.grows

pub returns-in_ok-change_turn-in-Change-clause-continues : goal.returns-in_ok-change_turn-in-Change-clause-continues
returns-in_ok-change_turn-in-Change-clause-continues g c = continues_grows _ _ _ _ _ _ _ _ _ _ c.change_turn.ensures.grows

pub returns-in_err-change_turn-in-Change-clause-continues : goal.returns-in_err-change_turn-in-Change-clause-continues
returns-in_err-change_turn-in-Change-clause-continues g c = continues_grows _ _ _ _ _ _ _ _ _ _ c.change_turn.ensures.grows

pub returns-in_err-job_turn-in-Job-clause-breaks : goal.returns-in_err-job_turn-in-Job-clause-breaks
returns-in_err-job_turn-in-Job-clause-breaks g c = breaks_want g.start c.job_turn.new.journal.past c.from_residual-in_err-job_turn-in-Job.result c.from_residual-in_err-job_turn-in-Job.ensures.1 (breaks_left g.start c.args.state.now c.args.at c.args.kind c.args.journal.now.past _ c.requires.1.1.1.0 c.in_err-job_turn-in-Job.ensures.steps.err)

pub returns-in_err-ended_turn-in-Ended-clause-breaks : goal.returns-in_err-ended_turn-in-Ended-clause-breaks
returns-in_err-ended_turn-in-Ended-clause-breaks g c = breaks_want g.start c.ended_turn.new.journal.past c.from_residual-in_err-ended_turn-in-Ended.result c.from_residual-in_err-ended_turn-in-Ended.ensures.1 (breaks_left g.start c.args.state.now c.args.at c.args.kind c.args.journal.now.past _ c.requires.1.1.1.0 c.in_err-ended_turn-in-Ended.ensures.steps.err)

pub returns-in_ok-signal_turn-in-Signal-clause-continues : goal.returns-in_ok-signal_turn-in-Signal-clause-continues
returns-in_ok-signal_turn-in-Signal-clause-continues g c = continues_grows _ _ _ _ _ _ _ _ _ _ c.signal_turn.ensures.grows

pub returns-in_err-signal_turn-in-Signal-clause-continues : goal.returns-in_err-signal_turn-in-Signal-clause-continues
returns-in_err-signal_turn-in-Signal-clause-continues g c = continues_grows _ _ _ _ _ _ _ _ _ _ c.signal_turn.ensures.grows

pub returns-in_ok-keys_turn-in-Keys-clause-continues : goal.returns-in_ok-keys_turn-in-Keys-clause-continues
returns-in_ok-keys_turn-in-Keys-clause-continues g c = continues_grows _ _ _ _ _ _ _ _ _ _ c.keys_turn.ensures.grows

pub returns-in_err-keys_turn-in-Keys-clause-continues : goal.returns-in_err-keys_turn-in-Keys-clause-continues
returns-in_err-keys_turn-in-Keys-clause-continues g c = continues_grows _ _ _ _ _ _ _ _ _ _ c.keys_turn.ensures.grows

pub returns-in_err-keys_turn-in-Keys-clause-breaks : goal.returns-in_err-keys_turn-in-Keys-clause-breaks
returns-in_err-keys_turn-in-Keys-clause-breaks g c = breaks_want g.start c.keys_turn.new.journal.past c.from_residual-in_err-keys_turn-in-Keys.result c.from_residual-in_err-keys_turn-in-Keys.ensures.1 (inr c.in_err-keys_turn-in-Keys.ensures.cut)

pub returns-in_ok-signal_turn-in-Signal-clause-works : goal.returns-in_ok-signal_turn-in-Signal-clause-works
returns-in_ok-signal_turn-in-Signal-clause-works g c = rw c.worked-in-Signal.ensures (works_served g.start c.signal_turn.new.worker c.signal_turn.new.journal.past c.signal_turn.ensures.grows.stands c.in_ok-signal_turn-in-Signal.ensures.settles.done)

pub returns-in_ok-keys_turn-in-Keys-clause-works : goal.returns-in_ok-keys_turn-in-Keys-clause-works
returns-in_ok-keys_turn-in-Keys-clause-works g c = rw c.worked-in-Keys.ensures (works_served g.start c.keys_turn.new.worker c.keys_turn.new.journal.past c.keys_turn.ensures.grows.stands c.in_ok-keys_turn-in-Keys.ensures.done)
