use Rattle.std.proofs.Common.{ap, sym, ◌∙◌}
use Rattle.wx_recursor.specs.States.{RecursorState}
use Rattle.wx_holding.specs.Holding.{state_of}
use Rattle.wx_holding.proofs.StandingBy.{stands_same}
use Rattle.wx_step.proofs.Acted.{hands_from}
use Rattle.wx_step.proofs.Calmed.{hands_calm}
use Rattle.wx_step.proofs.Raised.{looks_or_sweeps}
use Rattle.wx_step.proofs.Rests.{told_rests}
use Rattle.wx_step.proofs.stepping.step.Goals as goal

pub returns-clause-state : goal.returns-clause-state
returns-clause-state g c = hands_from (state_of c.args.held.now) (state_of c.run.new.held) (state_of c.hand_out.new.held) _ _ c.in_ok-rests.ensures.state c.hand_out.ensures.state c.hand_out.ensures.errors c.hand_out.ensures.rebuild

pub returns-clause-raised : goal.returns-clause-raised
returns-clause-raised g c = looks_or_sweeps (state_of c.args.held.now) (state_of c.run.new.held) (state_of c.hand_out.new.held) (g.S.Looks.looked c.args.scan.now) (g.S.Looks.looked c.run.new.scan) c.in_ok-rests.ensures.raised c.in_ok-rests.ensures.state c.hand_out.ensures.state

pub returns-clause-rests : goal.returns-clause-rests
returns-clause-rests g c = λ h. told_rests (state_of c.run.new.held) (state_of c.hand_out.new.held) c.hand_out.ensures.state (c.in_ok-rests.ensures.rests (sym c.hand_out.ensures.rests ∙ h))

pub returns-clause-calm : goal.returns-clause-calm
returns-clause-calm g c = λ t ok calm named agreed readable sound.
    let a = c.in_ok-rests.ensures.calm t ok calm named agreed readable sound in (
      hands_calm t ok (state_of c.args.held.now) (state_of c.run.new.held) (state_of c.hand_out.new.held) c.hand_out.result.errors.items c.hand_out.result.asks_rebuild a.0 c.hand_out.ensures.state c.hand_out.ensures.errors c.hand_out.ensures.rebuild,
      stands_same t (state_of c.run.new.held).registrations (state_of c.hand_out.new.held).registrations (g.B.Backend.backing c.run.new.back) (g.B.Backend.fits c.run.new.back t) (ap (λ (x : RecursorState). x.registrations) c.hand_out.ensures.state) a.1,
    )
