use Rattle.std.proofs.Common.{[], sym}
use Rattle.wx_holding.specs.Holding.{state_of}
use Rattle.wx_step.proofs.Rests.{released_rests, rests_released}
use Rattle.wx_step.proofs.resting.let_go.Goals as goal

pub returns-then-at_rest-clause-state : goal.returns-then-at_rest-clause-state
returns-then-at_rest-clause-state g c = ([], sym (rests_released (state_of c.args.held.now) (c.requires c.if-at_rest.true)))

pub returns-clause-rests : goal.returns-clause-rests
returns-clause-rests g c = λ h.
    let f = c.in_ok-release.ensures.state in
    released_rests f.0 (state_of c.args.held.now) (state_of c.release.new.self) f.1 (c.is_quiet.ensures.waiting h) (c.is_quiet.ensures.lost h)

pub returns-then-at_rest-clause-calm : goal.returns-then-at_rest-clause-calm
returns-then-at_rest-clause-calm g c = λ t still stands sound. (([], λ u m. absurd m, sym (rests_released (state_of c.args.held.now) (c.requires c.if-at_rest.true))), stands)

pub returns-clause-calm : goal.returns-clause-calm
returns-clause-calm g c = λ t still stands sound. c.in_ok-release.ensures.calm t still stands sound
