use Rattle.std.proofs.Common.{◌≡◌, true}
use Rattle.wx_holding.specs.Holding.{state_of}
use Rattle.wx_step.specs.Rests.{IsAtRest}
use Rattle.wx_recursor_tests.proofs.trial.Trial.settle.Given as goal

abbrev pub invariant-loop : goal.invariant-loop
invariant-loop l = l.at_rest ≡ true → IsAtRest (state_of l.self.held)
