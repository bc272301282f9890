use Rattle.std.proofs.Common.{ap, sym, ◌∙◌}
use Rattle.wx_recursor.specs.States.{RecursorState}
use Rattle.wx_recursor.specs.Rebuilds.{installed}
use Rattle.wx_file_turns.proofs.listening.ask_next.Goals as goal

pub restore-requires-clause-lent : goal.restore-requires-clause-lent
restore-requires-clause-lent g c = ap (λ (x : RecursorState). x.backend) c.in-Some.ensures.state

pub returns-clause-gives : goal.returns-clause-gives
returns-clause-gives g c = (c.in-Some.back, c.listen-answer.new.back, sym c.lend.ensures.lends ∙ c.in-Some.is, c.restore.ensures.backend, c.listen-answer.ensures)

pub returns-clause-state : goal.returns-clause-state
returns-clause-state g c = c.restore.ensures.state ∙ ap installed c.in-Some.ensures.state
