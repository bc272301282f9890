use Rattle.wx_step.proofs.Caused.{step_caused}
use Rattle.wx_step.proofs.laws.asks_for_causes.Goals as goal

pub returns : goal.returns
returns c = λ e s h. step_caused e s h
