use Rattle.wx_machine.proofs.SteadyLemmas.{only_none}
use Rattle.wx_worker.proofs.Serving.{hooks_none}
use Rattle.wx_worker.proofs.worker_state.Worker.reserve_calls.Goals as goal

pub returns-in_err-reserve-clause-host : goal.returns-in_err-reserve-clause-host
returns-in_err-reserve-clause-host g c = only_none

pub returns-in_err-reserve-clause-hooks : goal.returns-in_err-reserve-clause-hooks
returns-in_err-reserve-clause-hooks g c = hooks_none _ _ _

pub returns-in_err-reserve_host-clause-hooks : goal.returns-in_err-reserve_host-clause-hooks
returns-in_err-reserve_host-clause-hooks g c = hooks_none _ _ _
