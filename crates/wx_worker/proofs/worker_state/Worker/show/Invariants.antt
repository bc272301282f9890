use Rattle.wx_worker.proofs.worker_state.Worker.show.Given as goal

abbrev pub ghost-call_show : goal.ghost-call_show
ghost-call_show g a = g.start
