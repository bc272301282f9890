use Rattle.wx_worker.proofs.worker_state.Worker.take.Given as goal

abbrev pub ghost-judge : goal.ghost-judge
ghost-judge g a = g.start
