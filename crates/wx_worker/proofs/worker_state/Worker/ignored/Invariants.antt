use Rattle.wx_worker.proofs.worker_state.Worker.ignored.Given as goal

abbrev pub ghost-say : goal.ghost-say
ghost-say g a = g.start
