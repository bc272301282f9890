use Rattle.wx_worker.proofs.worker_state.Worker.collect_going.Given as goal

abbrev pub ghost-take : goal.ghost-take
ghost-take g a = g.start
