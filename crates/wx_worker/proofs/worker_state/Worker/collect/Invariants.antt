use Rattle.wx_worker.proofs.worker_state.Worker.collect.Given as goal

abbrev pub ghost-collect_going : goal.ghost-collect_going
ghost-collect_going g a = g.start
