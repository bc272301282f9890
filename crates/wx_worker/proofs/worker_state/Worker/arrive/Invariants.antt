use Rattle.wx_worker.proofs.worker_state.Worker.arrive.Given as goal

abbrev pub ghost-offer : goal.ghost-offer
ghost-offer g a = g.start
