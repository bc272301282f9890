use Rattle.wx_worker.proofs.worker_state.Worker.say.Given as goal

abbrev pub ghost-say_due : goal.ghost-say_due
ghost-say_due g a = g.start
