use Rattle.wx_worker.proofs.collecting.throttle_collect.Given as goal

abbrev pub ghost-collect : goal.ghost-collect
ghost-collect g a = g.start

abbrev pub ghost-show : goal.ghost-show
ghost-show g a = g.start
