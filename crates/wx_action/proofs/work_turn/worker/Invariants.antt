use Rattle.wx_action.proofs.work_turn.worker.Given as goal

abbrev pub ghost-throttle_collect : goal.ghost-throttle_collect
ghost-throttle_collect g a = g.start

abbrev pub ghost-hand : goal.ghost-hand
ghost-hand g a = g.start
