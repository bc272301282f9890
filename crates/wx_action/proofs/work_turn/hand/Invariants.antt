use Rattle.wx_action.proofs.work_turn.hand.Given as goal

abbrev pub ghost-hand_batch : goal.ghost-hand_batch
ghost-hand_batch g a = g.start

abbrev pub ghost-perform : goal.ghost-perform
ghost-perform g a = g.start

abbrev pub ghost-ask_quit : goal.ghost-ask_quit
ghost-ask_quit g a = g.start
