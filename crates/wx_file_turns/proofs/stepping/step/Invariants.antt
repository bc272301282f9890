use Rattle.wx_file_turns.proofs.stepping.step.Given as goal

abbrev pub ghost-work : goal.ghost-work
ghost-work g a = g.start

abbrev pub ghost-say : goal.ghost-say
ghost-say g a = g.start
