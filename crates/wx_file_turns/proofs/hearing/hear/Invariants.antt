use Rattle.wx_file_turns.proofs.hearing.hear.Given as goal

abbrev pub ghost-show_fault : goal.ghost-show_fault
ghost-show_fault g a = g.start
