use Rattle.wx_file_turns.proofs.hearing.show_fault.Given as goal

abbrev pub ghost-show_found : goal.ghost-show_found
ghost-show_found g a = g.start
