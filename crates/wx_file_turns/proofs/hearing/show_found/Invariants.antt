use Rattle.wx_file_turns.proofs.hearing.show_found.Given as goal

abbrev pub ghost-show_owed : goal.ghost-show_owed
ghost-show_owed g a = g.start
