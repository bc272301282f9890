use Rattle.wx_file_turns.proofs.hearing.show_owed.Given as goal

abbrev pub ghost-call_show : goal.ghost-call_show
ghost-call_show g a = g.start
