use Rattle.wx_file_turns.proofs.applying.apply.Given as goal

abbrev pub ghost-watch : goal.ghost-watch
ghost-watch g a = g.start
