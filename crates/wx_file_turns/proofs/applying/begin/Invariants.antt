use Rattle.wx_file_turns.proofs.applying.begin.Given as goal

abbrev pub ghost-make_backend : goal.ghost-make_backend
ghost-make_backend g a = g.start
