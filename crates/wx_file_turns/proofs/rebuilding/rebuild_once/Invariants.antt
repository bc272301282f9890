use Rattle.wx_file_turns.proofs.rebuilding.rebuild_once.Given as goal

abbrev pub ghost-make_backend : goal.ghost-make_backend
ghost-make_backend g a = g.start

abbrev pub ghost-show_errors : goal.ghost-show_errors
ghost-show_errors g a = g.start
