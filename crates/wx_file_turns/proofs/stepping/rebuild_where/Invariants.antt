use Rattle.wx_file_turns.proofs.stepping.rebuild_where.Given as goal

abbrev pub ghost-rebuild : goal.ghost-rebuild
ghost-rebuild g a = g.start
