use Rattle.wx_file_turns.proofs.stepping.work.Given as goal

abbrev pub ghost-take_step : goal.ghost-take_step
ghost-take_step g a = g.start

abbrev pub ghost-show_errors : goal.ghost-show_errors
ghost-show_errors g a = g.start

abbrev pub ghost-rebuild_where : goal.ghost-rebuild_where
ghost-rebuild_where g a = g.start
