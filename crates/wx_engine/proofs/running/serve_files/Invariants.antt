use Rattle.wx_engine.proofs.running.serve_files.Given as goal

abbrev pub ghost-file_turn : goal.ghost-file_turn
ghost-file_turn g a = g.start

abbrev pub ghost-listen_turn : goal.ghost-listen_turn
ghost-listen_turn g a = g.start
