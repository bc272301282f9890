use Rattle.wx_file_turns.proofs.listening.listen_turn.Given as goal

abbrev pub ghost-say : goal.ghost-say
ghost-say g a = g.start

abbrev pub ghost-listen : goal.ghost-listen
ghost-listen g a = g.start
