use Rattle.wx_file_turns.proofs.stepping.attend.Given as goal

abbrev pub ghost-step : goal.ghost-step
ghost-step g a = g.start

abbrev pub ghost-rest : goal.ghost-rest
ghost-rest g a = g.start
