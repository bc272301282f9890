use Rattle.wx_file_turns.proofs.showing.say.Given as goal

abbrev pub ghost-say_due : goal.ghost-say_due
ghost-say_due g a = g.start
