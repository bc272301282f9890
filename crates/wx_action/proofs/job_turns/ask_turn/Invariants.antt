use Rattle.wx_action.proofs.job_turns.ask_turn.Given as goal

abbrev pub ghost-ignored : goal.ghost-ignored
ghost-ignored g a = g.start
