use Rattle.wx_action.proofs.job_turns.change_turn.Given as goal

abbrev pub ghost-ignored : goal.ghost-ignored
ghost-ignored g a = g.start
