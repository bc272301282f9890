use Rattle.wx_action.proofs.job_turns.take_step.Given as goal

abbrev pub ghost-step_of : goal.ghost-step_of
ghost-step_of g a = g.start
