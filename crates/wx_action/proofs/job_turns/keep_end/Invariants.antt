use Rattle.wx_action.proofs.job_turns.keep_end.Given as goal

abbrev pub ghost-parent : goal.ghost-parent
ghost-parent g a = g.start
