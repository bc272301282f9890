use Rattle.wx_action.proofs.acts_done.stop_job.Given as goal

abbrev pub ghost-ask_or_ignore : goal.ghost-ask_or_ignore
ghost-ask_or_ignore g a = g.start
