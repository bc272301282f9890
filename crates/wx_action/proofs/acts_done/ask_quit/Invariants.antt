use Rattle.wx_action.proofs.acts_done.ask_quit.Given as goal

abbrev pub ghost-stop_jobs : goal.ghost-stop_jobs
ghost-stop_jobs g a = g.start
