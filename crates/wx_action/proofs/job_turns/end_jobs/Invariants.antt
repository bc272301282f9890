use Rattle.wx_action.proofs.job_turns.end_jobs.Given as goal

abbrev pub ghost-end_all : goal.ghost-end_all
ghost-end_all g a = g.start
