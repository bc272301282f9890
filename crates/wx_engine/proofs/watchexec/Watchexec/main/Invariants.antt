use Rattle.wx_engine.proofs.watchexec.Watchexec.main.Given as goal

abbrev pub ghost-run : goal.ghost-run
ghost-run g a = a.engine
