use Rattle.wx_engine.proofs.running.run.Given as goal

abbrev pub ghost-begin : goal.ghost-begin
ghost-begin g a = g.start

abbrev pub ghost-serve_turns : goal.ghost-serve_turns
ghost-serve_turns g a = g.start

abbrev pub ghost-end_jobs : goal.ghost-end_jobs
ghost-end_jobs g a = g.start
