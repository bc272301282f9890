use Rattle.wx_engine.proofs.running.serve.Given as goal

abbrev pub ghost-serve_files : goal.ghost-serve_files
ghost-serve_files g a = g.start

abbrev pub ghost-serve_other : goal.ghost-serve_other
ghost-serve_other g a = g.start
