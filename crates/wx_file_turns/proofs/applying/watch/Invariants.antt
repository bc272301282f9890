use Rattle.wx_file_turns.proofs.applying.watch.Given as goal

abbrev pub ghost-begin : goal.ghost-begin
ghost-begin g a = g.start
