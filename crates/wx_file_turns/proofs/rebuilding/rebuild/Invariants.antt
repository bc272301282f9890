use Rattle.wx_file_turns.proofs.rebuilding.rebuild.Given as goal

abbrev pub ghost-rebuild_once : goal.ghost-rebuild_once
ghost-rebuild_once g a = g.start

abbrev pub ghost-rebuild_within : goal.ghost-rebuild_within
ghost-rebuild_within g a = g.start
