use Rattle.wx_file_turns.proofs.turning.file_turn.Given as goal

abbrev pub ghost-apply : goal.ghost-apply
ghost-apply g a = g.start

abbrev pub ghost-say : goal.ghost-say
ghost-say g a = g.start

abbrev pub ghost-attend : goal.ghost-attend
ghost-attend g a = g.start
