use Rattle.wx_file_turns.proofs.resting.rest.Given as goal

abbrev pub ghost-say : goal.ghost-say
ghost-say g a = g.start

abbrev pub ghost-tell_ready : goal.ghost-tell_ready
ghost-tell_ready g a = g.start

abbrev pub ghost-hear : goal.ghost-hear
ghost-hear g a = g.start

abbrev pub ghost-let_go : goal.ghost-let_go
ghost-let_go g a = g.start

abbrev pub ghost-offer : goal.ghost-offer
ghost-offer g a = g.start
