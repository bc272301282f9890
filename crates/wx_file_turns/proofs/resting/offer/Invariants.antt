use Rattle.wx_file_turns.proofs.resting.offer.Given as goal

abbrev pub ghost-offer : goal.ghost-offer
ghost-offer g a = g.start
