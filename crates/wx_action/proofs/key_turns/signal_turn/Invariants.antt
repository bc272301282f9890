use Rattle.wx_action.proofs.key_turns.signal_turn.Given as goal

abbrev pub ghost-ignored : goal.ghost-ignored
ghost-ignored g a = g.start

abbrev pub ghost-arrive : goal.ghost-arrive
ghost-arrive g a = g.start
