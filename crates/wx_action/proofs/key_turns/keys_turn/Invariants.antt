use Rattle.wx_action.proofs.key_turns.keys_turn.Given as goal

abbrev pub ghost-ignored : goal.ghost-ignored
ghost-ignored g a = g.start

abbrev pub ghost-say : goal.ghost-say
ghost-say g a = g.start

abbrev pub ghost-arrive_keys : goal.ghost-arrive_keys
ghost-arrive_keys g a = g.start
