use Rattle.wx_action.proofs.job_turns.ended_turn.Given as goal

abbrev pub ghost-keep_end : goal.ghost-keep_end
ghost-keep_end g a = g.start

abbrev pub ghost-ignored : goal.ghost-ignored
ghost-ignored g a = g.start

abbrev pub ghost-take_step : goal.ghost-take_step
ghost-take_step g a = g.start
