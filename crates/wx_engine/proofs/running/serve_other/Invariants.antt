use Rattle.wx_engine.proofs.running.serve_other.Given as goal

abbrev pub ghost-arrive : goal.ghost-arrive
ghost-arrive g a = g.start

abbrev pub ghost-worker : goal.ghost-worker
ghost-worker g a = g.start

abbrev pub ghost-job_turn : goal.ghost-job_turn
ghost-job_turn g a = g.start

abbrev pub ghost-ended_turn : goal.ghost-ended_turn
ghost-ended_turn g a = g.start

abbrev pub ghost-ask_turn : goal.ghost-ask_turn
ghost-ask_turn g a = g.start

abbrev pub ghost-change_turn : goal.ghost-change_turn
ghost-change_turn g a = g.start

abbrev pub ghost-signal_turn : goal.ghost-signal_turn
ghost-signal_turn g a = g.start

abbrev pub ghost-keys_turn : goal.ghost-keys_turn
ghost-keys_turn g a = g.start
