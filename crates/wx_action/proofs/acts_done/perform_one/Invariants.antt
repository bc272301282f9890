use Rattle.wx_action.proofs.acts_done.perform_one.Given as goal

abbrev pub ghost-make : goal.ghost-make
ghost-make g a = g.start

abbrev pub ghost-ask_or_ignore : goal.ghost-ask_or_ignore
ghost-ask_or_ignore g a = g.start

abbrev pub ghost-change : goal.ghost-change
ghost-change g a = g.start
