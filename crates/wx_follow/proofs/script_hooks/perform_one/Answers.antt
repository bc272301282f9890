use Rattle.wx_follow.proofs.script_hooks.perform_one.Goals as goal

pub returns-in-One-clause-done : goal.returns-in-One-clause-done
returns-in-One-clause-done c = rw c.in-One.is c.perform_act.ensures.done

pub returns-in-GetOrCreate-clause-done : goal.returns-in-GetOrCreate-clause-done
returns-in-GetOrCreate-clause-done c = rw c.in-GetOrCreate.is c.get_or_create.ensures.done
