use Rattle.std.proofs.Common.{ap}
use Rattle.wx_hooks.proofs.HeldLemmas.{there_some, there_none, handle_some}
use Rattle.wx_hooks.proofs.handler.ActionHandler.get_job.Goals as goal

pub returns-in_ok-copy-in-Some-clause-there : goal.returns-in_ok-copy-in-Some-clause-there
returns-in_ok-copy-in-Some-clause-there c = rw (← ap (λ h. h.past) c.self.view_is) (there_some c.self.inside.journal.now.past c.args.id c.self.inside.held.now c.in-Some.held.now c.self.invariant.0.shown c.in-Some.ensures)

pub returns-in_ok-copy-in-Some-clause-handle : goal.returns-in_ok-copy-in-Some-clause-handle
returns-in_ok-copy-in-Some-clause-handle c = rw (← ap (λ h. h.past) c.self.view_is, c.in_ok-copy-in-Some.ensures) (handle_some c.self.inside.journal.now.past c.args.id c.self.inside.held.now c.in-Some.held.now c.self.invariant.0.shown c.in-Some.ensures)

pub returns-in-None-clause-there : goal.returns-in-None-clause-there
returns-in-None-clause-there c = rw (← ap (λ h. h.past) c.self.view_is) (there_none c.self.inside.journal.now.past c.args.id c.self.inside.held.now c.self.invariant.0.shown c.in-None.ensures)
