use Rattle.std.proofs.Common.{refl, sym, ◌∙◌}
use Rattle.wx_file_turns.proofs.Applied.{settled_same, stays_same}
use Rattle.wx_file_turns.proofs.files.Watching.refresh.Goals as goal

pub returns-then-settled-clause-watches : goal.returns-then-settled-clause-watches
returns-then-settled-clause-watches g c folder back h = stays_same folder c.args.config.now back c.args.self.now c.args.self.now refl h (settled_same c.args.config.now c.args.self.now (sym c.in_ok-settled.ensures ∙ c.if-settled.true))

pub returns-then-settled-clause-refreshes : goal.returns-then-settled-clause-refreshes
returns-then-settled-clause-refreshes g c = rw (sym c.in_ok-settled.ensures ∙ c.if-settled.true) refl

pub returns-clause-refreshes : goal.returns-clause-refreshes
returns-clause-refreshes g c = rw (sym c.in_ok-settled.ensures ∙ c.if-settled.false) (rw c.get.ensures at c.reconcile.ensures.state)
