use Rattle.std.proofs.Common.{◌≡◌, length, arith, sym, ◌∙◌}
use Rattle.std.specs.Prelude.{vec_len}
use Rattle.wx_hooks.proofs.QuitLemmas.{left_pop}
use Rattle.wx_hooks.proofs.handler.leave_last_quit.Goals as goal

pub returns-then-ends_with_quit-clause-acts : goal.returns-then-ends_with_quit-clause-acts
returns-then-ends_with_quit-clause-acts c =
    let len : vec_len c.args.acts.now ≡ length c.args.acts.now.items = omega (arith, c.args.acts.now.ok.0) in
    left_pop c.args.acts.now.items c.pop.new.self.items c.pop.result _ _ len c.pop.ensures.items (rw c.as_slice.ensures.value at (sym c.ends_with_quit.ensures ∙ c.if-ends_with_quit.true)) c.pop.ensures.cases
