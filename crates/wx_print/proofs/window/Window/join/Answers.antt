use Rattle.wx_print.proofs.WindowLemmas.{left_joined}
use Rattle.wx_print.specs.Window.{handed_at}
use Rattle.wx_print.proofs.window.Window.join.Goals as goal

pub returns : goal.returns
returns c = rw (c.in_ok-push.ensures.items, ← c.self.view_is) (left_joined (handed_at c.self.inside.handed) c.self.inside.passed.items c.args.name (c.self.invariant c.args.name))
