use Rattle.std.proofs.Common.{◌+◌, ◌≤◌, length, arith}
use Rattle.std.proofs.lemmas.Result.{on_ok_weaker}
use Rattle.wx_print.specs.Window.{handed_at}
use Rattle.wx_print.proofs.WindowLemmas.{left_handed}
use Rattle.wx_print.proofs.window.Window.hand.Goals as goal

pub returns : goal.returns
returns c =
    let le : 0 + length c.self.inside.passed.items ≤ c.len-passed.result = omega arith in
    rw (← c.self.view_is) (on_ok_weaker c.note_handed.result (λ is. left_handed (handed_at c.self.inside.handed) (handed_at c.note_handed.new.handed) c.args.batch.now c.len-passed.result is 0 c.self.inside.passed.items le) c.note_handed.ensures.noted)
