-- A space and a text are written behind those before.
use Rattle.std.proofs.Common.{refl}
use Rattle.std.proofs.lemmas.Grind.{put_three}
use Rattle.wx_command.proofs.ShownLemmas.{utf8_at, spaced_more}
use Rattle.wx_command.proofs.display.write_behind.Goals as goal

pub loop-text-preserved : goal.loop-text-preserved
loop-text-preserved g c = λ all plain.
    let so_far = c.loop-text.invariant all plain in
    let good = utf8_at c.args.texts.now c.loop-text.text-index c.text-item.result all c.loop-text-test.true c.text-item.is in
    let space = c.in_ok-write_str.ensures.writes so_far.plain refl in
    let last = c.in_ok-write_text.ensures good space.plain refl in
    put_three _ _ _ _ _ _ _ _ _ so_far space last (spaced_more c.args.texts.now c.loop-text.text-index c.text-item.result c.loop-text-test.true c.text-item.is)
