use Rattle.std.proofs.Common.{sym, arith}
use Rattle.wx_print.proofs.WindowLemmas.{left_kept, left_dropped}
use Rattle.wx_print.specs.Window.{handed_at}
use Rattle.wx_print.proofs.window.left.Goals.{then-handed_at-place+in_ok-push, else-handed_at-place}
use Rattle.wx_print.proofs.window.left.Goals as goal

pub loop-place-preserved : goal.loop-place-preserved
loop-place-preserved c = elim c.if-handed_at-place.branch [
  | then-handed_at-place+in_ok-push w ↦
      let kept = left_kept (handed_at c.args.handed.now) c.args.passed.now c.loop-place.place (omega arith) (omega (arith, c.handed_at.ensures)) in
      rw (w.names-is, w.in_ok-push.ensures.items, c.loop-place.invariant) (sym kept)
  | else-handed_at-place w ↦
      let dropped = left_dropped (handed_at c.args.handed.now) c.args.passed.now c.loop-place.place (omega arith) (omega (arith, c.handed_at.ensures)) in
      rw (w.names-is, c.loop-place.invariant) (sym dropped)
]
