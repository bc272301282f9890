use Rattle.std.proofs.Common.{ℕ, arith, length-take, length-drop}
use Rattle.wx_bytes.proofs.KnownLaws.{written_more}
use Rattle.wx_bytes.proofs.feeding.write_all.Goals as goal

pub loop-done-preserved : goal.loop-done-preserved
loop-done-preserved g c = record {
  within = omega (arith, c.in-Ok.ensures.bound, length-take {A = ℕ}, length-drop {A = ℕ});
  written = written_more _ _ _ c.loop-done.done c.in-Ok.count c.args.bytes.now c.loop-done.invariant.written c.in-Ok.ensures.bytes;
  later = omega (arith, c.write.ensures.cause.later);
}
