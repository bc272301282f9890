use Rattle.std.proofs.Common.{◌≡◌, vec_len}
use Rattle.wx_queue.proofs.queue.empty_rows.Given as goal

abbrev pub invariant-loop : goal.invariant-loop
invariant-loop g l = vec_len l.rows ≡ l.counter
