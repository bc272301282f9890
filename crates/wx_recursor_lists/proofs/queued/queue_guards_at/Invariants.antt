use Rattle.std.proofs.Common.{◌≡◌, length, ◌++◌}
use Rattle.wx_recursor.specs.Holding.{guards_at}
use Rattle.wx_recursor_lists.proofs.queued.queue_guards_at.Given as goal

abbrev pub invariant-loop-rest : goal.invariant-loop-rest
invariant-loop-rest l = l.queue.items ++ guards_at l.fn.path l.rest ≡ l.fn.queue.items ++ guards_at l.fn.path l.fn.roots

abbrev pub decreases-loop-rest : goal.decreases-loop-rest
decreases-loop-rest l = length l.rest
