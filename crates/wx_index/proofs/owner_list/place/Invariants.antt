use Rattle.std.proofs.Common.{◌≡◌, ◌+◌, ℕ, drop}
use Rattle.wx_recursor.specs.Owners.{is_owner}
use Rattle.wx_index.specs.Chained.{first_at}
use Rattle.wx_index.proofs.owner_list.place.Given as goal

abbrev pub invariant-loop-i : goal.invariant-loop-i
invariant-loop-i l = l.i + first_at (is_owner l.fn.root l.fn.path) (drop l.i l.fn.owners) ≡ first_at (is_owner l.fn.root l.fn.path) l.fn.owners
