use Rattle.std.proofs.Common.{◌≡◌, ◌++◌, take, drop, length}
use Rattle.wx_recursor.specs.Owners.{unseen}
use Rattle.wx_recursor_lists.proofs.owners.set_unseen.Given as goal

abbrev pub invariant-loop-i : goal.invariant-loop-i
invariant-loop-i l =
    record {
      same : length l.owners.items ≡ length l.fn.owners.items;
      rest : unseen l.fn.owners.items ≡ take l.i l.owners.items ++ unseen (drop l.i l.owners.items);
    }
