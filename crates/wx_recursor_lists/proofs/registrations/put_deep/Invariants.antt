use Rattle.std.proofs.Common.{◌≡◌, ◌≤◌, ◌-◌, ◌++◌, length, take, drop}
use Rattle.wx_recursor.specs.Holding.{put_deep}
use Rattle.wx_recursor_lists.proofs.registrations.put_deep.Given as goal

abbrev pub invariant-loop-i : goal.invariant-loop-i
invariant-loop-i l =
    record {
      within : l.i ≤ length l.fn.out.items;
      rest : put_deep l.fn.known l.fn.out.items ≡ take l.i l.fn.out.items ++ put_deep l.fn.known (drop l.i l.fn.out.items);
    }

abbrev pub decreases-loop-i : goal.decreases-loop-i
decreases-loop-i l = length l.fn.out.items - l.i
