use Rattle.std.proofs.Common.{◌≡◌, ◌≤◌, ◌++◌, length, drop}
use Rattle.wx_tree.specs.Places.{parts_spelled}
use Rattle.wx_tree.proofs.place.put_parts.Given as goal

abbrev pub invariant-loop-left : goal.invariant-loop-left
invariant-loop-left l =
    record {
      within : l.left ≤ length l.fn.parts;
      written : l.out ≡ l.fn.out ++ parts_spelled (drop l.left l.fn.parts);
    }

abbrev pub decreases-loop-left : goal.decreases-loop-left
decreases-loop-left l = l.left
