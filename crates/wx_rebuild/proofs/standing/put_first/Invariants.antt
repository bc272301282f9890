use Rattle.std.proofs.Common.{◌≡◌, length}
use Rattle.wx_recursor.specs.Rebuilds.{first_of}
use Rattle.wx_rebuild.proofs.standing.put_first.Given as goal

abbrev pub invariant-loop-rest : goal.invariant-loop-rest
invariant-loop-rest l =
    record {
      kept : l.out.items ≡ l.fn.out.items;
      rest : first_of l.fn.identity l.rest ≡ first_of l.fn.identity l.fn.known;
    }

abbrev pub decreases-loop-rest : goal.decreases-loop-rest
decreases-loop-rest l = length l.rest
