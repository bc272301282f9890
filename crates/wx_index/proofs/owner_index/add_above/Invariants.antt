use Rattle.std.proofs.Common.{◌≡◌, ◌<◌, ℕ, true, drop}
use Rattle.wx_tree.specs.Places.{spelled}
use Rattle.wx_index.specs.Chained.{Key}
use Rattle.wx_index.specs.Owned.{has_key}
use Rattle.wx_index.proofs.owner_index.add_above.Given as goal

abbrev pub invariant-loop-level : goal.invariant-loop-level
invariant-loop-level l =
    record {
      all : (n : ℕ) → n < l.level → has_key (spelled (drop n l.fn.path)) l.above ≡ true;
      kept : (k : Key) → has_key k l.fn.above ≡ true → has_key k l.above ≡ true;
    }
