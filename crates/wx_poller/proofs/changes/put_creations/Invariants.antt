use Rattle.std.proofs.Common.{◌≡◌, ◌++◌}
use Rattle.std.specs.Prelude.{filter, map, not}
use Rattle.wx_poller.specs.Changes.{creation, is_kept, told}
use Rattle.wx_poller.proofs.changes.put_creations.Given as goal

abbrev pub invariant-loop-path : goal.invariant-loop-path
invariant-loop-path l =
    l.events ++ map (told creation) (filter (λ s. not (is_kept l.fn.old.entries s)) l.path-iterator)
    ≡ l.fn.events ++ map (told creation) (filter (λ s. not (is_kept l.fn.old.entries s)) l.fn.new.entries)
