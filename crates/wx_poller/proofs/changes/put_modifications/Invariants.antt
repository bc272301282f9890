use Rattle.std.proofs.Common.{◌≡◌, ◌++◌}
use Rattle.std.specs.Prelude.{filter, map}
use Rattle.wx_poller.specs.Changes.{is_modified, modification, told}
use Rattle.wx_poller.proofs.changes.put_modifications.Given as goal

abbrev pub invariant-loop-path : goal.invariant-loop-path
invariant-loop-path l =
    l.events ++ map (told modification) (filter (is_modified l.fn.old.entries) l.path-iterator)
    ≡ l.fn.events ++ map (told modification) (filter (is_modified l.fn.old.entries) l.fn.new.entries)
