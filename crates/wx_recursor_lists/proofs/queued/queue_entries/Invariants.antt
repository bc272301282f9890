use Rattle.std.proofs.Common.{◌≡◌, length, ◌++◌}
use Rattle.std.specs.Prelude.{filter}
use Rattle.wx_tree.specs.Paths.{has_entry}
use Rattle.wx_recursor.specs.Owners.{candidates}
use Rattle.wx_recursor.specs.Steps.{plain_items}
use Rattle.wx_recursor_lists.proofs.queued.queue_entries.Given as goal

abbrev pub invariant-loop-rest : goal.invariant-loop-rest
invariant-loop-rest l = l.queue.items ++ plain_items (candidates l.fn.root (filter (has_entry l.fn.path) l.rest)) ≡ l.fn.queue.items ++ plain_items (candidates l.fn.root (filter (has_entry l.fn.path) l.fn.entries))

abbrev pub decreases-loop-rest : goal.decreases-loop-rest
decreases-loop-rest l = length l.rest
