use Rattle.std.proofs.Common.{◌≡◌, subst}
use Rattle.std.specs.Prelude.{IfOk}
use Rattle.wx_mem_tree.proofs.Listed.{indexed_paths}
use Rattle.wx_mem_tree.proofs.entry.entries_of.Goals as goal

pub returns-in_ok-bytes-in-Some : goal.returns-in_ok-bytes-in-Some
returns-in_ok-bytes-in-Some c =
    subst (λ x. IfOk c.paths_at.result (λ paths. paths ≡ x))
    (indexed_paths c.entries.inside.entries.now c.args.entries.now c.args.path.now c.entries.inside.index.now c.in-Some.index c.in_ok-bytes-in-Some.bytes c.text.result.now c.children.result.now c.entries.invariant c.in-Some.is c.entries.view_is c.in_ok-bytes-in-Some.ensures.spelled c.in_ok-bytes-in-Some.ensures.back c.text.ensures c.children.ensures)
    c.paths_at.ensures
