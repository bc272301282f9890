use Rattle.std.proofs.Common.{◌≡◌, [], map, take}
use Rattle.std.specs.Prelude.{not}
use Rattle.wx_mem_tree.specs.Entries.{none_fails}
use Rattle.wx_script.specs.Turns.{any_fails}
use Rattle.wx_follow.specs.Edits.{failing_look}
use Rattle.wx_follow.proofs.editing.tree_with.Given as goal

abbrev pub invariant-loop-look : goal.invariant-loop-look
invariant-loop-look l = record {
  failing : l.tree.failing ≡ map failing_look (take l.look-index l.failing);
  fails : not (none_fails l.tree.failing) ≡ any_fails (take l.look-index l.failing);
  entries : l.tree.entries.items ≡ [];
  looks : l.tree.looks ≡ 0;
  faults : l.tree.faults ≡ 0;
}
