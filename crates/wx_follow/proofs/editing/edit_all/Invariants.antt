use Rattle.std.proofs.Common.{◌≡◌, drop, true}
use Rattle.std.specs.List.{list_all}
use Rattle.wx_mem_tree.specs.Entries.{tree_of}
use Rattle.wx_follow.specs.Edits.{edited, is_new_stamp}
use Rattle.wx_follow.proofs.editing.edit_all.Given as goal

abbrev pub invariant-loop-change : goal.invariant-loop-change
invariant-loop-change l = record {
  left : edited (drop l.change-index l.edits) l.tree.entries.items ≡ edited l.edits l.fn.tree.entries.items;
  still : list_all (is_new_stamp (tree_of l.fn.tree.entries.items)) l.edits ≡ true → tree_of l.tree.entries.items ≡ tree_of l.fn.tree.entries.items;
  failing : l.tree.failing ≡ l.fn.tree.failing;
  looks : l.tree.looks ≡ l.fn.tree.looks;
  faults : l.tree.faults ≡ l.fn.tree.faults;
}
