-- Scripts by which links are never followed, no look fails, and the tree stays from the first turn on.
use Rattle.std.specs.Prelude.{◌≡◌, Bool, true, false, [], drop}
use Rattle.std.specs.List.{list_any}
use Rattle.wx_tree.specs.Trees.{Tree}
use Rattle.wx_mem_tree.specs.Entries.{tree_of}
use Rattle.wx_config.specs.declared.change.Change.{Change as AChange}
use Rattle.wx_config.specs.declared.change.Change.TheVariants.{FollowSymlinks}
use Rattle.wx_journal.specs.declared.entry.Act.TheVariants.{Change}
use Rattle.wx_machine.specs.Settings.{turn_changes}
use Rattle.wx_script.specs.declared.script.Script.{Script}
use Rattle.wx_script.specs.declared.script.ScriptAct.{ScriptAct}
use Rattle.wx_script.specs.declared.script.ScriptAct.TheVariants.{One}
use Rattle.wx_script.specs.declared.script.ScriptTurn.{ScriptTurn}
use Rattle.wx_script.specs.declared.script.ScriptTurn.TheVariants.{Turn, Fault}
use Rattle.wx_script.specs.Follows.{edits_of}
use Rattle.wx_follow.specs.Edits.{are_new_stamps, tree_after}

-- a change, a turn and an act that ask to follow links
abbrev pub asks_links : AChange → Bool
asks_links (FollowSymlinks on) = on
asks_links (_) = false

abbrev pub turn_asks_links : ScriptTurn → Bool
turn_asks_links (Turn t) = list_any asks_links (turn_changes t.kind)
turn_asks_links (Fault code) = false

abbrev pub act_asks_links : ScriptAct → Bool
act_asks_links (One (Change change)) = asks_links change
act_asks_links (_) = false

-- the tree of the first turn
abbrev pub first_tree : Script → Tree
first_tree s = tree_of (tree_after (edits_of s) 1)

-- No line asks to follow links, says how a directory is judged or what is ignored, or which looks and watches fail; and after the first turn the tree changes
-- only in stamps of files that are there.
pub record IsStill (s : Script) : Type 0 where
  pub follow : s.follow ≡ false
  pub turns : list_any turn_asks_links s.turns ≡ false
  pub acts : list_any (list_any act_asks_links) s.actions ≡ false
  pub dirs : s.dirs ≡ []
  pub ignores : s.ignores ≡ []
  pub looks : s.failing_looks ≡ []
  pub watches : s.failing_watches ≡ []
  pub stamps : are_new_stamps (first_tree s) (drop 1 (edits_of s)) ≡ true
