-- What contracts see of looks at a tree of files.
use Rattle.std.specs.Prelude.{◌≡◌, ◌⊎◌, ◌+◌, ◌≤◌, ◌<◌, ◌^◌, ℕ, Bool, true, Option}
use Rattle.wx_tree.specs.Paths.{Path}
use Rattle.wx_tree.specs.Trees.{Tree}

-- a count that rose, or that stands at its end
abbrev pub Rose : ℕ → ℕ → Type 0
Rose old new = (old < new) ⊎ (2 ^ 64 ≤ new + 1)

-- What was seen of a tree of files.
pub record Looked : Type 0 where
  pub tree : Option Tree  -- what stands at each path, where this is told. Each file has the stamp 0 here
  pub stamps : Path → ℕ  -- the stamp of each file
  pub shape : Option Tree  -- what the tree is from the next turn on, where this is known
  pub exact : Bool  -- backends that are made are exact, where links aren't followed
  pub looks : ℕ
  pub faults : ℕ

-- What no look changes of it.
pub record SameTree (a b : Looked) : Type 0 where
  pub tree : b.tree ≡ a.tree
  pub stamps : b.stamps ≡ a.stamps
  pub shape : b.shape ≡ a.shape
  pub exact : b.exact ≡ a.exact

-- What a look leaves: no count falls, that of the looks rises, and a fault comes only where that of the faults rose.
pub record LooksOnce (failed : Bool) (a b : Looked) : Type 0 where
  pub same : SameTree a b
  pub looks : a.looks ≤ b.looks
  pub looked : Rose a.looks b.looks
  pub faults : a.faults ≤ b.faults
  pub rose : failed ≡ true → Rose a.faults b.faults

-- What any number of looks leaves: no count falls.
pub record OnlyLooks (a b : Looked) : Type 0 where
  pub same : SameTree a b
  pub looks : a.looks ≤ b.looks
  pub faults : a.faults ≤ b.faults
