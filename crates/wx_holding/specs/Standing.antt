-- What an exact backend watches, and what it gives up, where nothing fails.
use Rattle.std.specs.Prelude.{◌≡◌, ℕ, true, List}
use Rattle.wx_tree.specs.Lists.{AllOnce, In}
use Rattle.wx_tree.specs.Paths.{Path}
use Rattle.wx_tree.specs.Trees.{Tree}
use Rattle.wx_scan.specs.Backings.{Backing}
use Rattle.wx_scan.specs.Told.{SpellsPath}
use Rattle.wx_recursor.specs.States.{RecursorState}

-- An exact backend at a tree: what it watches are paths of the tree, and it has seen the tree as it is.
pub record IsAtTree (t : Tree) (backing : Backing) (has_seen : Type 0) : Type 0 where
  pub exact : backing.exact ≡ true
  pub readable : (bytes : List ℕ) → In bytes backing.registrations → (p : Path) × SpellsPath t p bytes
  pub seen : has_seen

-- each of these is watched, and none comes again
abbrev pub AreToGo : List (List ℕ) → List (List ℕ) → Type 0
AreToGo given paths = AllOnce given × ((bytes : List ℕ) → In bytes given → In bytes paths)

-- what is watched was watched before, and isn't given up
abbrev pub AreLeft : List (List ℕ) → List (List ℕ) → List (List ℕ) → Type 0
AreLeft given before after = (bytes : List ℕ) → In bytes after → In bytes before × (In bytes given → ⊥)

-- These were given up: the state is as before, and the backend is at the tree still.
pub record GoCalmly (t : Tree) (given : List (List ℕ)) (s u : RecursorState) (a b : Backing) (has_seen : Type 0) : Type 0 where
  pub state : u ≡ s
  pub left : AreLeft given a.registrations b.registrations
  pub at_tree : IsAtTree t b has_seen
