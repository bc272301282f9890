-- What may be watched between calls.
use Rattle.std.specs.Prelude.{◌≡◌, ◌≤◌, ◌⊎◌, Bool, true, false, List, [], ◌∷◌, map, length, Some}
use Rattle.wx_tree.specs.Lists.{AllOnce, In}
use Rattle.wx_tree.specs.Paths.{Path}
use Rattle.wx_tree.specs.Trees.{Tree, guard_of, is_safe, reaches}
use Rattle.wx_tree.specs.declared.root.Root.{Root}
use Rattle.wx_walk.specs.Reached.{Call}
use Rattle.wx_walk.specs.declared.plain.Guarded.{Guarded}

-- one of these roots wants the path watched: its walk reaches it, or the path guards it
abbrev pub Wants : Tree → (Path → Bool) → List Root → Path → Type 0
Wants t ok rs p = (r : Root) × In r rs × ((reaches t ok r p ≡ true) ⊎ ((is_safe t r.path ≡ false) × (guard_of t r.path ≡ Some p)))

-- a root of one of these calls does
abbrev pub Wanted : Tree → List Call → Path → Type 0
Wanted t [] p = ⊥
Wanted t (c ∷ cs) p = Wants t c.ok c.roots p ⊎ Wanted t cs p

abbrev pub last_roots : List Call → List Root
last_roots [] = []
last_roots (c ∷ cs) = c.roots

abbrev pub guarded_root : Guarded → Root
guarded_root g = g.root

-- each root has one guard at most, the last directory of the chain above it
pub record GuardsOnce (t : Tree) (rs : List Root) (gs : List Guarded) : Type 0 where
  pub once : AllOnce (map guarded_root gs)
  pub serve : (g : Guarded) → In g gs → In g.root rs × (is_safe t g.root.path ≡ false) × (guard_of t g.root.path ≡ Some g.path)
  pub few : length gs ≤ length rs
