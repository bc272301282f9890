-- What the machine reaches by calls of reconcile with steps between them, on a tree that stays still.
use Rattle.std.specs.Prelude.{ℕ, zero, suc, ◌≡◌, Bool, true, ◌&&◌, List, [], ◌∷◌, if◌then◌else◌}
use Rattle.wx_tree.specs.Paths.{Path}
use Rattle.wx_tree.specs.Trees.{IsListing, Tree, guard_of, is_directory, is_safe}
use Rattle.wx_tree.specs.declared.root.Root.{Root}
use Rattle.wx_recursor.specs.declared.work.Item.{Item}
use Rattle.wx_recursor.specs.declared.work.Item.TheVariants.{Candidate, Guard, Scan, Visit}
use Rattle.wx_walk.specs.Machine.{State, fresh, is_work, reconciled, stepped}
use Rattle.wx_walk.specs.declared.plain.Saw.{Saw}
use Rattle.wx_walk.specs.declared.plain.Saw.TheVariants.{Held, Leaf, Listed, Lost, Reset, Unsafe}

-- what the look at an item finds on the tree
abbrev pub Finds : Tree → (Path → Bool) → Item → Saw → Type 0
Finds t ok (Guard r) f = f ≡ Reset (guard_of t r.path) (is_safe t r.path)
Finds t ok (Visit r) f =
    f ≡ (if is_safe t r.path
    then (if r.recursive && is_directory t r.path then Held else Leaf)
    else Unsafe (guard_of t r.path))
Finds t ok (Scan r p) f = (cs : List Path) × (f ≡ Listed cs) × IsListing t p cs
Finds t ok (Candidate r p) f = f ≡ (if is_directory t p && ok p then Held else Lost)

abbrev pub FindsFirst : Tree → (Path → Bool) → List Item → Saw → Type 0
FindsFirst t ok [] f = Unit {0}
FindsFirst t ok (i ∷ q) f = Finds t ok i f

-- so many steps, while there is work
abbrev pub Steps : Tree → (Path → Bool) → ℕ → State → State → Type 0
Steps t ok zero s u = u ≡ s
Steps t ok (suc n) s u = (f : Saw) × (is_work s ≡ true) × FindsFirst t ok s.queue f × Steps t ok n (stepped f s) u

-- a call of reconcile: its roots, the filter that it sets, and how many steps follow
pub record Call : Type 0 where
  pub roots : List Root
  pub ok : Path → Bool
  pub steps : ℕ

-- the same call, with one step more after it
abbrev pub one_more : Call → Call
one_more c = record { roots = c.roots; ok = c.ok; steps = suc c.steps }

-- what these calls, the last one first, can reach
abbrev pub Reached : Tree → List Call → State → Type 0
Reached t [] u = u ≡ fresh
Reached t (c ∷ cs) u = (s : State) × Reached t cs s × Steps t c.ok c.steps (reconciled c.roots s) u
