-- What is known of each queued item, and of all that is owned, at every step.
use Rattle.std.proofs.Common.{◌≡◌, Bool, true, false, List, []}
use Rattle.std.specs.Prelude.{◌⊎◌}
use Rattle.wx_tree.specs.Lists.{In}
use Rattle.wx_tree.specs.Paths.{Path, has_entry, same}
use Rattle.wx_tree.specs.Trees.{Tree, is_directory, is_safe, reaches}
use Rattle.wx_tree.specs.declared.root.Root.{Root}
use Rattle.wx_recursor.specs.declared.owner.Owner.{Owner}
use Rattle.wx_recursor.specs.declared.work.Item.{Item}
use Rattle.wx_recursor.specs.declared.work.Item.TheVariants.{Candidate, Guard, Scan, Visit}
use Rattle.wx_recursor.proofs.OwnerLemmas.{saw}
use Rattle.wx_walk.specs.Machine.{State}

-- what is known of an item: its root is one, and what it stands on is to be owned
abbrev pub Fits : Tree → (Path → Bool) → List Root → Item → Type 0
Fits t ok rs (Guard r) = In r rs × (is_safe t r.path ≡ false)
Fits t ok rs (Visit r) = In r rs
Fits t ok rs (Scan r p) = In r rs × (r.recursive ≡ true) × (is_directory t p ≡ true) × (reaches t ok r p ≡ true)
Fits t ok rs (Candidate r c) = In r rs × (r.recursive ≡ true) × ((p : Path) × (has_entry p c ≡ true) × (is_directory t p ≡ true) × (reaches t ok r p ≡ true))

pub record Kept (t : Tree) (ok : Path → Bool) (roots : List Root) (queue : List Item) (owners : List Owner) (sweep_due : Bool) : Type 0 where
  pub items : (i : Item) → In i queue → Fits t ok roots i
  pub sound : (r : Root) (p : Path) → In (saw r p) owners → In r roots × (reaches t ok r p ≡ true)
  pub visited : (r : Root) → In r roots → is_safe t r.path ≡ true → In (Visit r) queue ⊎ In (saw r r.path) owners
  pub closed : (r : Root) (p c : Path) → In (saw r p) owners → has_entry p c ≡ true → same r.path c ≡ false → reaches t ok r c ≡ true → In (Scan r p) queue ⊎ (In (Candidate r c) queue ⊎ In (saw r c) owners)
  pub swept : sweep_due ≡ false → (queue ≡ []) × ((o : Owner) → In o owners → o.seen ≡ true)

abbrev pub Keeps : Tree → (Path → Bool) → State → Type 0
Keeps t ok s = Kept t ok s.roots s.queue s.owners s.sweep_due
