-- A plain machine: what a recursor does where nothing fails, over the queue, the owners, the guards and the registered paths
-- alone. Its items are those of a recursor.
use Rattle.std.specs.Prelude.{Bool, true, false, not, ◌&&◌, ◌||◌, Option, Some, None, List, [], ◌∷◌, ◌++◌, filter, if◌then◌else◌}
use Rattle.wx_tree.specs.Paths.{Path, same}
use Rattle.wx_tree.specs.Roots.{same_root}
use Rattle.wx_tree.specs.declared.root.Root.{Root}
use Rattle.wx_recursor.specs.Owners.{candidates, disown, has_owner, has_path, has_root, is_owner, own, sweep, unseen}
use Rattle.wx_recursor.specs.declared.owner.Owner.{Owner}
use Rattle.wx_recursor.specs.declared.work.Item.{Item}
use Rattle.wx_recursor.specs.declared.work.Item.TheVariants.{Candidate, Guard, Scan, Visit}
use Rattle.wx_walk.specs.declared.plain.Guarded.{Guarded}
use Rattle.wx_walk.specs.declared.plain.Saw.{Saw}
use Rattle.wx_walk.specs.declared.plain.Saw.TheVariants.{Held, Leaf, Listed, Lost, Reset, Unsafe}

-- the root has seen the path in this epoch
abbrev pub has_seen : Root → Path → List Owner → Bool
has_seen r p [] = false
has_seen r p (o ∷ os) = if is_owner r p o && o.seen then true else has_seen r p os

pub record State : Type 0 where
  pub roots : List Root
  pub queue : List Item
  pub owners : List Owner
  pub guards : List Guarded
  pub registrations : List Path
  pub sweep_due : Bool

abbrev pub has_items : List Item → Bool → Bool
has_items [] sweep_due = sweep_due
has_items (_ ∷ _) sweep_due = true

abbrev pub is_work : State → Bool
is_work s = has_items s.queue s.sweep_due

-- a scan of the path, unless the root has seen it in this epoch
abbrev pub scan_new : Root → Path → List Owner → List Item
scan_new r p os = if has_seen r p os then [] else Scan r p ∷ []

-- all guards but that of the root
abbrev pub unguard : Root → List Guarded → List Guarded
unguard r gs = filter (λ g. not (same_root r g.root)) gs

abbrev pub set_guard : Root → Option Path → List Guarded → List Guarded
set_guard r None gs = unguard r gs
set_guard r (Some p) gs = unguard r gs ++ record { root = r; path = p } ∷ []

abbrev pub has_guard : Path → List Guarded → Bool
has_guard p [] = false
has_guard p (g ∷ gs) = same g.path p || has_guard p gs

-- the path is registered
abbrev pub watch : Path → List Path → List Path
watch p registrations = if has_path p registrations then registrations else registrations ++ p ∷ []

abbrev pub watch_guard : Option Path → List Path → List Path
watch_guard None registrations = registrations
watch_guard (Some p) registrations = watch p registrations

-- the registrations that serve an owned path or a guard
abbrev pub release : List Owner → List Guarded → List Path → List Path
release os gs registrations = filter (λ p. has_owner p os || has_guard p gs) registrations

-- these owners, guards and registrations, of which those that serve nothing go, and more in the queue
abbrev pub now_owns : State → List Owner → List Guarded → List Path → List Item → State
now_owns s os gs registrations more =
    record s { queue = s.queue ++ more; owners = os; guards = gs; registrations = release os gs registrations }

-- a look at a root
abbrev pub visit : Root → Saw → State → State
visit r Lost s = s
visit r (Unsafe g) s = now_owns s (disown r r.path s.owners) (set_guard r g s.guards) (watch_guard g s.registrations) []
visit r (Reset g root_is_safe) s = s
visit r Leaf s = now_owns s (own r r.path s.owners) (unguard r s.guards) (watch r.path s.registrations) []
visit r Held s = now_owns s (own r r.path s.owners) (unguard r s.guards) (watch r.path s.registrations) (scan_new r r.path s.owners)
visit r (Listed cs) s = s

-- a look at a candidate
abbrev pub try_candidate : Root → Path → Saw → State → State
try_candidate r p Lost s = now_owns s (disown r p s.owners) s.guards s.registrations []
try_candidate r p (Unsafe g) s = s
try_candidate r p (Reset g root_is_safe) s = s
try_candidate r p Leaf s = s
try_candidate r p Held s = now_owns s (own r p s.owners) s.guards (watch p s.registrations) (scan_new r p s.owners)
try_candidate r p (Listed cs) s = s

-- a scan
abbrev pub scan_entries : Root → Saw → State → State
scan_entries r Lost s = s
scan_entries r (Unsafe g) s = s
scan_entries r (Reset g root_is_safe) s = s
scan_entries r Leaf s = s
scan_entries r Held s = s
scan_entries r (Listed cs) s = now_owns s s.owners s.guards s.registrations (candidates r cs)

-- the guard of a root is set again
abbrev pub reset : Root → Saw → State → State
reset r Lost s = s
reset r (Unsafe g) s = s
reset r (Reset g root_is_safe) s = now_owns s s.owners (set_guard r g s.guards) (watch_guard g s.registrations) (if root_is_safe then Visit r ∷ [] else [])
reset r Leaf s = s
reset r Held s = s
reset r (Listed cs) s = s

abbrev pub did : Item → Saw → State → State
did (Guard r) f s = reset r f s
did (Visit r) f s = visit r f s
did (Scan r p) f s = scan_entries r f s
did (Candidate r p) f s = try_candidate r p f s

abbrev pub rest_of : State → List Item → State
rest_of s q = record s { queue = q }

-- the sweep
abbrev pub swept : State → State
swept s = record s { queue = []; owners = sweep s.owners; registrations = release (sweep s.owners) s.guards s.registrations; sweep_due = false }

-- one step: the first item, or the sweep
abbrev pub stepped_at : List Item → Saw → State → State
stepped_at [] f s = swept s
stepped_at (i ∷ q) f s = did i f (rest_of s q)

abbrev pub stepped : Saw → State → State
stepped f s = stepped_at s.queue f s

abbrev pub visits : List Root → List Item
visits [] = []
visits (r ∷ rs) = Visit r ∷ visits rs

-- the guards of these roots
abbrev pub kept_guards : List Root → List Guarded → List Guarded
kept_guards rs gs = filter (λ g. has_root g.root rs) gs

abbrev pub resets : List Guarded → List Item
resets [] = []
resets (g ∷ gs) = Guard g.root ∷ resets gs

-- guards are queued, then roots, and a new epoch begins
abbrev pub reconciled : List Root → State → State
reconciled rs s =
    let gs : List Guarded = kept_guards rs s.guards in
    record { roots = rs; queue = resets gs ++ visits rs; owners = unseen s.owners; guards = gs; registrations = s.registrations; sweep_due = true }

abbrev pub fresh : State
fresh = record { roots = []; queue = []; owners = []; guards = []; registrations = []; sweep_due = false }
