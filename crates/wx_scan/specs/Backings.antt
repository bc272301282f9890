-- What contracts see of a backend.
use Rattle.std.specs.Prelude.{◌≡◌, ◌≤◌, ℕ, Bool, true, false, ◌||◌, ◌&&◌, not, if◌then◌else◌, Option, None, Some, Result, Ok, Err, List, [], ◌∷◌, ◌++◌, filter}
use Rattle.wx_events.specs.declared.kind.FileEventKind.{FileEventKind}
use Rattle.wx_events.specs.declared.kind.FileEventKind.TheVariants as event
use Rattle.wx_events.specs.declared.kind.ModifyKind.{ModifyKind}
use Rattle.wx_events.specs.declared.kind.ModifyKind.TheVariants as modify
use Rattle.wx_watch.specs.declared.notify_fault.NotifyFault.{NotifyFault}
use Rattle.wx_watch.specs.declared.notify_fault.NotifyFaultKind.{NotifyFaultKind}
use Rattle.wx_watch.specs.declared.notify_fault.NotifyFaultKind.TheVariants.{Generic, InvalidConfig, Io, MaxFilesWatch, Memory, PathNotFound, WatchNotFound}
use Rattle.wx_notify.specs.declared.notify.Notify.{Notify}
use Rattle.wx_notify.specs.declared.notify.NotifyPath.{NotifyPath}
use Rattle.wx_tree.specs.Paths.{Path, same_part}
use Rattle.wx_tree.specs.Trees.{Tree, is_there_node, node_at}
use Rattle.wx_scan.specs.Looked.{Looked, Rose}
use Rattle.wx_scan.specs.Told.{SpellsPath}

-- What a backend watches, and what it brought.
pub record Backing : Type 0 where
  pub registrations : List (List ℕ)  -- the paths that are watched, each once
  pub brought : List (Result Notify NotifyFault)  -- what was brought so far, the newest first
  pub faults : ℕ  -- how often a call failed
  pub exact : Bool  -- it answers by the tree alone

abbrev pub is_registered : List ℕ → List (List ℕ) → Bool
is_registered p [] = false
is_registered p (q ∷ qs) = same_part q p || is_registered p qs

-- the path is watched too
abbrev pub register : List ℕ → List (List ℕ) → List (List ℕ)
register p qs = if is_registered p qs then qs else qs ++ p ∷ []

-- the path is watched no more
abbrev pub unregister : List ℕ → List (List ℕ) → List (List ℕ)
unregister p qs = filter (λ q. not (same_part q p)) qs

-- want of memory is no fault of the outside
abbrev pub is_memory : NotifyFaultKind → Bool
is_memory (Generic text) = false
is_memory (Io code) = false
is_memory PathNotFound = false
is_memory WatchNotFound = false
is_memory InvalidConfig = false
is_memory MaxFilesWatch = false
is_memory Memory = true

-- a fault of a watch: that nothing is there is none
abbrev pub is_watch_fault : NotifyFaultKind → Bool
is_watch_fault PathNotFound = false
is_watch_fault kind = not (is_memory kind)

-- a fault of an unwatch: that a path isn't watched is none, where it isn't
abbrev pub is_unwatch_fault : Bool → NotifyFaultKind → Bool
is_unwatch_fault watched WatchNotFound = watched
is_unwatch_fault watched kind = not (is_memory kind)

-- what a call leaves of what was registered
abbrev pub Registers : (List (List ℕ) → List (List ℕ)) → Result (Unit {0}) NotifyFault → List (List ℕ) → List (List ℕ) → Type 0
Registers change (Ok u) old new = new ≡ change old
Registers change (Err fault) old new = new ≡ old

abbrev pub failed_by : {X : Type 0} → (NotifyFaultKind → Bool) → Result X NotifyFault → Bool
failed_by is_one (Ok x) = false
failed_by is_one (Err fault) = is_one fault.kind

-- a call that changes what is registered
pub record Changes (change : List (List ℕ) → List (List ℕ)) (is_one : NotifyFaultKind → Bool) (result : Result (Unit {0}) NotifyFault) (a b : Backing) : Type 0 where
  pub registrations : Registers change result a.registrations b.registrations
  pub brought : b.brought ≡ a.brought
  pub faults : a.faults ≤ b.faults
  pub failed : failed_by is_one result ≡ true → Rose a.faults b.faults
  pub exact : b.exact ≡ a.exact

abbrev pub bring : Option (Result Notify NotifyFault) → List (Result Notify NotifyFault) → List (Result Notify NotifyFault)
bring None brought = brought
bring (Some item) brought = item ∷ brought

abbrev pub failed_to_bring : Option (Result Notify NotifyFault) → Bool
failed_to_bring None = false
failed_to_bring (Some item) = failed_by (λ kind. not (is_memory kind)) item

-- a call that brings what happened
pub record Brings (result : Option (Result Notify NotifyFault)) (a b : Backing) : Type 0 where
  pub registrations : b.registrations ≡ a.registrations
  pub brought : b.brought ≡ bring result a.brought
  pub faults : a.faults ≤ b.faults
  pub failed : failed_to_bring result ≡ true → Rose a.faults b.faults
  pub exact : b.exact ≡ a.exact

-- ---- exact backends

-- An exact backend over a scanner that tells its tree, in a call in which no look failed.
pub record IsExact (a : Backing) (before after : Looked) (t : Tree) : Type 0 where
  pub exact : a.exact ≡ true
  pub told : before.tree ≡ Some t
  pub no_fault : Rose before.faults after.faults → ⊥

-- it watches exactly what is there
abbrev pub WatchesAt : Tree → Path → Result (Unit {0}) NotifyFault → Type 0
WatchesAt t p (Ok u) = is_there_node (node_at t p) ≡ true
WatchesAt t p (Err fault) = (is_memory fault.kind ≡ false) → (node_at t p ≡ None) × (fault.kind ≡ PathNotFound)

-- it gives up what it watches
abbrev pub GivesUp : Result (Unit {0}) NotifyFault → Type 0
GivesUp (Ok u) = Unit {0}
GivesUp (Err fault) = is_memory fault.kind ≡ true

-- each of these spells a path of the tree
abbrev pub AllSpellPaths : Tree → List (List ℕ) → Type 0
AllSpellPaths t [] = Unit {0}
AllSpellPaths t (bytes ∷ more) = ((p : Path) × SpellsPath t p bytes) × AllSpellPaths t more

-- renames change the tree, other modifications don't
abbrev pub is_rename : ModifyKind → Bool
is_rename modify.Any = false
is_rename (modify.Data d) = false
is_rename (modify.Metadata m) = false
is_rename (modify.Name n) = true
is_rename modify.Other = false

-- what happened may have changed which paths there are
abbrev pub is_of_tree : FileEventKind → Bool
is_of_tree event.Any = true
is_of_tree (event.Access a) = false
is_of_tree (event.Create c) = true
is_of_tree (event.Modify m) = is_rename m
is_of_tree (event.Remove r) = true
is_of_tree event.Other = true

abbrev pub has_any : List NotifyPath → Bool
has_any [] = false
has_any (p ∷ ps) = true

-- it says that the tree may have changed
abbrev pub tells_change : Notify → Bool
tells_change n = n.rescan || (is_of_tree n.kind && has_any n.paths)

-- it brings no fault, and nothing that says that the tree changed
abbrev pub BringsNoChange : Option (Result Notify NotifyFault) → Type 0
BringsNoChange None = Unit {0}
BringsNoChange (Some (Ok n)) = tells_change n ≡ false
BringsNoChange (Some (Err fault)) = is_memory fault.kind ≡ true
