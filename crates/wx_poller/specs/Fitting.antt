-- When a poller has seen a tree as it is.
use Rattle.std.specs.Prelude.{ℕ, ◌≡◌, Bool, true, false, ◌&&◌, ◌||◌, if◌then◌else◌, Option, None, Some, Result, Ok, Err, List, [], ◌∷◌}
use Rattle.wx_events.specs.declared.file_type.FileType.{FileType}
use Rattle.wx_events.specs.declared.file_type.FileType.TheVariants as type
use Rattle.wx_notify.specs.declared.notify.Notify.{Notify}
use Rattle.wx_tree.specs.Paths.{has_entry, same_part}
use Rattle.wx_tree.specs.Places.{place, spelled}
use Rattle.wx_tree.specs.Trees.{Tree, is_directory, node_at}
use Rattle.wx_tree.specs.declared.node.Node.{Node}
use Rattle.wx_tree.specs.declared.node.Node.TheVariants.{Dir, File, Link}
use Rattle.wx_scan.specs.Backings.{tells_change}
use Rattle.wx_scan.specs.Looked.{Looked, Rose}
use Rattle.wx_scan.specs.Told.{IsNamed}
use Rattle.wx_scan.specs.declared.scanner.ScanError.{ScanError}
use Rattle.wx_scan.specs.declared.scanner.ScanError.TheVariants.{Io, Memory as OutOfMemory, NotFound}
use Rattle.wx_poller.specs.declared.seen.Seen.{Seen}
use Rattle.wx_poller.specs.Listings.{Sight, type_at}

abbrev pub type_of : Option Node → Option FileType
type_of None = None
type_of (Some Dir) = Some type.Dir
type_of (Some (File stamp)) = Some type.File
type_of (Some (Link target)) = Some type.Symlink

-- the bytes spell the place that they name
abbrev pub is_spelled : List ℕ → Bool
is_spelled p = same_part (spelled (place p)) p

-- in the tree a path shows itself, and a directory its direct entries
abbrev pub shows : Tree → List ℕ → List ℕ → Bool
shows t r p = same_part r p || (is_directory t (place r) && has_entry (place r) (place p))

abbrev pub any_shows : Tree → List (List ℕ) → List ℕ → Bool
any_shows t [] p = false
any_shows t (r ∷ rs) p = shows t r p || any_shows t rs p

-- the kind at a path, where one of these paths shows it
abbrev pub shown : Tree → List (List ℕ) → List ℕ → Option FileType
shown t rs p = if any_shows t rs p && is_spelled p then type_of (node_at t (place p)) else None

-- a listing of these paths has what they show, and nothing else
abbrev pub Agrees : Tree → List (List ℕ) → List Sight → Type 0
Agrees t rs seen = (p : List ℕ) → type_at seen p ≡ shown t rs p

abbrev pub NoneTells : List Notify → Type 0
NoneTells [] = Unit {0}
NoneTells (n ∷ ns) = (tells_change n ≡ false) × NoneTells ns

-- It fits a tree: what pends tells of no change of it, and the listing is what the registered paths show. Stamps don't count.
pub record FitsTree (t : Tree) (registered : List (List ℕ)) (pending : List Notify) (seen : List Sight) : Type 0 where
  pub named : IsNamed t
  pub quiet : NoneTells pending
  pub agrees : Agrees t registered seen

-- looks, links not followed, at a tree that is told, of which none failed
pub record IsTold (t : Tree) (follow : Bool) (before after : Looked) : Type 0 where
  pub no_links : follow ≡ false
  pub told : before.tree ≡ Some t
  pub no_fault : Rose before.faults after.faults → ⊥

-- an answer of such looks: they fail only for want of memory
abbrev pub Answers : {X : Type 0} → (X → Type 0) → Result X ScanError → Type 0
Answers P (Ok x) = P x
Answers P (Err e) = e ≡ OutOfMemory

-- a failed look has another reason than that nothing is there
abbrev pub IsKnown : {X : Type 0} → Result X ScanError → Type 0
IsKnown (Ok x) = Unit {0}
IsKnown (Err NotFound) = ⊥
IsKnown (Err (Io code)) = Unit {0}
IsKnown (Err OutOfMemory) = Unit {0}
