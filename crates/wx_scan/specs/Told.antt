-- What a look answers, where the tree is told.
use Rattle.std.specs.Prelude.{◌≡◌, ℕ, Bool, true, false, not, ◌&&◌, ◌||◌, Option, None, Some, Result, Ok, Err, List, [], ◌∷◌, codes, map}
use Rattle.wx_watch.specs.declared.scan_fault.EntryKind.{EntryKind}
use Rattle.wx_watch.specs.declared.scan_fault.EntryKind.TheVariants.{Directory, NonFollowedSymlink, Other}
use Rattle.wx_tree.specs.Paths.{Part, Path, same_part}
use Rattle.wx_tree.specs.Places.{is_part, spelled}
use Rattle.wx_tree.specs.Trees.{IsListing, Tree, is_directory_node, is_there, is_there_node, node_at}
use Rattle.wx_tree.specs.declared.node.Node.{Node}
use Rattle.wx_tree.specs.declared.node.Node.TheVariants.{Dir, File, Link}
use Rattle.wx_scan.specs.Looked.{Looked, Rose}
use Rattle.wx_scan.specs.declared.scanner.ScanError.{ScanError}
use Rattle.wx_scan.specs.declared.scanner.ScanError.TheVariants.{Io, Memory, NotFound}

-- a part that leads to an entry: neither `.` nor `..`
abbrev pub is_name : Part → Bool
is_name x = is_part x && not (same_part x (codes ".") || same_part x (codes ".."))

abbrev pub AreNames : Path → Type 0
AreNames [] = Unit {0}
AreNames (x ∷ p) = (is_name x ≡ true) × AreNames p

-- whatever is there has names for parts
abbrev pub IsNamed : Tree → Type 0
IsNamed t = (p : Path) → is_there t p ≡ true → AreNames p

abbrev pub is_link_node : Option Node → Bool
is_link_node None = false
is_link_node (Some Dir) = false
is_link_node (Some (File stamp)) = false
is_link_node (Some (Link target)) = true

-- a link stands above the path
abbrev pub has_link_above : Tree → Path → Bool
has_link_above t [] = false
has_link_above t (x ∷ p) = is_link_node (node_at t p) || has_link_above t p

-- These bytes spell a path of the tree: it is absolute, with neither `.` nor `..` nor an empty part, and no link stands above it.
pub record SpellsPath (t : Tree) (p : Path) (bytes : List ℕ) : Type 0 where
  pub spelled : bytes ≡ spelled p
  pub names : AreNames p
  pub no_link : has_link_above t p ≡ false

-- Where the tree is told, and no fault came, the answer for a path of it is the tree's.
abbrev pub Tells : Looked → Looked → List ℕ → (Tree → Path → Type 0) → Type 0
Tells a b bytes Answers = (t : Tree) (p : Path) → a.tree ≡ Some t → SpellsPath t p bytes → (Rose a.faults b.faults → ⊥) → Answers t p

-- a fault of the outside: neither that nothing is there, nor want of memory
abbrev pub is_fault : {X : Type 0} → Result X ScanError → Bool
is_fault (Ok x) = false
is_fault (Err NotFound) = false
is_fault (Err (Io code)) = true
is_fault (Err Memory) = false

-- why a look has no other answer: nothing is there. Want of memory may come always
abbrev pub IsAbsent : ScanError → Option Node → Type 0
IsAbsent NotFound found = found ≡ None
IsAbsent (Io code) found = ⊥
IsAbsent Memory found = Unit {0}

abbrev pub kind_of : Path → Option Node → Option EntryKind
kind_of p None = None
kind_of p (Some Dir) = Some (Directory (spelled p))
kind_of p (Some (File stamp)) = Some Other
kind_of p (Some (Link target)) = Some NonFollowedSymlink

-- what stands at the path: a directory with the path itself, a link, or something else
abbrev pub IsKind : Result EntryKind ScanError → Tree → Path → Type 0
IsKind (Ok kind) t p = kind_of p (node_at t p) ≡ Some kind
IsKind (Err e) t p = IsAbsent e (node_at t p)

-- what is said of a path at which no link stands
abbrev pub Unlinked : (Tree → Path → Type 0) → Tree → Path → Type 0
Unlinked Answers t p = is_link_node (node_at t p) ≡ false → Answers t p

-- the path itself
abbrev pub IsCanonical : Result (List ℕ) ScanError → Tree → Path → Type 0
IsCanonical (Ok bytes) t p = (is_there_node (node_at t p) ≡ true) × (bytes ≡ spelled p)
IsCanonical (Err e) t p = IsAbsent e (node_at t p)

-- the direct entries of a directory, each once
abbrev pub IsListed : Result (List (List ℕ)) ScanError → Tree → Path → Type 0
IsListed (Ok entries) t p = (is_there_node (node_at t p) ≡ true) × (is_directory_node (node_at t p) ≡ true → (cs : List Path) × (entries ≡ map spelled cs) × IsListing t p cs)
IsListed (Err e) t p = IsAbsent e (node_at t p)

abbrev pub is_file_node : Option Node → Bool
is_file_node None = false
is_file_node (Some Dir) = false
is_file_node (Some (File stamp)) = true
is_file_node (Some (Link target)) = false

-- the stamp of a file
abbrev pub IsStamp : (Path → ℕ) → Result ℕ ScanError → Tree → Path → Type 0
IsStamp stamps (Ok stamp) t p = (is_there_node (node_at t p) ≡ true) × (is_file_node (node_at t p) ≡ true → stamp ≡ stamps p)
IsStamp stamps (Err e) t p = IsAbsent e (node_at t p)
