-- The tree of a world that follows a script.
use Rattle.std.specs.Prelude.{◌≡◌, ℕ, zero, suc, Bool, true, false, if◌then◌else◌, Option, None, Some, List, [], ◌∷◌, drop, get_or}
use Rattle.std.specs.List.{list_all}
use Rattle.std.proofs.Props.{props}
use Rattle.wx_tree.specs.Places.{place}
use Rattle.wx_tree.specs.Trees.{Tree, node_at}
use Rattle.wx_tree.specs.declared.node.Node.TheVariants.{Dir, File, Link}
use Rattle.wx_scan.specs.Looked.{Looked}
use Rattle.wx_scan.specs.Told.{is_file_node}
use Rattle.wx_mem_tree.specs.declared.entry.MemEntry.{MemEntry}
use Rattle.wx_mem_tree.specs.declared.mem_tree.FailingLook.{FailingLook}
use Rattle.wx_mem_tree.specs.Entries.{looked_of, put_node, tree_of, without_path}
use Rattle.wx_script.specs.declared.script.FailingCall.{FailingCall}
use Rattle.wx_script.specs.declared.script.TreeEdit.{TreeEdit}
use Rattle.wx_script.specs.declared.script.TreeEdit.TheVariants.{Node, Gone}
use Rattle.wx_follow.specs.Backed.{is_none}

-- what stands where after one change, and after these, one by one
abbrev pub edit : TreeEdit → List MemEntry → List MemEntry
edit (Node path node) es = put_node (place path) node es
edit (Gone path) es = without_path (place path) es

abbrev pub edited : List TreeEdit → List MemEntry → List MemEntry
edited [] es = es
edited (x ∷ xs) es = edited xs (edit x es)

-- what stands where once so many turns were asked for: the k-th changes are made when the k-th turn is
abbrev pub tree_after : List (List TreeEdit) → ℕ → List MemEntry
tree_after edits zero = []
tree_after edits (suc n) = edited (get_or edits n []) (tree_after edits n)

-- this stands there, unless something was refused for want of memory
abbrev pub FollowsEdits : Bool → List (List TreeEdit) → ℕ → List MemEntry → Type 0
FollowsEdits short edits n es = short ≡ false → es ≡ tree_after edits n

-- a ghost field may say so, since entries are a set
pub edits_prop : (short : Bool) (edits : List (List TreeEdit)) (n : ℕ) (es : List MemEntry) → IsProp (FollowsEdits short edits n es)
edits_prop short edits n es = hlevel props

-- ---- what is made ahead, and what stays

abbrev pub any_lines : List (List TreeEdit) → Bool
any_lines [] = false
any_lines (xs ∷ edits) = true

-- before the first turn the first changes are made already, in another tree
abbrev pub IsAhead : List (List TreeEdit) → ℕ → List MemEntry → Type 0
IsAhead edits zero ahead = ahead ≡ tree_after edits 1
IsAhead edits (suc n) ahead = Unit {0}

pub ahead_prop : (edits : List (List TreeEdit)) (n : ℕ) (ahead : List MemEntry) → IsProp (IsAhead edits n ahead)
ahead_prop edits zero ahead = hlevel props
ahead_prop edits (suc n) ahead = hlevel props

-- only the stamp of a file that is there is another one
abbrev pub is_new_stamp : Tree → TreeEdit → Bool
is_new_stamp t (Node path Dir) = false
is_new_stamp t (Node path (File stamp)) = is_file_node (node_at t (place path))
is_new_stamp t (Node path (Link target)) = false
is_new_stamp t (Gone path) = false

abbrev pub are_new_stamps : Tree → List (List TreeEdit) → Bool
are_new_stamps t later = list_all (list_all (is_new_stamp t)) later

-- What changes leave: all of them are made, unless it was short of memory. Where they are but new stamps the tree stays, made or not.
pub record Made (xs : List TreeEdit) (short : Bool) (es new : List MemEntry) : Type 0 where
  pub all : short ≡ false → new ≡ edited xs es
  pub still : list_all (is_new_stamp (tree_of es)) xs ≡ true → tree_of new ≡ tree_of es

-- those of the first line were made ahead
abbrev pub MadeNext : List (List TreeEdit) → ℕ → Bool → List MemEntry → List MemEntry → List MemEntry → Type 0
MadeNext edits zero short ahead es new = (short ≡ false) × (new ≡ ahead)
MadeNext edits (suc n) short ahead es new = Made (get_or edits (suc n) []) short es new

-- the tree of these, where later changes are but new stamps
abbrev pub still_tree : List (List TreeEdit) → List MemEntry → Option Tree
still_tree later es = if are_new_stamps (tree_of es) later then Some (tree_of es) else None

-- the tree from the next turn on, once so many turns were asked for
abbrev pub shape_of : List (List TreeEdit) → ℕ → List MemEntry → List MemEntry → Option Tree
shape_of edits zero ahead es = still_tree (drop 1 edits) ahead
shape_of edits (suc n) ahead es = still_tree (drop (suc n) edits) es

-- what contracts see of its files
abbrev pub files_of : List (List TreeEdit) → ℕ → List MemEntry → List FailingCall → List MemEntry → ℕ → ℕ → Looked
files_of edits n ahead failing es looks faults = record (looked_of es looks faults) { shape = shape_of edits n ahead es; exact = is_none failing }

-- the look of the tree that fails so
abbrev pub failing_look : FailingCall → FailingLook
failing_look x = record { call = x.call; code = x.code }
