-- A tree in memory: a list of what stands where, each path once.
use Rattle.std.specs.Prelude.{◌≤◌, length, ℕ, Bool, true, false, not, ◌||◌, ◌&&◌, ◌==◌, if◌then◌else◌, Option, None, Some, List, [], ◌∷◌, filter}
use Rattle.wx_tree.specs.Paths.{Path, has_entry, holds, same}
use Rattle.wx_tree.specs.Trees.{Tree, TreeEntry, node_at}
use Rattle.wx_tree.specs.declared.node.Node.{Node}
use Rattle.wx_tree.specs.declared.node.Node.TheVariants.{Dir, File, Link}
use Rattle.wx_scan.specs.Looked.{Looked}
use Rattle.wx_scan.specs.Told.{has_link_above, is_link_node}
use Rattle.wx_mem_tree.specs.declared.entry.MemEntry.{MemEntry}
use Rattle.wx_mem_tree.specs.declared.mem_tree.FailingLook.{FailingLook}

-- of a file its stamp apart
abbrev pub without_stamp : Node → Node
without_stamp Dir = Dir
without_stamp (File stamp) = File 0
without_stamp (Link target) = Link target

abbrev pub stamp_of : Node → ℕ
stamp_of Dir = 0
stamp_of (File stamp) = stamp
stamp_of (Link target) = 0

abbrev pub shaped : MemEntry → TreeEntry
shaped e = record { path = e.path; node = without_stamp e.node }

-- what stands at each path, but for the stamps of files
abbrev pub tree_of : List MemEntry → Tree
tree_of [] = []
tree_of (e ∷ es) = shaped e ∷ tree_of es

-- what stands at the path
abbrev pub found_at : Path → List MemEntry → Option MemEntry
found_at p [] = None
found_at p (e ∷ es) = if same e.path p then Some e else found_at p es

-- what the tree has of it
abbrev pub node_found : Option MemEntry → Option Node
node_found None = None
node_found (Some e) = Some (without_stamp e.node)

abbrev pub found_stamp : Option MemEntry → ℕ
found_stamp None = 0
found_stamp (Some e) = stamp_of e.node

abbrev pub stamp_at : List MemEntry → Path → ℕ
stamp_at es p = found_stamp (found_at p es)

abbrev pub is_at : Path → List MemEntry → Bool
is_at p [] = false
is_at p (e ∷ es) = same e.path p || is_at p es

-- no path comes twice
abbrev pub are_once : List MemEntry → Bool
are_once [] = true
are_once (e ∷ es) = not (is_at e.path es) && are_once es

-- this stands at the path now, in place of what stood there
abbrev pub put_node : Path → Node → List MemEntry → List MemEntry
put_node p n [] = record { path = p; node = n } ∷ []
put_node p n (e ∷ es) = if same e.path p then record e { node = n } ∷ es else e ∷ put_node p n es

-- the path is gone, and all below it
abbrev pub without_path : Path → List MemEntry → List MemEntry
without_path p es = filter (λ e. not (holds p e.path)) es

-- the direct entries of the path
abbrev pub entries_of : Path → List MemEntry → List Path
entries_of p [] = []
entries_of p (e ∷ es) = if has_entry p e.path then e.path ∷ entries_of p es else entries_of p es

-- what looks at it see
abbrev pub looked_of : List MemEntry → ℕ → ℕ → Looked
looked_of es looks faults = record { tree = Some (tree_of es); stamps = stamp_at es; shape = None; exact = false; looks = looks; faults = faults }

abbrev pub is_link_at : Tree → Path → Bool
is_link_at t p = is_link_node (node_at t p)

-- a link stands above the path, or at it where this counts
abbrev pub has_link_on : Bool → Tree → Path → Bool
has_link_on with_last t p = has_link_above t p || (with_last && is_link_at t p)

-- so many levels are not above /
abbrev pub IsWithin : Option ℕ → Path → Type 0
IsWithin None p = Unit {0}
IsWithin (Some level) p = level ≤ length p

-- no look is to fail
abbrev pub none_fails : List FailingLook → Bool
none_fails [] = true
none_fails (f ∷ fs) = false

-- the code with which this look is to fail, by the first order about it
abbrev pub code_of : List FailingLook → ℕ → Option ℕ
code_of [] look = None
code_of (f ∷ fs) look = if f.call == look then Some f.code else code_of fs look

-- what no look changes of a tree
pub record Unlooked : Type 0 where
  pub entries : List MemEntry
  pub failing : List FailingLook

abbrev pub unlooked : List MemEntry → List FailingLook → Unlooked
unlooked es failing = record { entries = es; failing = failing }
