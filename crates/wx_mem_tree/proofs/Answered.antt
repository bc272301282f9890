-- What is found is what the tree answers.
use Rattle.std.proofs.Common.{◌≡◌, ℕ, true, List, refl, ap, ◌∙◌}
use Rattle.std.specs.Prelude.{Some, map}
use Rattle.std.proofs.lemmas.Bool.{both_ways}
use Rattle.wx_watch.specs.declared.scan_fault.EntryKind.TheVariants.{Directory, NonFollowedSymlink, Other}
use Rattle.wx_tree.specs.Paths.{Path}
use Rattle.wx_tree.specs.Places.{spelled}
use Rattle.wx_tree.specs.Trees.{IsListing, is_directory_node, is_there_node, node_at}
use Rattle.wx_tree.specs.declared.node.Node.TheVariants.{Dir, File, Link}
use Rattle.wx_scan.specs.Told.{kind_of}
use Rattle.wx_mem_tree.specs.declared.entry.MemEntry.{MemEntry}
use Rattle.wx_mem_tree.specs.Entries.{are_once, entries_of, found_at, stamp_at, tree_of}
use Rattle.wx_mem_tree.proofs.Found.{found_node, found_path}
use Rattle.wx_mem_tree.proofs.Once.{is_listing, there}

pub kind_directory : (p : Path) (es : List MemEntry) (x : MemEntry) (bytes : List ℕ) → found_at p es ≡ Some x → x.node ≡ Dir → bytes ≡ spelled x.path → kind_of p (node_at (tree_of es) p) ≡ Some (Directory bytes)
kind_directory p es x bytes f n b = rw (found_node p es (Some x) f, n, b, found_path p es x f) refl

pub kind_file : (p : Path) (es : List MemEntry) (x : MemEntry) (stamp : ℕ) → found_at p es ≡ Some x → x.node ≡ File stamp → kind_of p (node_at (tree_of es) p) ≡ Some Other
kind_file p es x stamp f n = rw (found_node p es (Some x) f, n) refl

pub kind_link : (p : Path) (es : List MemEntry) (x : MemEntry) (target : List ℕ) → found_at p es ≡ Some x → x.node ≡ Link target → kind_of p (node_at (tree_of es) p) ≡ Some NonFollowedSymlink
kind_link p es x target f n = rw (found_node p es (Some x) f, n) refl

pub is_there_found : (p : Path) (es : List MemEntry) (x : MemEntry) → found_at p es ≡ Some x → is_there_node (node_at (tree_of es) p) ≡ true
is_there_found p es x f = ap is_there_node (found_node p es (Some x) f) ∙ there x.node

pub spelled_found : (p : Path) (es : List MemEntry) (x : MemEntry) (bytes : List ℕ) → found_at p es ≡ Some x → bytes ≡ spelled x.path → bytes ≡ spelled p
spelled_found p es x bytes f b = b ∙ ap spelled (found_path p es x f)

pub listed_found : (p : Path) (es : List MemEntry) (x : MemEntry) (paths : List (List ℕ)) → are_once es ≡ true → found_at p es ≡ Some x → paths ≡ map spelled (entries_of x.path es)
    → (cs : List Path) × (paths ≡ map spelled cs) × IsListing (tree_of es) p cs
listed_found p es x paths once f e = (entries_of p es, e ∙ ap (λ q. map spelled (entries_of q es)) (found_path p es x f), is_listing p es once)

pub stamp_file : (p : Path) (es : List MemEntry) (x : MemEntry) (stamp : ℕ) → found_at p es ≡ Some x → x.node ≡ File stamp → stamp ≡ stamp_at es p
stamp_file p es x stamp f n = rw (f, n) refl

pub stamp_directory : (p : Path) (es : List MemEntry) (x : MemEntry) → found_at p es ≡ Some x → x.node ≡ Dir → 0 ≡ stamp_at es p
stamp_directory p es x f n = rw (f, n) refl

pub stamp_link : (p : Path) (es : List MemEntry) (x : MemEntry) (target : List ℕ) → found_at p es ≡ Some x → x.node ≡ Link target → 0 ≡ stamp_at es p
stamp_link p es x target f n = rw (f, n) refl

-- a file is no directory, and no link is one
pub no_directory_file : (p : Path) (es : List MemEntry) (x : MemEntry) (stamp : ℕ) → found_at p es ≡ Some x → x.node ≡ File stamp → is_directory_node (node_at (tree_of es) p) ≡ true → ⊥
no_directory_file p es x stamp f n d = both_ways (is_directory_node (node_at (tree_of es) p)) (rw (found_node p es (Some x) f, n) refl) d

pub no_directory_link : (p : Path) (es : List MemEntry) (x : MemEntry) (target : List ℕ) → found_at p es ≡ Some x → x.node ≡ Link target → is_directory_node (node_at (tree_of es) p) ≡ true → ⊥
no_directory_link p es x target f n d = both_ways (is_directory_node (node_at (tree_of es) p)) (rw (found_node p es (Some x) f, n) refl) d
