-- Trees of files, and what of a tree is to be watched for given roots: sets by recursion on the tree, without a queue, epochs or
-- owners. What a recursor does is measured by them.
use Rattle.std.specs.Prelude.{ℕ, ◌≡◌, ◌+◌, ◌*◌, Bool, true, false, ◌&&◌, ◌||◌, if◌then◌else◌, List, [], ◌∷◌, ◌++◌, map, filter, Option, Some, None}
use Rattle.wx_tree.specs.declared.node.Node.{Node}
use Rattle.wx_tree.specs.declared.node.Node.TheVariants.{Dir, File, Link}
use Rattle.wx_tree.specs.declared.root.Root.{Root}
use Rattle.wx_tree.specs.Lists.{In, AllOnce}
use Rattle.wx_tree.specs.Paths.{Path, same, has_entry}

-- what stands at a path
pub record TreeEntry : Type 0 where
  pub path : Path
  pub node : Node

-- a finite map from paths to what stands there: of two entries of one path the first counts
abbrev pub Tree : Type 0
Tree = List TreeEntry

abbrev pub node_at : Tree → Path → Option Node
node_at [] p = None
node_at (e ∷ t) p = if same e.path p then Some e.node else node_at t p

abbrev pub is_directory_node : Option Node → Bool
is_directory_node None = false
is_directory_node (Some Dir) = true
is_directory_node (Some (File stamp)) = false
is_directory_node (Some (Link target)) = false

abbrev pub is_there_node : Option Node → Bool
is_there_node None = false
is_there_node (Some Dir) = true
is_there_node (Some (File stamp)) = true
is_there_node (Some (Link target)) = true

-- a directory or a file
abbrev pub is_fit_node : Option Node → Bool
is_fit_node None = false
is_fit_node (Some Dir) = true
is_fit_node (Some (File stamp)) = true
is_fit_node (Some (Link target)) = false

abbrev pub is_there : Tree → Path → Bool
is_there t p = is_there_node (node_at t p)

abbrev pub is_directory : Tree → Path → Bool
is_directory t p = is_directory_node (node_at t p)

-- each path from / down to p is a directory
abbrev pub is_chain : Tree → Path → Bool
is_chain t [] = is_directory t []
is_chain t (x ∷ p) = is_directory t (x ∷ p) && is_chain t p

-- each path above p is a directory
abbrev pub is_chain_above : Tree → Path → Bool
is_chain_above t [] = true
is_chain_above t (x ∷ p) = is_chain t p

-- a root is safe where each path above it is a directory and it is itself a directory or a file
abbrev pub is_safe : Tree → Path → Bool
is_safe t p = is_chain_above t p && is_fit_node (node_at t p)

-- The walk from a root reaches p: a safe root itself, and below a recursive one each directory for which all paths below the root
-- down to it are accepted, and all from the root down to it are directories.
abbrev pub reaches : Tree → (Path → Bool) → Root → Path → Bool
reaches t ok r [] = same r.path [] && is_safe t []
reaches t ok r (x ∷ p) =
    if same r.path (x ∷ p)
    then is_safe t (x ∷ p)
    else (r.recursive && ok (x ∷ p)) && (is_directory t (x ∷ p) && (is_directory t p && reaches t ok r p))

abbrev pub any_reaches : Tree → (Path → Bool) → List Root → Path → Bool
any_reaches t ok [] p = false
any_reaches t ok (r ∷ rs) p = reaches t ok r p || any_reaches t ok rs p

-- the paths that are to be owned: those that the walk from some root reaches
abbrev pub walk : Tree → List Root → (Path → Bool) → List Path
walk t rs ok = filter (any_reaches t ok rs) (map (λ e. e.path) t)

-- the last path of the unbroken chain of directories from / to p
abbrev pub last_of_chain : Tree → Path → Option Path
last_of_chain t [] = if is_directory t [] then Some [] else None
last_of_chain t (x ∷ p) = if is_chain t (x ∷ p) then Some (x ∷ p) else last_of_chain t p

-- the guard of a root: the last path of that chain from / to its parent, and none where / is no directory
abbrev pub guard_of : Tree → Path → Option Path
guard_of t [] = None
guard_of t (x ∷ p) = last_of_chain t p

abbrev pub listed : Option Path → List Path
listed None = []
listed (Some p) = p ∷ []

-- the guards of the roots that aren't safe
abbrev pub guards : Tree → List Root → List Path
guards t [] = []
guards t (r ∷ rs) = (if is_safe t r.path then [] else listed (guard_of t r.path)) ++ guards t rs

-- How many steps are enough: for so many roots that have a guard, roots, paths of the tree, and pairs of an owned path and its
-- owner.
abbrev pub settle : ℕ → ℕ → ℕ → ℕ → ℕ
settle guarded roots paths owned = 4 * (1 + guarded + roots + roots * paths + owned)

-- the direct entries of a directory, each once
pub record IsListing (t : Tree) (p : Path) (cs : List Path) : Type 0 where
  pub once : AllOnce cs
  pub each : (c : Path) → In c cs → has_entry p c ≡ true
  pub there : (c : Path) → In c cs → is_there t c ≡ true
  pub all : (c : Path) → has_entry p c ≡ true → is_there t c ≡ true → In c cs
