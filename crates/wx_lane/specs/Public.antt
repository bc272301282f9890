-- Which notifications are of what is to be watched.
use Rattle.std.specs.Prelude.{ℕ, Bool, false, not, ◌||◌, if◌then◌else◌, List, [], ◌∷◌, ◌++◌, codes}
use Rattle.wx_paths.specs.Paths.{is_absolute, normalize}
use Rattle.wx_notify.specs.declared.notify.Notify.{Notify}
use Rattle.wx_notify.specs.declared.notify.NotifyPath.{NotifyPath}
use Rattle.wx_tree.specs.Paths.{Path, has_entry, holds_below, same}
use Rattle.wx_tree.specs.Places.{place}
use Rattle.wx_tree.specs.declared.root.Root.{Root}
use Rattle.wx_scan.specs.Backings.{has_any}

-- a path as it is seen from this folder
abbrev pub absolute : List ℕ → List ℕ → List ℕ
absolute folder path = if is_absolute path then path else folder ++ codes "/" ++ path

-- the place that a path leads to from this folder
abbrev pub named : List ℕ → List ℕ → Path
named folder path = place (normalize (absolute folder path))

-- a path is of a root where it is the root itself, lies below a recursive one, or is a direct entry of another
abbrev pub is_of : Root → Path → Bool
is_of r p = same r.path p || (if r.recursive then holds_below r.path p else has_entry r.path p)

abbrev pub is_of_any : List Root → Path → Bool
is_of_any [] p = false
is_of_any (r ∷ rs) p = is_of r p || is_of_any rs p

-- some path of these is of a root
abbrev pub some_of_any : List ℕ → List Root → List NotifyPath → Bool
some_of_any folder rs [] = false
some_of_any folder rs (p ∷ ps) = is_of_any rs (named folder p.path) || some_of_any folder rs ps

-- A notification is public where it names no path, or one that is of a root.
abbrev pub event_is_public : List ℕ → List Root → Notify → Bool
event_is_public folder rs n = not (has_any n.paths) || some_of_any folder rs n.paths
