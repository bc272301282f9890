-- Which roots a reconcile keeps.
use Rattle.std.specs.Prelude.{ℕ, List, [], ◌∷◌, ◌++◌, if◌then◌else◌}
use Rattle.wx_watch.specs.declared.watched.WatchedPath.{WatchedPath}
use Rattle.wx_tree.specs.declared.root.Root.{Root}
use Rattle.wx_lane.specs.Public.{named}
use Rattle.wx_recursor.specs.Owners.{has_root}

-- what is to be watched for this path: it is made absolute by the folder, and normalised
abbrev pub kept_root : List ℕ → WatchedPath → Root
kept_root folder w = record { path = named folder w.path; recursive = w.recursive }

abbrev pub keep_root : Root → List Root → List Root
keep_root r rs = if has_root r rs then rs else rs ++ r ∷ []

abbrev pub keep_roots : List ℕ → List WatchedPath → List Root → List Root
keep_roots folder [] rs = rs
keep_roots folder (w ∷ ws) rs = keep_roots folder ws (keep_root (kept_root folder w) rs)

-- the roots of these paths, each once
abbrev pub kept_roots : List ℕ → List WatchedPath → List Root
kept_roots folder ws = keep_roots folder ws []
