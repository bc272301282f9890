-- Which roots may be asked about, as a test.
use Rattle.std.specs.Prelude.{Bool, true, not, ◌&&◌, ◌||◌, List, [], ◌∷◌}
use Rattle.wx_tree.specs.Paths.{Path}
use Rattle.wx_tree.specs.declared.root.Root.{Root}
use Rattle.wx_recursor.specs.Owners.{has_path}

-- each recursive root is one of these
abbrev pub all_allowed : List Path → List Root → Bool
all_allowed under [] = true
all_allowed under (r ∷ rs) = (not r.recursive || has_path r.path under) && all_allowed under rs
