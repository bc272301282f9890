-- The entries of a path's name in what stands for its parent.
use Rattle.std.specs.Prelude.{List, [], ◌∷◌, ◌++◌, map}
use Rattle.wx_tree.specs.Paths.{Path}
use Rattle.wx_recursor.specs.Calls.{entries_of, identities_of, paths_of}
use Rattle.wx_recursor.specs.declared.known.Identity.{Identity}
use Rattle.wx_recursor.specs.declared.known.Identity.TheVariants.{Canonical}
use Rattle.wx_recursor.specs.declared.known.Known.{Known}

-- the entry of the first path's name in the second
abbrev pub entry_in : Path → Path → Path
entry_in [] q = q
entry_in (x ∷ p) q = x ∷ q

-- the entry of the path's name in each path that is known under the identity
abbrev pub entries_in : Path → Identity → List Known → List Path
entries_in p i ks = map (λ q. entry_in p q) (paths_of i ks)

abbrev pub entries_in_each : Path → List Identity → List Known → List Path
entries_in_each p [] ks = []
entries_in_each p (i ∷ is) ks = entries_in p i ks ++ entries_in_each p is ks

-- the identities of what stands for the path
abbrev pub identities_at : Path → List Known → List Identity
identities_at p ks = Canonical p ∷ identities_of p ks

-- the entry of the path's name in each path that stands for its parent
abbrev pub entries_at : Path → List Known → List Path
entries_at [] ks = []
entries_at (x ∷ p) ks = entries_of x (identities_at p ks) ks
