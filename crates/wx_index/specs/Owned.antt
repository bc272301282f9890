-- By what owners are found, and what lies above them.
use Rattle.std.specs.Prelude.{◌≡◌, ℕ, Bool, true, false, List, map, Option, Some, IfSome, slice_get}
use Rattle.std.specs.BTreeSet.{BTreeSet, contains}
use Rattle.std.specs.Cmp.Lexicographic.{slice_cmp}
use Rattle.std.specs.List.{list_any}
use Rattle.std.specs.Ordering.{nat_cmp}
use Rattle.wx_tree.specs.Paths.{Path, holds}
use Rattle.wx_tree.specs.Places.{spelled}
use Rattle.wx_recursor.specs.declared.owner.Owner.{Owner}
use Rattle.wx_index.specs.Chained.{AreFound, Key}
use Rattle.wx_index.specs.declared.owner_index.OwnerIndex.{OwnerIndex}

abbrev pub has_key : Key → BTreeSet Key → Bool
has_key k keys = contains (slice_cmp nat_cmp) keys k

-- the path and each path above it has its bytes there
abbrev pub HasAbove : Path → BTreeSet Key → Type 0
HasAbove q keys = (p : Path) → holds p q ≡ true → has_key (spelled p) keys ≡ true

abbrev pub HaveAbove : List Path → BTreeSet Key → Type 0
HaveAbove ps keys = (at : ℕ) (p : Path) → slice_get ps at ≡ Some p → HasAbove p keys

abbrev pub owner_path : Owner → Path
owner_path o = o.path

abbrev pub owner_key : Owner → Key
owner_key o = spelled o.path

-- they are found by path, and what lies above them is there
abbrev pub AreOwned : List Owner → OwnerIndex → Type 0
AreOwned os index = AreFound (map owner_key os) index.paths × HaveAbove (map owner_path os) index.above

-- where there is an index, they are found by it
abbrev pub AreOwnersIndexed : List Owner → Option OwnerIndex → Type 0
AreOwnersIndexed os index = IfSome index (AreOwned os)

-- something is owned at or below the path
abbrev pub is_any_below : Path → List Owner → Bool
is_any_below p os = list_any (λ o. holds p o.path) os
