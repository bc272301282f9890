-- Where entries stand in their list, by the bytes of their paths.
use Rattle.std.specs.Prelude.{◌≡◌, ℕ, suc, List, [], ◌∷◌, Option, None, Some, option_map, if◌then◌else◌}
use Rattle.std.specs.BTreeMap.{get}
use Rattle.std.specs.Option.{ForSome}
use Rattle.std.specs.Cmp.Lexicographic.{slice_cmp}
use Rattle.std.specs.Ordering.{nat_cmp}
use Rattle.wx_tree.specs.Paths.{Path, same}
use Rattle.wx_tree.specs.Places.{place, spelled}
use Rattle.wx_mem_tree.specs.declared.entry.MemEntry.{MemEntry}
use Rattle.wx_mem_tree.specs.Children.{AreListed}
use Rattle.wx_mem_tree.specs.declared.index.EntryIndex.{EntryIndex}

-- how many entries stand before the one at the path, where there is one
abbrev pub place_of : Path → List MemEntry → Option ℕ
place_of p [] = None
place_of p (e ∷ es) = if same e.path p then Some 0 else option_map suc (place_of p es)

abbrev pub place_in : EntryIndex → List ℕ → Option ℕ
place_in index bytes = get (slice_cmp nat_cmp) index.places bytes

-- by the bytes of each path the place of its entry is found
abbrev pub ArePlaced : List MemEntry → EntryIndex → Type 0
ArePlaced es index = (bytes : List ℕ) → spelled (place bytes) ≡ bytes → place_in index bytes ≡ place_of (place bytes) es

-- and where its direct entries stand
abbrev pub AreFound : List MemEntry → EntryIndex → Type 0
AreFound es index = ArePlaced es index × AreListed es index.children

-- where there is an index, they are found by it
abbrev pub AreIndexed : List MemEntry → Option EntryIndex → Type 0
AreIndexed es index = ForSome index (AreFound es)
