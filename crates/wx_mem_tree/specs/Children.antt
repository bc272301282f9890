-- Where the direct entries of a directory stand in a list of entries.
use Rattle.std.specs.Prelude.{◌≡◌, ℕ, suc, List, [], ◌∷◌, ◌++◌, Option, None, Some, option_map, slice_get, if◌then◌else◌}
use Rattle.std.specs.BTreeMap.{get}
use Rattle.std.specs.Cmp.Lexicographic.{slice_cmp}
use Rattle.std.specs.Option.{unwrap_or}
use Rattle.std.specs.Ordering.{nat_cmp}
use Rattle.std.specs.Vec.{vec_items}
use Rattle.wx_tree.specs.Paths.{Path, has_entry}
use Rattle.wx_tree.specs.Places.{place, spelled}
use Rattle.wx_mem_tree.specs.declared.entry.MemEntry.{MemEntry}
use Rattle.wx_mem_tree.specs.declared.children.Children.{Children}

-- where the direct entries of the path stand, the first entry having this number
abbrev pub children_from : ℕ → Path → List MemEntry → List ℕ
children_from n p [] = []
children_from n p (e ∷ es) = if has_entry p e.path then n ∷ children_from (suc n) p es else children_from (suc n) p es

abbrev pub children_of : Path → List MemEntry → List ℕ
children_of p es = children_from 0 p es

abbrev pub children_in : Children → List ℕ → List ℕ
children_in c bytes = unwrap_or (option_map vec_items (get (slice_cmp nat_cmp) c.lists bytes)) []

-- by the bytes of each path its direct entries are found
abbrev pub AreListed : List MemEntry → Children → Type 0
AreListed es c = (bytes : List ℕ) → spelled (place bytes) ≡ bytes → children_in c bytes ≡ children_of (place bytes) es

-- one more stands below these bytes, and below all others what stood there
abbrev pub IsBelow : List ℕ → ℕ → Children → Children → Type 0
IsBelow parent at c d = (children_in d parent ≡ children_in c parent ++ at ∷ []) × ((bytes : List ℕ) → (bytes ≡ parent → ⊥) → children_in d bytes ≡ children_in c bytes)

-- the path of an entry, where there is one, before these
abbrev pub with_path : Option MemEntry → List Path → List Path
with_path None ps = ps
with_path (Some e) ps = e.path ∷ ps

-- the paths of the entries that stand there
abbrev pub paths_at : List ℕ → List MemEntry → List Path
paths_at [] es = []
paths_at (k ∷ ks) es = with_path (slice_get es k) (paths_at ks es)
