-- What events come to.
use Rattle.std.specs.Prelude.{ℕ, if◌then◌else◌, Option, None, Some, option_map, length, List, [], ◌∷◌, drop, map, codes}
use Rattle.std.specs.List.{filter_map, flat_map, find, cons_option, join_with_byte}
use Rattle.std.specs.Option.{unwrap_or}
use Rattle.std.specs.Ordering.{nat_cmp}
use Rattle.std.specs.Cmp.Lexicographic.{slice_cmp}
use Rattle.std.specs.FinMap as finite
use Rattle.std.specs.Str.{bytes_eq}
use Rattle.wx_events.specs.declared.event.Event.{Event}
use Rattle.wx_events.specs.declared.file_type.FileType.{FileType}
use Rattle.wx_paths.specs.Paths.{components, starts_with, parent, common_prefix}
use Rattle.wx_keys.specs.Tags.{all_tags, paths}
use Rattle.wx_summary.specs.declared.group.Group.{Group}
use Rattle.wx_summary.specs.Groups.{group_name, groups, is_in}

-- ---- paths

-- the trunk of a path: the path itself where it leads to a folder or has no parent, else its parent
abbrev pub trunk : List ℕ × Option FileType → List ℕ
trunk (path, Some FileType.Dir) = path
trunk (path, other) = unwrap_or (parent path) path

-- the trunks of all paths
abbrev pub trunks : List Event → List (List ℕ)
trunks events = map trunk (paths (all_tags events))

-- what all trunks share
abbrev pub common : List Event → Option (List ℕ)
common events = common_prefix (trunks events)

-- the components of a path behind as many as another has, with a slash between each two
abbrev pub below : List ℕ → List ℕ → List ℕ
below path above = join_with_byte 47 (drop (length (components above)) (components path))

-- a path that starts with this one is told by what is below it; any other is left
abbrev pub relative : Option (List ℕ) → List ℕ → List ℕ
relative None path = path
relative (Some above) path = if starts_with path above then below path above else path

-- ---- groups

-- the paths of an event that is of this group
abbrev pub changed_in : Option (List ℕ) → Group → Event → List (List ℕ)
changed_in above group event = if is_in group event then map (λ (found : List ℕ × Option FileType). relative above found.0) (paths event.tags) else []

-- the paths of this group
abbrev pub changed : Option (List ℕ) → Group → List Event → List (List ℕ)
changed above group events = flat_map (changed_in above group) events

-- these texts as a set in the order of bytes: a map that has nothing at each
abbrev pub set_of : List (List ℕ) → finite.FinMap (slice_cmp nat_cmp) (Unit {0})
set_of texts = finite.from_entries (map (λ text. (text, tt)) texts)

-- what the set of these texts has, rising
abbrev pub elements : List (List ℕ) → List (List ℕ)
elements texts = finite.keys (set_of texts)

-- these texts, each once and rising, with a colon between each two; none of no texts
abbrev pub joined : List (List ℕ) → Option (List ℕ)
joined [] = None
joined (text ∷ texts) = Some (join_with_byte 58 (elements (text ∷ texts)))

-- what a group comes to
abbrev pub group_text : List Event → Group → Option (List ℕ)
group_text events group = joined (changed (common events) group events)

-- ---- the summary

-- a name with its text, where it has one
abbrev pub pair : List ℕ → Option (List ℕ) → Option (List ℕ × List ℕ)
pair name text = option_map (λ t. (name, t)) text

-- the name and the text of this group, where it has one
abbrev pub group_pair : List Event → Group → Option (List ℕ × List ℕ)
group_pair events group = pair (group_name group) (group_text events group)

-- COMMON and the groups, each with its text, where it has one
abbrev pub summary : List Event → List (List ℕ × List ℕ)
summary events = cons_option (pair (codes "COMMON") (common events)) (filter_map (group_pair events) groups)

-- the text of this name
abbrev pub value_of : List (List ℕ × List ℕ) → List ℕ → Option (List ℕ)
value_of pairs name = option_map (λ (p : List ℕ × List ℕ). p.1) (find (λ (p : List ℕ × List ℕ). bytes_eq p.0 name) pairs)
