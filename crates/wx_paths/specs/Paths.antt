-- Paths as their components.
use Rattle.std.specs.Prelude.{◌≡◌, drop, ℕ, ◌-◌, ◌==◌, length, take, Bool, true, false, not, ◌&&◌, ◌||◌, if◌then◌else◌, Option, None, Some, option_map, List, [], ◌∷◌, ◌++◌, codes, map}
use Rattle.std.specs.List.{All, list_any, filter, cons_option, fold, join_with_byte}
use Rattle.std.specs.Str.{bytes_eq}
use Rattle.wx_words.specs.Line.{parts}

-- ---- the components of a path

-- the pieces of a path stand between slashes; an empty one and `.` name nothing
abbrev pub is_named : List ℕ → Bool
is_named piece = not (length piece == 0 || bytes_eq piece (codes "."))

-- the parts of a path are those that name something
abbrev pub path_parts : List ℕ → List (List ℕ)
path_parts path = filter is_named (parts 47 path)

-- an absolute path begins with a slash
abbrev pub is_absolute : List ℕ → Bool
is_absolute [] = false
is_absolute (b ∷ bytes) = b == 47

-- whether the first piece is `.`
abbrev pub begins_here : List (List ℕ) → Bool
begins_here [] = false
begins_here (piece ∷ pieces) = bytes_eq piece (codes ".")

-- what stands before the parts: `/` of an absolute path, a `.` at the front of a relative one
abbrev pub front : List ℕ → Option (List ℕ)
front path = if is_absolute path then Some (codes "/") else (if begins_here (parts 47 path) then Some (codes ".") else None)

-- the components of a path
abbrev pub components : List ℕ → List (List ℕ)
components path = cons_option (front path) (path_parts path)

-- ---- paths of their components

-- the last one taken away
abbrev pub without_last : List (List ℕ) → List (List ℕ)
without_last parts = take (length parts - 1) parts

-- whether the first component is `/`
abbrev pub is_rooted : List (List ℕ) → Bool
is_rooted [] = false
is_rooted (part ∷ parts) = bytes_eq part (codes "/")

-- what spells these components: a slash between each two, but none more behind `/`
abbrev pub path_of : List (List ℕ) → List ℕ
path_of parts = if is_rooted parts then codes "/" ++ join_with_byte 47 (drop 1 parts) else join_with_byte 47 parts

-- ---- what is asked of paths

-- one part more: `..` takes the part before it away, where there is one
abbrev pub with_part : List (List ℕ) → List ℕ → List (List ℕ)
with_part kept part = if bytes_eq part (codes "..") then without_last kept else kept ++ part ∷ []

-- the parts that are kept of these
abbrev pub kept : List (List ℕ) → List (List ℕ)
kept parts = fold with_part [] parts

-- what spells these parts, behind a slash where the path is absolute
abbrev pub spelled : Bool → List (List ℕ) → List ℕ
spelled absolute parts = (if absolute then codes "/" else []) ++ join_with_byte 47 parts

-- the same place without `.` and `..`
abbrev pub normalize : List ℕ → List ℕ
normalize path = spelled (is_absolute path) (kept (path_parts path))

-- whether the second list is a front of the first
abbrev pub begins_with : List (List ℕ) → List (List ℕ) → Bool
begins_with parts [] = true
begins_with [] (q ∷ qs) = false
begins_with (p ∷ ps) (q ∷ qs) = bytes_eq p q && begins_with ps qs

abbrev pub starts_with : List ℕ → List ℕ → Bool
starts_with path other = begins_with (components path) (components other)

-- `/` and the empty path have none above them
abbrev pub is_top : List (List ℕ) → Bool
is_top parts = length parts == 0 || (is_rooted parts && length parts == 1)

-- the components of the parent: all but the last
abbrev pub parent_parts : List (List ℕ) → Option (List (List ℕ))
parent_parts parts = if is_top parts then None else Some (without_last parts)

abbrev pub parent : List ℕ → Option (List ℕ)
parent path = option_map path_of (parent_parts (components path))

-- what both begin with
abbrev pub both_begin : List (List ℕ) → List (List ℕ) → List (List ℕ)
both_begin [] qs = []
both_begin (p ∷ ps) [] = []
both_begin (p ∷ ps) (q ∷ qs) = if bytes_eq p q then p ∷ both_begin ps qs else []

-- what all begin with
abbrev pub all_begin : List (List (List ℕ)) → List (List ℕ)
all_begin [] = []
all_begin (parts ∷ others) = fold both_begin parts others

-- a path, where it has components
abbrev pub some_path : List (List ℕ) → Option (List ℕ)
some_path parts = if length parts == 0 then None else Some (path_of parts)

-- the longest path with which all begin
abbrev pub common_prefix : List (List ℕ) → Option (List ℕ)
common_prefix paths = some_path (all_begin (map components paths))

-- the components that a shared path has
abbrev pub shared_components : Option (List ℕ) → List (List ℕ)
shared_components None = []
shared_components (Some path) = components path

-- this list is a front of each of these, and each other front of all is a front of it
pub record IsLongestFront (lists : List (List (List ℕ))) (shared : List (List ℕ)) : Type 0 where
  pub of_each : All (λ parts. begins_with parts shared ≡ true) lists
  pub longest : (other : List (List ℕ)) → All (λ parts. begins_with parts other ≡ true) lists → begins_with shared other ≡ true

-- a name of a file or a folder: it isn't empty, isn't `.`, and has no slash
abbrev pub IsName : List ℕ → Type 0
IsName name = (is_named name ≡ true) × (list_any (λ b. b == 47) name ≡ false)
