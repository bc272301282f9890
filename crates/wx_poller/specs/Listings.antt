-- What was seen at paths.
use Rattle.std.specs.Prelude.{ℕ, ◌≡◌, Bool, true, false, if◌then◌else◌, Option, None, Some, Result, Ok, Err, List, [], ◌∷◌, option_map}
use Rattle.wx_events.specs.declared.file_type.FileType.{FileType}
use Rattle.wx_events.specs.declared.file_type.FileType.TheVariants.{File, Dir, Symlink, Other}
use Rattle.wx_tree.specs.Lists.{In}
use Rattle.wx_tree.specs.Paths.{same_part}
use Rattle.wx_scan.specs.declared.scanner.ScanError.{ScanError}
use Rattle.wx_scan.specs.declared.scanner.ScanError.TheVariants.{Memory}
use Rattle.wx_poller.specs.declared.seen.Seen.{Seen}

-- a path, and what was seen there
abbrev pub Sight : Type 0
Sight = List ℕ × Seen

-- what the listing has at a path
abbrev pub seen_at : List Sight → List ℕ → Option Seen
seen_at [] p = None
seen_at (s ∷ seen) p = if same_part s.0 p then Some s.1 else seen_at seen p

-- the kind that the listing has at a path
abbrev pub type_at : List Sight → List ℕ → Option FileType
type_at seen p = option_map (λ s. s.file_type) (seen_at seen p)

-- it is a map: each is what it has at this path
abbrev pub IsMap : List Sight → Type 0
IsMap seen = (s : Sight) → In s seen → seen_at seen s.0 ≡ Some s.1

abbrev pub is_file : FileType → Bool
is_file File = true
is_file Dir = false
is_file Symlink = false
is_file Other = false

abbrev pub is_dir : FileType → Bool
is_dir File = false
is_dir Dir = true
is_dir Symlink = false
is_dir Other = false

abbrev pub is_symlink : FileType → Bool
is_symlink File = false
is_symlink Dir = false
is_symlink Symlink = true
is_symlink Other = false

abbrev pub is_other : FileType → Bool
is_other File = false
is_other Dir = false
is_other Symlink = false
is_other Other = true

abbrev pub same_type : FileType → FileType → Bool
same_type File = is_file
same_type Dir = is_dir
same_type Symlink = is_symlink
same_type Other = is_other
