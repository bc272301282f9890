-- Laws of paths.
use Rattle.std.specs.Prelude.{◌≡◌, ℕ, ◌<◌, length, true, Some, List, ◌∷◌, ◌++◌}
use Rattle.wx_paths.specs.Paths.{normalize, starts_with, components, path_of, parent, IsName}

-- a normal path is left as it is
abbrev pub NormalStaysNormal : Type 0
NormalStaysNormal = (path : List ℕ) → normalize (normalize path) ≡ normalize path

abbrev pub StartsWithItself : Type 0
StartsWithItself = (path : List ℕ) → starts_with path path ≡ true

abbrev pub StartsWithTheSame : Type 0
StartsWithTheSame = (path middle front : List ℕ) → starts_with path middle ≡ true → starts_with middle front ≡ true → starts_with path front ≡ true

-- the path that the components of this one spell is above it with a name more
abbrev pub ParentOfName : Type 0
ParentOfName = (path name : List ℕ) → 0 < length path → IsName name → parent (path ++ 47 ∷ name) ≡ Some (path_of (components path))

-- of a normal path that is the path itself
abbrev pub NormalIsSpelled : Type 0
NormalIsSpelled = (path : List ℕ) → path_of (components (normalize path)) ≡ normalize path
