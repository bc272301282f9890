-- What contracts see of a tree that may change between two looks.
use Rattle.std.specs.Prelude.{ℕ, Bool, false, None}
use Rattle.wx_scan.specs.Looked.{Looked}

-- no tree is told, only how often it was looked at, and how often that failed
abbrev pub untold : ℕ → ℕ → Looked
untold looks faults = record { tree = None; stamps = λ _. 0; shape = None; exact = false; looks = looks; faults = faults }
