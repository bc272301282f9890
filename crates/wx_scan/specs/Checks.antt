-- What contracts see of the check of directories.
use Rattle.std.specs.Prelude.{◌≡◌, ℕ, Bool, true, false, ◌||◌, Result, Ok, Err, List, [], ◌∷◌}
use Rattle.wx_error.specs.declared.runtime.RuntimeError.{RuntimeError}
use Rattle.wx_error.specs.declared.runtime.RuntimeError.TheVariants.{Memory}
use Rattle.wx_tree.specs.Paths.{Path, holds_below}
use Rattle.wx_tree.specs.Places.{place}

-- the path lies strictly below one of these
abbrev pub is_below_any : List Path → Path → Bool
is_below_any [] p = false
is_below_any (q ∷ qs) p = holds_below q p || is_below_any qs p

-- the answer of this test of paths, or want of memory
abbrev pub IsAnswerOf : (Path → Bool) → List ℕ → Result Bool RuntimeError → Type 0
IsAnswerOf ok bytes (Ok answer) = answer ≡ ok (place bytes)
IsAnswerOf ok bytes (Err error) = error ≡ Memory
