-- What filters answer.
use Rattle.std.specs.Prelude.{Bool, true, false, Result, Ok, Err}
use Rattle.wx_error.specs.declared.runtime.RuntimeError.{RuntimeError}

-- that it passes, or else such an answer
abbrev pub PassesOr : Type 0 → Result Bool RuntimeError → Type 0
PassesOr P (Ok true) = Unit {0}
PassesOr P (Ok false) = P
PassesOr P (Err e) = P
