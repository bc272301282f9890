-- Ends that aren't told.
use Rattle.std.specs.Prelude.{◌≡◌, ℕ, Option, None, Some}
use Rattle.std.proofs.Common.{refl}
use Rattle.wx_live.specs.Drawn.{left_after}

-- they aren't told behind an answer either
pub still_untold : (answer : Option ℕ) → left_after answer None ≡ None
still_untold None = refl
still_untold (Some child) = refl
