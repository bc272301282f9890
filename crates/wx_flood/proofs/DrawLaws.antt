-- Draws as they are computed.
use Rattle.std.proofs.Common.{◌≡◌, ℕ, ◌+◌, ◌*◌}
use Rattle.std.specs.Prelude.{◌%◌, ◌^◌}
use Rattle.std.proofs.Math.Nat.{mod-add-mod}
use Rattle.wx_flood.specs.Draws.{next}

-- the product is cut to 64 bits before the sum is
pub cut_twice : (state : ℕ) → (state * 6364136223846793005 % 2 ^ 64 + 1442695040888963407) % 2 ^ 64 ≡ next state
cut_twice state = mod-add-mod (state * 6364136223846793005) (2 ^ 64) 1442695040888963407
