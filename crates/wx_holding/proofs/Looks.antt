-- Looks one after the other are looks.
use Rattle.std.proofs.Common.{◌≡◌, ◌≤◌, ℕ, zero, suc, arith, refl}
use Rattle.wx_recursor.specs.declared.answers.GuardFound.{GuardFound}
use Rattle.wx_recursor.specs.declared.answers.GuardFound.TheVariants.{Nowhere}

-- A search for a guard raised the looks, where something lies above the path. Where nothing does it finds nothing, and what is done
-- then raises them.
pub raised_by_guard : (levels : ℕ) (found : GuardFound) (R : Type 0) → (1 ≤ levels → R) → (levels ≡ 0 → found ≡ Nowhere) → (found ≡ Nowhere → R) → R
raised_by_guard zero found R above top nowhere = nowhere (top refl)
raised_by_guard (suc n) found R above top nowhere = above (omega arith)
