-- Signed numbers other than zero.
use Rattle.std.specs.Prelude.{zero, suc, ℤ, pos, negsuc, Option, None, Some}
use Rattle.std.specs.declared.num.NonZeroI32.{NonZeroI32}
use Rattle.std.specs.declared.num.NonZeroI64.{NonZeroI64}
use Rattle.std.proofs.Math.Nat.{zero-lt-suc}

-- this number, unless it is zero
abbrev pub i64_other_than_zero : ℤ → Option NonZeroI64
i64_other_than_zero (pos zero) = None
i64_other_than_zero (pos (suc n)) = Some (record { value = pos (suc n); ok = zero-lt-suc n })
i64_other_than_zero (negsuc n) = Some (record { value = negsuc n; ok = zero-lt-suc n })

abbrev pub i32_other_than_zero : ℤ → Option NonZeroI32
i32_other_than_zero (pos zero) = None
i32_other_than_zero (pos (suc n)) = Some (record { value = pos (suc n); ok = zero-lt-suc n })
i32_other_than_zero (negsuc n) = Some (record { value = negsuc n; ok = zero-lt-suc n })
