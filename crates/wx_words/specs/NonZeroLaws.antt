-- A number other than zero is found by its number.
use Rattle.std.proofs.Common.{◌≡◌, zero, suc, ◌<◌, Some, sym, ap, ◌∙◌, arith}
use Rattle.std.specs.Prelude.{ℤ, pos, negsuc, unsigned_abs}
use Rattle.std.specs.Int.NonZero.{non_zero_i32_get, non_zero_i64_get}
use Rattle.std.specs.declared.num.NonZeroI32.{NonZeroI32}
use Rattle.std.specs.declared.num.NonZeroI64.{NonZeroI64}
use Rattle.std.proofs.Math.Bridge.{le_prop}
use Rattle.std.proofs.Math.Nat.{zero-lt-suc}
use Rattle.wx_words.specs.NonZero.{i64_other_than_zero, i32_other_than_zero}

-- ---- 64 bits

pub i64_found : (x : NonZeroI64) → i64_other_than_zero (non_zero_i64_get x) ≡ Some x
i64_found x = of (non_zero_i64_get x) x.ok
  where
    of : (z : ℤ) (ok : 0 < unsigned_abs z) → i64_other_than_zero z ≡ Some (record { value = z; ok = ok })
    of (pos zero) ok = absurd (omega arith)
    of (pos (suc n)) ok = ap (λ (h : 0 < suc n). Some (record { value = pos (suc n); ok = h })) (le_prop _ ok)
    of (negsuc n) ok = ap (λ (h : 0 < suc n). Some (record { value = negsuc n; ok = h })) (le_prop _ ok)

pub i64_held : (n : ℤ) (x : NonZeroI64) → non_zero_i64_get x ≡ n → i64_other_than_zero n ≡ Some x
i64_held n x e = ap i64_other_than_zero (sym e) ∙ i64_found x

pub i64_is : (z : ℤ) (x : NonZeroI64) → i64_other_than_zero z ≡ Some x → non_zero_i64_get x ≡ z
i64_is (pos zero) x e = absurd cc
i64_is (pos (suc n)) x e = let same : record { value = pos (suc n); ok = zero-lt-suc n } ≡ x = cc in ap non_zero_i64_get (sym same)
i64_is (negsuc n) x e = let same : record { value = negsuc n; ok = zero-lt-suc n } ≡ x = cc in ap non_zero_i64_get (sym same)

-- ---- 32 bits

pub i32_found : (x : NonZeroI32) → i32_other_than_zero (non_zero_i32_get x) ≡ Some x
i32_found x = of (non_zero_i32_get x) x.ok
  where
    of : (z : ℤ) (ok : 0 < unsigned_abs z) → i32_other_than_zero z ≡ Some (record { value = z; ok = ok })
    of (pos zero) ok = absurd (omega arith)
    of (pos (suc n)) ok = ap (λ (h : 0 < suc n). Some (record { value = pos (suc n); ok = h })) (le_prop _ ok)
    of (negsuc n) ok = ap (λ (h : 0 < suc n). Some (record { value = negsuc n; ok = h })) (le_prop _ ok)

pub i32_held : (n : ℤ) (x : NonZeroI32) → non_zero_i32_get x ≡ n → i32_other_than_zero n ≡ Some x
i32_held n x e = ap i32_other_than_zero (sym e) ∙ i32_found x

pub i32_is : (z : ℤ) (x : NonZeroI32) → i32_other_than_zero z ≡ Some x → non_zero_i32_get x ≡ z
i32_is (pos zero) x e = absurd cc
i32_is (pos (suc n)) x e = let same : record { value = pos (suc n); ok = zero-lt-suc n } ≡ x = cc in ap non_zero_i32_get (sym same)
i32_is (negsuc n) x e = let same : record { value = negsuc n; ok = zero-lt-suc n } ≡ x = cc in ap non_zero_i32_get (sym same)
