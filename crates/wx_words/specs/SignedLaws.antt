-- A signed number is read from its one spelling, and from no other word.
use Rattle.std.proofs.Common.{◌≡◌, ℕ, zero, suc, ◌^◌, ◌<◌, ◌≤◌, Bool, true, false, cond, None, Some, List, [], ◌∷◌, ◌++◌, refl, sym, ap, subst, ◌∙◌, arith, inl, inr, ltb-true, lt-ltb, eqb-true}
use Rattle.std.specs.Prelude.{ℤ, pos, negsuc, decimal, option_map, ◌==◌, FitsSigned}
use Rattle.std.specs.Fmt.{signed_decimal}
use Rattle.std.specs.Int.{w32, w64}
use Rattle.wx_words.specs.Line.{◌>>=◌}
use Rattle.wx_words.specs.OptionLaws.{bind_some, map_some, guarded, chosen_by}
use Rattle.wx_words.specs.Numbers.{number_in}
use Rattle.wx_words.specs.NumberLaws.{number_again, number_takes}
use Rattle.wx_words.specs.Signed.{below_zero, signed_in, signed_words, is_within, signed_within, read_signed, read_i64, read_i32}
use Rattle.wx_words.specs.Forms.{Stood, IsForm}
use Rattle.wx_words.specs.FormLaws.{stood-one, same_read}
use Rattle.wx_words.specs.Clean.{IsClean, AllClean}
use Rattle.wx_words.specs.CleanLaws.{number_clean}
use Rattle.wx_words.specs.DottedLaws.{NoDot, number_undotted}

-- a number without a sign has no hyphen in front
no_hyphen : (ds : List ℕ) → number_in (45 ∷ ds) ≡ None
no_hyphen [] = refl
no_hyphen (d ∷ ds) = refl

without_sign : (w : List ℕ) (n : ℕ) → number_in w ≡ Some n → signed_in w ≡ Some (pos n)
without_sign [] n e = absurd cc
without_sign (c ∷ ds) n e = by_test (c == 45) refl
  where
    by_test : (b : Bool) → (c == 45) ≡ b → cond b (number_in ds >>= below_zero) (option_map pos (number_in (c ∷ ds))) ≡ Some (pos n)
    by_test true t =
        let none : None ≡ Some n = sym (no_hyphen ds) ∙ ap (λ (k : ℕ). number_in (k ∷ ds)) (sym (eqb-true c 45 t)) ∙ e in absurd cc
    by_test false t = ap (option_map pos) e

pub signed_again : (z : ℤ) → is_within (2 ^ 63) z ≡ true → signed_in (signed_decimal z) ≡ Some z
signed_again (pos n) e = let lt = ltb-true n (2 ^ 63) e in without_sign (decimal n) n (number_again n (omega arith))
signed_again (negsuc n) e = let lt = ltb-true n (2 ^ 63) e in let small : suc n < 2 ^ 64 = omega arith in rw (number_again (suc n) small) refl

pub signed_takes : (w : List ℕ) (z : ℤ) → signed_in w ≡ Some z → w ≡ signed_decimal z
signed_takes [] z e = absurd cc
signed_takes (c ∷ ds) z e =
    elim (chosen_by (c == 45) (number_in ds >>= below_zero) (option_map pos (number_in (c ∷ ds))) z e) [
      | inl p ↦
          let n = bind_some (number_in ds) below_zero z p.1 in
          let digits : ds ≡ decimal n.0 = (number_takes ds n.0 n.1).0 in
          let sign : c ≡ 45 = eqb-true c 45 p.0 in
          ap (λ (k : ℕ). k ∷ ds) sign ∙ ap (λ (v : List ℕ). 45 ∷ v) digits ∙ negative n.0 z n.2
      | inr p ↦
          let n = map_some pos (number_in (c ∷ ds)) z p.1 in
          (number_takes (c ∷ ds) n.0 n.1).0 ∙ ap signed_decimal n.2
    ]
  where
    negative : (n : ℕ) (z : ℤ) → below_zero n ≡ Some z → 45 ∷ decimal n ≡ signed_decimal z
    negative zero z e = absurd cc
    negative (suc n) z e = let same : negsuc n ≡ z = cc in ap signed_decimal same

-- a smaller limit
within_more : (limit : ℕ) (z : ℤ) → limit ≤ 2 ^ 63 → is_within limit z ≡ true → is_within (2 ^ 63) z ≡ true
within_more limit (pos n) le e = let lt = ltb-true n limit e in lt-ltb n (2 ^ 63) (omega arith)
within_more limit (negsuc n) le e = let lt = ltb-true n limit e in lt-ltb n (2 ^ 63) (omega arith)

pub signed_form : {V : Type 0} (see : List ℕ → V) (limit : ℕ) {fits : ℤ → Type 0} → limit ≤ 2 ^ 63 → ((z : ℤ) → fits z → is_within limit z ≡ true) → ((z : ℤ) → is_within limit z ≡ true → fits z)
    → IsForm see fits signed_words (read_signed limit)
signed_form {V} see limit {fits} le test fit = record { again = again; takes = takes }
  where
    again : (z : ℤ) (rest : List (List ℕ)) → fits z → read_signed limit (signed_words z ++ rest) ≡ Some (z, rest)
    again z rest h = let within = test z h in rw (signed_again z (within_more limit z le within), within) refl

    takes : (ws : List (List ℕ)) (z : ℤ) (rest : List (List ℕ)) → read_signed limit ws ≡ Some (z, rest) → fits z × Stood see (signed_words z) ws rest
    takes [] z rest e = absurd cc
    takes (w ∷ ws) z rest e =
        let m = map_some (λ y. (y, ws)) (signed_within limit w) (z, rest) e in
        let a = bind_some (signed_in w) (λ y. cond (is_within limit y) (Some y) None) m.0 m.1 in
        let g = guarded (is_within limit a.0) (Some a.0) m.0 a.2 in
        let same : a.0 ≡ m.0 = cc in
        let h = subst (λ (y : ℤ). (is_within limit y ≡ true) × (w ≡ signed_decimal y)) same (g.0, signed_takes w a.0 a.1) in
        same_read (λ (y : ℤ) (r : List (List ℕ)). fits y × Stood see (signed_words y) (w ∷ ws) r) m.0 z ws rest (ap (λ (p : ℤ × List (List ℕ)). Some p) m.2)
        (fit m.0 h.0, stood-one see w (signed_decimal m.0) ws (ap see h.1))

-- ---- the numbers of 64 and of 32 bits

fits_64 : (z : ℤ) → is_within (2 ^ 63) z ≡ true → FitsSigned w64 z
fits_64 (pos n) e = record { sfits = ltb-true n (2 ^ 63) e }
fits_64 (negsuc n) e = record { sfits = ltb-true n (2 ^ 63) e }

within_64 : (z : ℤ) → FitsSigned w64 z → is_within (2 ^ 63) z ≡ true
within_64 (pos n) fits = lt-ltb n (2 ^ 63) fits.sfits
within_64 (negsuc n) fits = lt-ltb n (2 ^ 63) fits.sfits

fits_32 : (z : ℤ) → is_within (2 ^ 31) z ≡ true → FitsSigned w32 z
fits_32 (pos n) e = record { sfits = ltb-true n (2 ^ 31) e }
fits_32 (negsuc n) e = record { sfits = ltb-true n (2 ^ 31) e }

within_32 : (z : ℤ) → FitsSigned w32 z → is_within (2 ^ 31) z ≡ true
within_32 (pos n) fits = lt-ltb n (2 ^ 31) fits.sfits
within_32 (negsuc n) fits = lt-ltb n (2 ^ 31) fits.sfits

pub i64_form : {V : Type 0} (see : List ℕ → V) → IsForm see (FitsSigned w64) signed_words read_i64
i64_form see = signed_form see (2 ^ 63) (omega arith) within_64 fits_64

pub i32_form : {V : Type 0} (see : List ℕ → V) → IsForm see (FitsSigned w32) signed_words read_i32
i32_form see = signed_form see (2 ^ 31) (omega arith) within_32 fits_32

-- ---- no word has a byte of 32 or less, or a dot

signed_clean : (z : ℤ) → FitsSigned w64 z → IsClean (signed_decimal z)
signed_clean (pos n) fits = number_clean n (omega (arith, fits.sfits))
signed_clean (negsuc n) fits = (omega arith, number_clean (suc n) (omega (arith, fits.sfits)))

widened : (z : ℤ) → FitsSigned w32 z → FitsSigned w64 z
widened z fits = record { sfits = omega (arith, fits.sfits) }

pub i64_clean : (z : ℤ) → FitsSigned w64 z → AllClean (signed_words z)
i64_clean z fits = (signed_clean z fits, tt)

pub i32_clean : (z : ℤ) → FitsSigned w32 z → AllClean (signed_words z)
i32_clean z fits = (signed_clean z (widened z fits), tt)

pub i64_undotted : (z : ℤ) → FitsSigned w64 z → NoDot (signed_decimal z)
i64_undotted (pos n) fits = number_undotted n (omega (arith, fits.sfits))
i64_undotted (negsuc n) fits = (refl, number_undotted (suc n) (omega (arith, fits.sfits)))

pub i32_undotted : (z : ℤ) → FitsSigned w32 z → NoDot (signed_decimal z)
i32_undotted z fits = i64_undotted z (widened z fits)
