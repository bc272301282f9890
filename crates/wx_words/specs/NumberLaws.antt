-- A number is read from its one spelling, and from no other word.
use Rattle.std.proofs.Common.{◌≡◌, ℕ, zero, suc, ◌+◌, ◌-◌, ◌*◌, ◌^◌, ◌<◌, ◌≤◌, true, cond, None, Some, List, [], ◌∷◌, length, get_or, refl, sym, ap, subst, ◌∙◌, arith, ne_eqb, lt-ltb}
use Rattle.std.specs.Prelude.{◌&&◌, nat_lt, ◌==◌, decimal}
use Rattle.std.specs.Char.{digit_value, is_ascii_digit}
use Rattle.std.specs.Str.Parse.{digits_value, digits_value_after, AllDigits, IsNumeral}
use Rattle.std.proofs.lemmas.Fmt.{decimal_is_IsNumeral, decimal-digits_value, first_decimal, decimal_digit}
use Rattle.std.proofs.lemmas.Str.{digit_value_digit}
use Rattle.std.proofs.lemmas.Str.Parse.{IsNumeralModel, digit_from_value}
use Rattle.std.proofs.lemmas.Bool.{ltb-true, eqb-false, and_parts}
use Rattle.std.proofs.lemmas.Bool.Decides.{nat_tests}
use Rattle.wx_words.specs.Combine.{read_below}
use Rattle.wx_words.specs.Forms.{IsForm, Stood}
use Rattle.wx_words.specs.FormLaws.{stood-one, same_read}
use Rattle.wx_words.specs.Numbers.{with_digits, number_in, read_number, read_u32}
use Rattle.wx_words.specs.OptionLaws.{bind_some, map_some, guarded, refused}

digit_is : (d : ℕ) → is_ascii_digit d ≡ true → (digit_value d < 10) × (digit_value d ≡ d - 48)
digit_is d p =
    let r : (48 ≤ d) × (d ≤ 57) = (grind (arith, nat_tests), grind (arith, nat_tests)) in
    let v = digit_value_digit d r in (omega arith, omega arith)

is_digit_from : (d : ℕ) → digit_value d < 10 → (is_ascii_digit d ≡ true) × (digit_value d ≡ d - 48)
is_digit_from d lt =
    let r : (48 ≤ d) × (d ≤ 57) = digit_from_value d lt in
    let v = digit_value_digit d r in (grind (arith, nat_tests), omega arith)

after_ge : (n : ℕ) (ds : List ℕ) → n ≤ digits_value_after 10 n ds
after_ge n [] = omega arith
after_ge n (d ∷ ds) = omega (arith, after_ge (n * 10 + digit_value d) ds)

-- digits whose value is small enough are read
digits_again : (n : ℕ) (ds : List ℕ) → AllDigits 10 ds → digits_value_after 10 n ds < 2 ^ 64 → with_digits n ds ≡ Some (digits_value_after 10 n ds)
digits_again n [] all lt = refl
digits_again n (d ∷ ds) all lt =
    let here = is_digit_from d all.0 in
    let same : n * 10 + (d - 48) ≡ n * 10 + digit_value d = omega (arith, here.1) in
    let small : n * 10 + (d - 48) < 2 ^ 64 = omega (arith, after_ge (n * 10 + digit_value d) ds) in
    let test : nat_lt (n * 10 + (d - 48)) (2 ^ 64) ≡ true = lt-ltb _ _ small in
    let step : with_digits n (d ∷ ds) ≡ with_digits (n * 10 + (d - 48)) ds = rw (here.0, test) refl in
    step ∙ ap (λ (k : ℕ). with_digits k ds) same ∙ digits_again (n * 10 + digit_value d) ds all.1 lt

digits_take : (n : ℕ) (ds : List ℕ) (v : ℕ) → n < 2 ^ 64 → with_digits n ds ≡ Some v → AllDigits 10 ds × (digits_value_after 10 n ds ≡ v) × (v < 2 ^ 64)
digits_take n [] v lt e = let same : n ≡ v = cc in (tt, same, omega arith)
digits_take n (d ∷ ds) v lt e =
    let g = guarded (is_ascii_digit d && nat_lt (n * 10 + (d - 48)) (2 ^ 64)) (with_digits (n * 10 + (d - 48)) ds) v e in
    let h = and_parts (is_ascii_digit d) (nat_lt (n * 10 + (d - 48)) (2 ^ 64)) g.0 in
    let here = digit_is d h.0 in
    let rest = digits_take (n * 10 + (d - 48)) ds v (ltb-true _ _ h.1) g.1 in
    ((here.0, rest.0), rw here.1 rest.1, rest.2)

own : IsNumeralModel (AllDigits 10) (digits_value 10)
own = record { to = λ ds h. h; from = λ ds h. h; same = λ ds h. refl }

-- no zero stands in front
zero_first : (n : ℕ) → n < 2 ^ 64 → get_or (decimal n) 0 0 ≡ 48 → length (decimal n) ≡ 1
zero_first zero lt h = ap length (decimal_digit 0 (omega arith))
zero_first (suc n) lt h = absurd (omega (arith, first_decimal (suc n) (omega arith) lt))

pub number_again : (n : ℕ) → n < 2 ^ 64 → number_in (decimal n) ≡ Some n
number_again n lt =
    let num = decimal_is_IsNumeral n lt in
    again n (decimal n) lt num.0 num.1 (zero_first n lt)
  where
    again : (n : ℕ) (w : List ℕ) → n < 2 ^ 64 → IsNumeral 10 w → digits_value 10 w ≡ n → (get_or w 0 0 ≡ 48 → length w ≡ 1) → number_in w ≡ Some n
    again n [] lt num e z = absurd (omega arith)
    again n (d ∷ []) lt num e z = digits_again 0 (d ∷ []) num.1 (omega arith) ∙ ap (λ (k : ℕ). Some k) e
    again n (d ∷ c ∷ ds) lt num e z = rw (ne_eqb d 48 (λ h. let l = z h in absurd (omega arith))) (digits_again 0 (d ∷ c ∷ ds) num.1 (omega arith) ∙ ap (λ (k : ℕ). Some k) e)

pub number_takes : (w : List ℕ) (n : ℕ) → number_in w ≡ Some n → (w ≡ decimal n) × (n < 2 ^ 64)
number_takes [] n e = absurd cc
number_takes (d ∷ []) n e =
    let t = digits_take 0 (d ∷ []) n (omega arith) e in
    (sym (ap decimal (sym t.1) ∙ decimal-digits_value own (d ∷ []) t.0 (omega arith) (λ _. refl) (omega arith)), t.2)
number_takes (d ∷ c ∷ ds) n e =
    let g = refused (d == 48) (with_digits 0 (d ∷ c ∷ ds)) n e in
    let t = digits_take 0 (d ∷ c ∷ ds) n (omega arith) g.1 in
    (sym (ap decimal (sym t.1) ∙ decimal-digits_value own (d ∷ c ∷ ds) t.0 (omega arith) (λ h. absurd (eqb-false _ _ g.0 h)) (omega arith)), t.2)

pub number_form : {V : Type 0} (see : List ℕ → V) → IsForm see (λ n. n < 2 ^ 64) (λ n. decimal n ∷ []) read_number
number_form {V} see = record {
  again = λ n rest lt. rw (number_again n lt) refl;
  takes = takes;
}
  where
    takes : (ws : List (List ℕ)) (n : ℕ) (rest : List (List ℕ)) → read_number ws ≡ Some (n, rest) → (n < 2 ^ 64) × Stood see (decimal n ∷ []) ws rest
    takes [] n rest e = absurd cc
    takes (w ∷ ws) n rest e =
        let m = map_some (λ k. (k, ws)) (number_in w) (n, rest) e in
        let en : m.0 ≡ n = ap (λ p. p.0) m.2 in
        let er : ws ≡ rest = ap (λ p. p.1) m.2 in
        let t = number_takes w n (m.1 ∙ ap (λ (k : ℕ). Some k) en) in
        (t.1, subst (λ (r : List (List ℕ)). Stood see (decimal n ∷ []) (w ∷ ws) r) er (stood-one see w (decimal n) ws (ap see t.0)))

-- a number below a limit
pub below_form : {V : Type 0} (see : List ℕ → V) (limit : ℕ) → limit ≤ 2 ^ 64 → IsForm see (λ n. n < limit) (λ n. decimal n ∷ []) (read_below limit read_number)
below_form {V} see limit le = record { again = again; takes = takes }
  where
    again : (n : ℕ) (rest : List (List ℕ)) → n < limit → read_below limit read_number (decimal n ∷ rest) ≡ Some (n, rest)
    again n rest fits = let small : n < 2 ^ 64 = omega arith in rw (number_again n small, lt-ltb n limit fits) refl

    takes : (ws : List (List ℕ)) (n : ℕ) (rest : List (List ℕ)) → read_below limit read_number ws ≡ Some (n, rest) → (n < limit) × Stood see (decimal n ∷ []) ws rest
    takes ws n rest e =
        let a = bind_some (read_number ws) (λ m. cond (nat_lt m.0 limit) (Some m) None) (n, rest) e in
        let g = guarded (nat_lt a.0.0 limit) (Some a.0) (n, rest) a.2 in
        let t = (number_form see).takes ws a.0.0 a.0.1 a.1 in
        same_read (λ (m : ℕ) (r : List (List ℕ)). (m < limit) × Stood see (decimal m ∷ []) ws r) a.0.0 n a.0.1 rest g.1
        (ltb-true _ _ g.0, t.1)

pub u32_form : {V : Type 0} (see : List ℕ → V) → IsForm see (λ n. n < 2 ^ 32) (λ n. decimal n ∷ []) read_u32
u32_form see = below_form see (2 ^ 32) (omega arith)
