-- A number that may be absent is read from its one spelling.
use Rattle.std.proofs.Common.{◌≡◌, ℕ, ◌^◌, ◌<◌, Bool, true, false, Option, None, Some, List, [], ◌∷◌, refl, sym, ap, subst, ◌∙◌, inl, inr}
use Rattle.std.specs.Prelude.{decimal, codes, option_map}
use Rattle.std.specs.Str.{bytes_eq}
use Rattle.wx_words.specs.LineLaws.{bytes_same}
use Rattle.wx_words.specs.OptionLaws.{map_some, chosen_by}
use Rattle.wx_words.specs.Numbers.{number_in}
use Rattle.wx_words.specs.NumberLaws.{number_again, number_takes}
use Rattle.wx_words.specs.Forms.{Stood, IsForm}
use Rattle.wx_words.specs.FormLaws.{stood-one, same_read}
use Rattle.wx_words.specs.Clean.{AllClean}
use Rattle.wx_words.specs.CleanLaws.{clean, number_clean}
use Rattle.wx_words.specs.Optional.{OptionalFits, optional_word, optional_words, optional_in, read_optional}

-- a number is no hyphen
no_hyphen : (n : ℕ) → n < 2 ^ 64 → bytes_eq (decimal n) (codes "-") ≡ false
no_hyphen n lt = by_test (bytes_eq (decimal n) (codes "-")) refl
  where
    by_test : (b : Bool) → bytes_eq (decimal n) (codes "-") ≡ b → b ≡ false
    by_test false e = refl
    by_test true e =
        let none : None ≡ Some n = ap number_in (sym (bytes_same (decimal n) (codes "-") e)) ∙ number_again n lt in absurd cc

optional_again : (o : Option ℕ) → OptionalFits o → optional_in (optional_word o) ≡ Some o
optional_again None fits = refl
optional_again (Some n) fits = rw (no_hyphen n fits, number_again n fits) refl

optional_takes : (w : List ℕ) (o : Option ℕ) → optional_in w ≡ Some o → OptionalFits o × (w ≡ optional_word o)
optional_takes w o e =
    elim (chosen_by (bytes_eq w (codes "-")) (Some None) (option_map (λ n. Some n) (number_in w)) o e) [
      | inl p ↦ let none : None ≡ o = cc in subst (λ (q : Option ℕ). OptionalFits q × (w ≡ optional_word q)) none (tt, bytes_same w (codes "-") p.0)
      | inr p ↦
          let m = map_some (λ n. Some n) (number_in w) o p.1 in
          let t = number_takes w m.0 m.1 in
          subst (λ (q : Option ℕ). OptionalFits q × (w ≡ optional_word q)) m.2 (t.1, t.0)
    ]

pub optional_form : {V : Type 0} (see : List ℕ → V) → IsForm see OptionalFits optional_words read_optional
optional_form {V} see = record { again = λ o rest fits. rw (optional_again o fits) refl; takes = takes }
  where
    takes : (ws : List (List ℕ)) (o : Option ℕ) (rest : List (List ℕ)) → read_optional ws ≡ Some (o, rest) → OptionalFits o × Stood see (optional_words o) ws rest
    takes [] o rest e = absurd cc
    takes (w ∷ ws) o rest e =
        let m = map_some (λ p. (p, ws)) (optional_in w) (o, rest) e in
        let t = optional_takes w m.0 m.1 in
        same_read (λ (p : Option ℕ) (r : List (List ℕ)). OptionalFits p × Stood see (optional_words p) (w ∷ ws) r) m.0 o ws rest (ap (λ (p : Option ℕ × List (List ℕ)). Some p) m.2)
        (t.0, stood-one see w (optional_word m.0) ws (ap see t.1))

pub optional_clean : (o : Option ℕ) → OptionalFits o → AllClean (optional_words o)
optional_clean None fits = (clean (codes "-") refl, tt)
optional_clean (Some n) fits = (number_clean n fits, tt)
