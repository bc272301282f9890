-- A value or an error as words: the words of an error are never those of a value.
use Rattle.std.proofs.Common.{◌≡◌, ℕ, ◌++◌, refl, Option, None, Some, Result, Ok, Err, List, inl, inr}
use Rattle.std.specs.Option.{option_or}
use Rattle.std.specs.List.{AllByRecursion}
use Rattle.wx_words.specs.Combine.{Reader, read_as}
use Rattle.wx_words.specs.Forms.{Stood, IsForm}
use Rattle.wx_words.specs.FormLaws.{same_read}
use Rattle.wx_words.specs.OptionLaws.{bind_some, first_or}
use Rattle.wx_words.specs.Spellings.{Kind, Spelling}

abbrev pub ResultFits : {kind : Kind} {A E : Type 0} → Spelling kind A → Spelling kind E → Result A E → Type 0
ResultFits s t (Ok x) = s.fits x
ResultFits s t (Err e) = t.fits e

abbrev pub result_words : {kind : Kind} {A E : Type 0} → Spelling kind A → Spelling kind E → Result A E → List (List ℕ)
result_words s t (Ok x) = s.words x
result_words s t (Err e) = t.words e

-- the value, or else the error
abbrev pub read_result : {kind : Kind} {A E : Type 0} → Spelling kind A → Spelling kind E → Reader (Result A E)
read_result s t ws = option_or (read_as Ok s.read ws) (read_as Err t.read ws)

abbrev pub AreApart : {kind : Kind} {A E : Type 0} → Spelling kind A → Spelling kind E → Type 0
AreApart {kind} {A} {E} s t = (e : E) (rest : List (List ℕ)) → s.read (t.words e ++ rest) ≡ None

pub result_form : {kind : Kind} {A E : Type 0} (s : Spelling kind A) (t : Spelling kind E) → AreApart s t → IsForm kind.see (ResultFits s t) (result_words s t) (read_result s t)
result_form {kind} {A} {E} s t apart = record { again = again; takes = takes }
  where
    again : (x : Result A E) (rest : List (List ℕ)) → ResultFits s t x → read_result s t (result_words s t x ++ rest) ≡ Some (x, rest)
    again (Ok x) rest fits = rw (s.form.again x rest fits) refl
    again (Err e) rest fits = rw (apart e rest, t.form.again e rest fits) refl

    takes : (ws : List (List ℕ)) (x : Result A E) (rest : List (List ℕ)) → read_result s t ws ≡ Some (x, rest) → ResultFits s t x × Stood kind.see (result_words s t x) ws rest
    takes ws x rest e =
        elim (first_or (read_as Ok s.read ws) (read_as Err t.read ws) (x, rest) e) [
          | inl p ↦
              let a = bind_some (s.read ws) (λ b. Some (Ok b.0, b.1)) (x, rest) p in
              same_read (λ (y : Result A E) (r : List (List ℕ)). ResultFits s t y × Stood kind.see (result_words s t y) ws r) (Ok a.0.0) x a.0.1 rest a.2 (s.form.takes ws a.0.0 a.0.1 a.1)
          | inr p ↦
              let a = bind_some (t.read ws) (λ b. Some (Err b.0, b.1)) (x, rest) p in
              same_read (λ (y : Result A E) (r : List (List ℕ)). ResultFits s t y × Stood kind.see (result_words s t y) ws r) (Err a.0.0) x a.0.1 rest a.2 (t.form.takes ws a.0.0 a.0.1 a.1)
        ]

pub result_clean : {kind : Kind} {A E : Type 0} (s : Spelling kind A) (t : Spelling kind E) (x : Result A E) → ResultFits s t x → AllByRecursion kind.Ok (result_words s t x)
result_clean s t (Ok x) fits = s.clean x fits
result_clean s t (Err e) fits = t.clean e fits

abbrev pub result_of : {kind : Kind} {A E : Type 0} (s : Spelling kind A) (t : Spelling kind E) → AreApart s t → Spelling kind (Result A E)
result_of s t apart = record { fits = ResultFits s t; words = result_words s t; read = read_result s t; form = result_form s t apart; clean = result_clean s t }
