-- A value that may be absent, as words: the word `none` where it is absent.
use Rattle.std.proofs.Common.{◌≡◌, ℕ, ◌++◌, refl, Option, None, Some, List, [], ◌∷◌, inl, inr}
use Rattle.std.specs.Prelude.{codes}
use Rattle.std.specs.Option.{option_or}
use Rattle.std.specs.List.{AllByRecursion}
use Rattle.wx_words.specs.Combine.{Reader, read_as, read_literal}
use Rattle.wx_words.specs.CombineLaws.{literal_form}
use Rattle.wx_words.specs.CleanLaws.{clean}
use Rattle.wx_words.specs.Forms.{Stood, IsForm}
use Rattle.wx_words.specs.FormLaws.{same_read}
use Rattle.wx_words.specs.OptionLaws.{bind_some, first_or}
use Rattle.wx_words.specs.Parts.{line}
use Rattle.wx_words.specs.Spellings.{Spelling}

abbrev pub OrNoneFits : {A : Type 0} → Spelling line A → Option A → Type 0
OrNoneFits s None = Unit {0}
OrNoneFits s (Some x) = s.fits x

abbrev pub or_none_words : {A : Type 0} → Spelling line A → Option A → List (List ℕ)
or_none_words s None = codes "none" ∷ []
or_none_words s (Some x) = s.words x

abbrev pub read_none : {A : Type 0} → Reader (Option A)
read_none ws = read_as (λ u. None) (read_literal (codes "none")) ws

-- none, or else the value
abbrev pub read_or_none : {A : Type 0} → Spelling line A → Reader (Option A)
read_or_none s ws = option_or (read_none ws) (read_as Some s.read ws)

-- the words of a value never begin with `none`
abbrev pub IsNeverNone : {A : Type 0} → Spelling line A → Type 0
IsNeverNone {A} s = (x : A) (rest : List (List ℕ)) → read_literal (codes "none") (s.words x ++ rest) ≡ None

pub or_none_form : {A : Type 0} (s : Spelling line A) → IsNeverNone s → IsForm line.see (OrNoneFits s) (or_none_words s) (read_or_none s)
or_none_form {A} s never = record { again = again; takes = takes }
  where
    again : (x : Option A) (rest : List (List ℕ)) → OrNoneFits s x → read_or_none s (or_none_words s x ++ rest) ≡ Some (x, rest)
    again None rest fits = refl
    again (Some x) rest fits = rw (never x rest, s.form.again x rest fits) refl

    takes : (ws : List (List ℕ)) (x : Option A) (rest : List (List ℕ)) → read_or_none s ws ≡ Some (x, rest) → OrNoneFits s x × Stood line.see (or_none_words s x) ws rest
    takes ws x rest e =
        elim (first_or (read_none ws) (read_as Some s.read ws) (x, rest) e) [
          | inl p ↦
              let a = bind_some (read_literal (codes "none") ws) (λ b. Some (None, b.1)) (x, rest) p in
              same_read (λ (y : Option A) (r : List (List ℕ)). OrNoneFits s y × Stood line.see (or_none_words s y) ws r) None x a.0.1 rest a.2 ((literal_form line.see (codes "none")).takes ws a.0.0 a.0.1 a.1)
          | inr p ↦
              let a = bind_some (s.read ws) (λ b. Some (Some b.0, b.1)) (x, rest) p in
              same_read (λ (y : Option A) (r : List (List ℕ)). OrNoneFits s y × Stood line.see (or_none_words s y) ws r) (Some a.0.0) x a.0.1 rest a.2 (s.form.takes ws a.0.0 a.0.1 a.1)
        ]

pub or_none_clean : {A : Type 0} (s : Spelling line A) (x : Option A) → OrNoneFits s x → AllByRecursion line.Ok (or_none_words s x)
or_none_clean s None fits = (clean (codes "none") refl, tt)
or_none_clean s (Some x) fits = s.clean x fits

abbrev pub or_none : {A : Type 0} (s : Spelling line A) → IsNeverNone s → Spelling line (Option A)
or_none s never = record { fits = OrNoneFits s; words = or_none_words s; read = read_or_none s; form = or_none_form s never; clean = or_none_clean s }
