-- The id of a process that may not be known, as a word: a number below 2 ^ 32, or a hyphen.
use Rattle.std.proofs.Common.{◌≡◌, ℕ, ◌^◌, ◌<◌, Bool, true, false, cond, Option, None, Some, List, ◌++◌, refl, lt-ltb, arith}
use Rattle.std.specs.Prelude.{nat_lt, if◌then◌else◌}
use Rattle.std.proofs.lemmas.Bool.{ltb-true}
use Rattle.wx_words.specs.Clean.{AllClean}
use Rattle.wx_words.specs.Combine.{Reader}
use Rattle.wx_words.specs.Forms.{Stood, IsForm}
use Rattle.wx_words.specs.FormLaws.{same_read}
use Rattle.wx_words.specs.Line.{◌>>=◌}
use Rattle.wx_words.specs.OptionLaws.{bind_some, guarded}
use Rattle.wx_words.specs.Optional.{OptionalFits, optional_words, read_optional}
use Rattle.wx_words.specs.Parts.{line, optional}
use Rattle.wx_words.specs.Spellings.{Spelling}

abbrev pub ProcessFits : Option ℕ → Type 0
ProcessFits None = Unit {0}
ProcessFits (Some id) = id < 2 ^ 32

abbrev pub is_process : Option ℕ → Bool
is_process None = true
is_process (Some id) = nat_lt id (2 ^ 32)

-- a number that may be absent, and is below 2 ^ 32 where it isn't
abbrev pub read_process : Reader (Option ℕ)
read_process ws = do
  id ← read_optional ws
  if is_process id.0 then Some id else None

pub process_is_number : (id : Option ℕ) → ProcessFits id → OptionalFits id
process_is_number None fits = tt
process_is_number (Some id) fits = omega arith

pub process_passes : (id : Option ℕ) → ProcessFits id → is_process id ≡ true
process_passes None fits = refl
process_passes (Some id) fits = lt-ltb id (2 ^ 32) fits

pub passed_fits : (id : Option ℕ) → is_process id ≡ true → ProcessFits id
passed_fits None e = tt
passed_fits (Some id) e = ltb-true _ _ e

pub process_form : IsForm line.see ProcessFits optional_words read_process
process_form = record { again = again; takes = takes }
  where
    again : (id : Option ℕ) (rest : List (List ℕ)) → ProcessFits id → read_process (optional_words id ++ rest) ≡ Some (id, rest)
    again id rest fits = rw (optional.form.again id rest (process_is_number id fits), process_passes id fits) refl

    takes : (ws : List (List ℕ)) (id : Option ℕ) (rest : List (List ℕ)) → read_process ws ≡ Some (id, rest) → ProcessFits id × Stood line.see (optional_words id) ws rest
    takes ws id rest e =
        let a = bind_some (read_optional ws) (λ m. cond (is_process m.0) (Some m) None) (id, rest) e in
        let g = guarded (is_process a.0.0) (Some a.0) (id, rest) a.2 in
        let t = optional.form.takes ws a.0.0 a.0.1 a.1 in
        same_read (λ (m : Option ℕ) (r : List (List ℕ)). ProcessFits m × Stood line.see (optional_words m) ws r) a.0.0 id a.0.1 rest g.1
        (passed_fits a.0.0 g.0, t.1)

abbrev pub process : Spelling line (Option ℕ)
process = record { fits = ProcessFits; words = optional_words; read = read_process; form = process_form; clean = λ id fits. optional.clean id (process_is_number id fits) }
