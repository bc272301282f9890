-- A choice by first words is a spelling, where a row makes each value of what it is spelled as, and spells what it makes.
use Rattle.std.proofs.Common.{◌≡◌, ℕ, Bool, true, false, cond, None, Some, List, [], ◌∷◌, ◌++◌, refl, sym, ap, subst, ◌∙◌}
use Rattle.std.specs.Str.{bytes_eq}
use Rattle.std.specs.List.{AllByRecursion}
use Rattle.std.proofs.lemmas.Bool.{and_parts}
use Rattle.wx_words.specs.LineLaws.{bytes_same}
use Rattle.wx_words.specs.OptionLaws.{bind_some}
use Rattle.wx_words.specs.Combine.{Reader, read_as}
use Rattle.wx_words.specs.CombineLaws.{row_again}
use Rattle.wx_words.specs.Forms.{Stood, IsForm}
use Rattle.wx_words.specs.FormLaws.{stood-one, stood-then, same_read}
use Rattle.wx_words.specs.Spellings.{Kind, Spelling}
use Rattle.wx_words.specs.Choices.{Row, row, read_at, read_choice, words_ok, Behind, fields, words_behind, fits_behind}

abbrev Words : Type 0
Words = List (List ℕ)

-- the row of a word
pub data Found (kind : Kind) (X : Type 0) : Type 1 where
  none : Found kind X
  found : Row kind X → Found kind X

abbrev pub here_or : {kind : Kind} {X : Type 0} → Bool → Row kind X → Found kind X → Found kind X
here_or true r later = found r
here_or false r later = later

abbrev pub row_of : {kind : Kind} {X : Type 0} → List (Row kind X) → List ℕ → Found kind X
row_of [] w = none
row_of (r ∷ rows) w = here_or (bytes_eq w r.word) r (row_of rows w)

abbrev read_found : {kind : Kind} {X : Type 0} → Found kind X → Reader X
read_found none ws = None
read_found (found r) ws = read_as r.make r.fields.read ws

abbrev ok_found : {kind : Kind} {X : Type 0} → Found kind X → Type 0
ok_found none = ⊥
ok_found {kind} (found r) = kind.Ok r.word

-- the row of the word that a value is spelled with makes the value again of what stands behind
abbrev pub Makes : {kind : Kind} {X : Type 0} → List (Row kind X) → List ℕ → Behind kind → X → Type 1
Makes {kind} {X} rows w (fields {A} s a) x = (make : A → X) × (row_of rows w ≡ found (row w s make)) × (make a ≡ x)

abbrev pub MadeAgain : {kind : Kind} {X : Type 0} → List (Row kind X) → (X → List ℕ) → (X → Behind kind) → Type 1
MadeAgain {kind} {X} rows word rest = (x : X) → Makes rows (word x) (rest x) x

-- what a row makes is spelled by that row
abbrev pub IsRow : {kind : Kind} {X : Type 0} → (X → List ℕ) → (X → Behind kind) → Row kind X → Type 1
IsRow {kind} word rest r = (a : r.Fields) → ◌≡◌ {A = List ℕ × Behind kind} (word (r.make a), rest (r.make a)) (r.word, fields r.fields a)

abbrev pub SpeltSo : {kind : Kind} {X : Type 0} → List (Row kind X) → (X → List ℕ) → (X → Behind kind) → Type 1
SpeltSo [] word rest = Unit {1}
SpeltSo (r ∷ rows) word rest = IsRow word rest r × SpeltSo rows word rest

-- ---- what is spelled is read again

reads_by : {kind : Kind} {X : Type 0} (rows : List (Row kind X)) (w : List ℕ) (r : Row kind X) (ws : Words) → row_of rows w ≡ found r → read_at rows w ws ≡ read_as r.make r.fields.read ws
reads_by [] w r ws e = absurd cc
reads_by {kind} {X} (q ∷ rows) w r ws e = by_test (bytes_eq w q.word) e (reads_by rows w r ws)
  where
    by_test : (b : Bool) → here_or b q (row_of rows w) ≡ found r → (row_of rows w ≡ found r → read_at rows w ws ≡ read_as r.make r.fields.read ws)
        → cond b (read_as q.make q.fields.read ws) (read_at rows w ws) ≡ read_as r.make r.fields.read ws
    by_test true e later = ap (λ (o : Found kind X). read_found o ws) e
    by_test false e later = later e

again_by : {kind : Kind} {X : Type 0} (rows : List (Row kind X)) (w : List ℕ) (s : Behind kind) (x : X) (rest : Words) → Makes rows w s x → fits_behind s → read_choice rows (w ∷ words_behind s ++ rest) ≡ Some (x, rest)
again_by {kind} {X} rows w (fields s a) x rest m fits = reads_by rows w (row w s m.0) (s.words a ++ rest) m.1 ∙ row_again s.form m.0 a rest fits ∙ ap (λ (y : X). Some (y, rest)) m.2

-- ---- what is read was spelled

row_takes : {kind : Kind} {X : Type 0} (word : X → List ℕ) (behind : X → Behind kind) (r : Row kind X) → IsRow word behind r
    → (ws : Words) (x : X) (rest : Words) → read_as r.make r.fields.read ws ≡ Some (x, rest) → fits_behind (behind x) × Stood kind.see (word x ∷ words_behind (behind x)) (r.word ∷ ws) rest
row_takes {kind} {X} word behind r is ws x rest e =
    let a = bind_some (r.fields.read ws) (λ b. Some (r.make b.0, b.1)) (x, rest) e in
    let t = r.fields.form.takes ws a.0.0 a.0.1 a.1 in
    same_read (λ (y : X) (more : Words). fits_behind (behind y) × Stood kind.see (word y ∷ words_behind (behind y)) (r.word ∷ ws) more) (r.make a.0.0) x a.0.1 rest a.2
    (subst (λ (p : List ℕ × Behind kind). fits_behind p.1 × Stood kind.see (p.0 ∷ words_behind p.1) (r.word ∷ ws) a.0.1) (sym (is a.0.0))
    (t.0, stood-then kind.see (r.word ∷ []) (r.fields.words a.0.0) (r.word ∷ ws) ws a.0.1 (stood-one kind.see r.word r.word ws refl) t.1))

abbrev Told : {kind : Kind} {X : Type 0} → (X → List ℕ) → (X → Behind kind) → Words → X → Words → Type 0
Told {kind} word behind ws x rest = fits_behind (behind x) × Stood kind.see (word x ∷ words_behind (behind x)) ws rest

takes_at : {kind : Kind} {X : Type 0} (word : X → List ℕ) (behind : X → Behind kind) (rows : List (Row kind X)) → SpeltSo rows word behind
    → (w : List ℕ) (ws : Words) (x : X) (rest : Words) → read_at rows w ws ≡ Some (x, rest) → Told word behind (w ∷ ws) x rest
takes_at word behind [] all w ws x rest e = absurd cc
takes_at {kind} {X} word behind (r ∷ rows) all w ws x rest e =
    by_test (bytes_eq w r.word) refl e (takes_at word behind rows all.1 w ws x rest)
  where
    by_test : (b : Bool) → bytes_eq w r.word ≡ b → cond b (read_as r.make r.fields.read ws) (read_at rows w ws) ≡ Some (x, rest) → (read_at rows w ws ≡ Some (x, rest) → Told word behind (w ∷ ws) x rest) → Told word behind (w ∷ ws) x rest
    by_test true t e later = subst (λ (v : List ℕ). Told word behind (v ∷ ws) x rest) (sym (bytes_same w r.word t)) (row_takes word behind r all.0 ws x rest e)
    by_test false t e later = later e

-- ---- the words are good ones

row_ok : {kind : Kind} {X : Type 0} (rows : List (Row kind X)) (w : List ℕ) (r : Row kind X) → words_ok rows ≡ true → row_of rows w ≡ found r → kind.Ok r.word
row_ok [] w r good e = absurd cc
row_ok {kind} {X} (q ∷ rows) w r good e = let h = and_parts (kind.test q.word) (words_ok rows) good in by_test h.0 (bytes_eq w q.word) e (row_ok rows w r h.1)
  where
    by_test : kind.test q.word ≡ true → (b : Bool) → here_or b q (row_of rows w) ≡ found r → (row_of rows w ≡ found r → kind.Ok r.word) → kind.Ok r.word
    by_test good true e later = subst ok_found e (kind.tested q.word good)
    by_test good false e later = later e

clean_by : {kind : Kind} {X : Type 0} (rows : List (Row kind X)) (w : List ℕ) (s : Behind kind) (x : X) → words_ok rows ≡ true → Makes rows w s x → fits_behind s → AllByRecursion kind.Ok (w ∷ words_behind s)
clean_by rows w (fields s a) x good m fits = (row_ok rows w (row w s m.0) good m.1, s.clean a fits)

pub choice_form : {kind : Kind} {X : Type 0} (rows : List (Row kind X)) (word : X → List ℕ) (behind : X → Behind kind) → MadeAgain rows word behind → SpeltSo rows word behind
    → IsForm kind.see (λ x. fits_behind (behind x)) (λ x. word x ∷ words_behind (behind x)) (read_choice rows)
choice_form {kind} {X} rows word behind made so = record { again = λ x rest fits. again_by rows (word x) (behind x) x rest (made x) fits; takes = takes }
  where
    takes : (ws : Words) (x : X) (rest : Words) → read_choice rows ws ≡ Some (x, rest) → fits_behind (behind x) × Stood kind.see (word x ∷ words_behind (behind x)) ws rest
    takes [] x rest e = absurd cc
    takes (w ∷ ws) x rest e = takes_at word behind rows so w ws x rest e

pub choice_clean : {kind : Kind} {X : Type 0} (rows : List (Row kind X)) (word : X → List ℕ) (behind : X → Behind kind) → MadeAgain rows word behind → words_ok rows ≡ true → (x : X) → fits_behind (behind x) → AllByRecursion kind.Ok (word x ∷ words_behind (behind x))
choice_clean rows word behind made good x fits = clean_by rows (word x) (behind x) x good (made x) fits

-- never no words
pub some_words : (w : List ℕ) (ws : Words) → w ∷ ws ≡ [] → ⊥
some_words w ws e = absurd cc

-- the rows of a type, the first word of each value and what stands behind it, the two laws, and that the first words are good ones
abbrev pub choice : {kind : Kind} {X : Type 0} (rows : List (Row kind X)) (word : X → List ℕ) (behind : X → Behind kind) → MadeAgain rows word behind → SpeltSo rows word behind → words_ok rows ≡ true → Spelling kind X
choice rows word behind made so good = record {
  fits = λ x. fits_behind (behind x);
  words = λ x. word x ∷ words_behind (behind x);
  read = read_choice rows;
  form = choice_form rows word behind made so;
  clean = choice_clean rows word behind made good;
}
