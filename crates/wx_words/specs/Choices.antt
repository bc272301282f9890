-- Values that are told apart by their first word: a row for each first word, with the spelling of what stands behind it.
use Rattle.std.specs.Prelude.{ℕ, Bool, true, ◌&&◌, if◌then◌else◌, None, List, [], ◌∷◌}
use Rattle.std.specs.Str.{bytes_eq}
use Rattle.wx_words.specs.Combine.{Reader, read_as}
use Rattle.wx_words.specs.Spellings.{Kind, Spelling}

-- a first word, the spelling of what stands behind it, and the value that these make
pub record Row (kind : Kind) (X : Type 0) : Type 1 where
  pub word : List ℕ
  pub Fields : Type 0
  pub fields : Spelling kind Fields
  pub make : Fields → X

abbrev pub row : {kind : Kind} {A X : Type 0} → List ℕ → Spelling kind A → (A → X) → Row kind X
row {kind} {A} word fields make = record { word = word; Fields = A; fields = fields; make = make }

-- the value at the front
abbrev pub read_at : {kind : Kind} {X : Type 0} → List (Row kind X) → List ℕ → Reader X
read_at [] w ws = None
read_at (r ∷ rows) w ws = if bytes_eq w r.word then read_as r.make r.fields.read ws else read_at rows w ws

abbrev pub read_choice : {kind : Kind} {X : Type 0} → List (Row kind X) → Reader X
read_choice rows [] = None
read_choice rows (w ∷ ws) = read_at rows w ws

-- every first word passes the test of its kind
abbrev pub words_ok : {kind : Kind} {X : Type 0} → List (Row kind X) → Bool
words_ok [] = true
words_ok {kind} (r ∷ rows) = kind.test r.word && words_ok rows

-- what stands behind the first word of a value
pub data Behind (kind : Kind) : Type 1 where
  fields : {A : Type 0} → Spelling kind A → A → Behind kind

abbrev pub words_behind : {kind : Kind} → Behind kind → List (List ℕ)
words_behind (fields s a) = s.words a

abbrev pub fits_behind : {kind : Kind} → Behind kind → Type 0
fits_behind (fields s a) = s.fits a
