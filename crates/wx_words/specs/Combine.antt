-- Forms made of forms: one behind the other, and one for each first word.
use Rattle.std.specs.Prelude.{ℕ, ◌==◌, length, nat_lt, if◌then◌else◌, Option, None, Some, option_map, List, [], ◌∷◌, ◌++◌}
use Rattle.std.specs.Str.{bytes_eq}
use Rattle.wx_words.specs.Line.{◌>>=◌}

abbrev pub Reader : Type 0 → Type 0
Reader X = List (List ℕ) → Option (X × List (List ℕ))

-- the value that the word at the front spells
abbrev pub read_word_by : {X : Type 0} → (List ℕ → Option X) → Reader X
read_word_by spelled [] = None
read_word_by spelled (w ∷ ws) = option_map (λ x. (x, ws)) (spelled w)

-- what was read to the end
abbrev pub whole : {X : Type 0} → Option (X × List (List ℕ)) → Option X
whole None = None
whole (Some x) = if length x.1 == 0 then Some x.0 else None

-- two values, one behind the other
abbrev pub pair_words : {A B : Type 0} → (A → List (List ℕ)) → (B → List (List ℕ)) → A × B → List (List ℕ)
pair_words first second p = first p.0 ++ second p.1

abbrev pub read_pair : {A B : Type 0} → Reader A → Reader B → Reader (A × B)
read_pair first second ws = do
  a ← first ws
  b ← second a.1
  Some ((a.0, b.0), b.1)

-- the same under another name
abbrev pub read_as : {A X : Type 0} → (A → X) → Reader A → Reader X
read_as make read ws = do
  a ← read ws
  Some (make a.0, a.1)

-- the same where not every value has another name
abbrev pub read_some : {A X : Type 0} → (A → Option X) → Reader A → Reader X
read_some make read ws = do
  a ← read ws
  x ← make a.0
  Some (x, a.1)

-- a number below a limit
abbrev pub read_below : ℕ → Reader ℕ → Reader ℕ
read_below limit read ws = do
  n ← read ws
  if nat_lt n.0 limit then Some n else None

-- nothing
abbrev pub read_nothing : Reader (Unit {0})
read_nothing ws = Some (tt, ws)

-- what can't be read
abbrev pub read_never : {X : Type 0} → Reader X
read_never ws = None

-- what the first word calls for
abbrev pub row_at : {X : Type 0} → List (List ℕ × Reader X) → List ℕ → Reader X
row_at [] w ws = None
row_at (row ∷ rows) w ws = if bytes_eq w row.0 then row.1 ws else row_at rows w ws

abbrev pub read_rows : {X : Type 0} → List (List ℕ × Reader X) → Reader X
read_rows rows [] = None
read_rows rows (w ∷ ws) = row_at rows w ws

-- this word
abbrev pub read_literal : List ℕ → Reader (Unit {0})
read_literal v [] = None
read_literal v (w ∷ ws) = if bytes_eq w v then Some (tt, ws) else None
