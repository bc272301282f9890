-- Values to the end of a line, with no count before them.
use Rattle.std.specs.Prelude.{◌≡◌, ℕ, zero, suc, Option, None, Some, List, [], ◌∷◌, length}
use Rattle.wx_words.specs.Line.{◌>>=◌}
use Rattle.wx_words.specs.Combine.{Reader}
use Rattle.wx_words.specs.Spellings.{Kind, Spelling}

-- each value has a word at least
abbrev pub HasWord : {kind : Kind} {X : Type 0} → Spelling kind X → Type 0
HasWord {kind} {X} s = (x : X) → s.words x ≡ [] → ⊥

-- all values to the end of the line, at most so many
abbrev pub read_all : {X : Type 0} → Reader X → ℕ → List (List ℕ) → Option (List X)
read_all read most [] = Some []
read_all read zero (w ∷ ws) = None
read_all read (suc most) (w ∷ ws) = do
  x ← read (w ∷ ws)
  xs ← read_all read most x.1
  Some (x.0 ∷ xs)

-- there are no more values than words
abbrev pub all_in : {X : Type 0} → Reader X → List (List ℕ) → Option (List X)
all_in read ws = read_all read (length ws) ws

abbrev pub read_to_end : {X : Type 0} → Reader X → Reader (List X)
read_to_end read ws = all_in read ws >>= λ xs. Some (xs, [])
