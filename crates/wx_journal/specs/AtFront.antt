-- Values one behind the other, with no count before them: as many as stand at the front.
use Rattle.std.specs.Prelude.{ℕ, zero, suc, Option, None, Some, List, [], ◌∷◌, length}
use Rattle.wx_words.specs.Combine.{Reader}

-- a value with those behind it, or none where none was read
abbrev pub with_more : {X : Type 0} → Option (X × List (List ℕ)) → List (List ℕ) → (List (List ℕ) → List X × List (List ℕ)) → List X × List (List ℕ)
with_more None ws more = ([], ws)
with_more (Some x) ws more = (x.0 ∷ (more x.1).0, (more x.1).1)

-- at most so many, and the words behind them
abbrev pub read_most : {X : Type 0} → Reader X → ℕ → List (List ℕ) → List X × List (List ℕ)
read_most read zero ws = ([], ws)
read_most read (suc most) ws = with_more (read ws) ws (λ rest. read_most read most rest)

-- there are no more values than words
abbrev pub read_front : {X : Type 0} → Reader X → List (List ℕ) → List X × List (List ℕ)
read_front read ws = read_most read (length ws) ws
