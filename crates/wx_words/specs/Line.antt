-- A line as its words.
use Rattle.std.specs.Prelude.{◌≡◌, ℕ, ◌==◌, Option, None, Some, List, [], ◌∷◌, ◌++◌, drop}
use Rattle.std.specs.List.{slice_split}

-- the parts of a text round each byte of this value
abbrev pub parts : ℕ → List ℕ → List (List ℕ)
parts c bytes = slice_split (λ b. b == c) bytes

-- the words of a line, which stand between spaces
abbrev pub words_of : List ℕ → List (List ℕ)
words_of line = parts 32 line

-- each word with a space before it
abbrev pub spaced : List (List ℕ) → List ℕ
spaced [] = []
spaced (w ∷ ws) = 32 ∷ (w ++ spaced ws)

-- a text with these words behind it
unfoldable pub behind : List ℕ → List (List ℕ) → List ℕ
behind text ws = text ++ spaced ws

-- the words with one space between them
abbrev pub joined : List (List ℕ) → List ℕ
joined ws = drop 1 (spaced ws)

-- what a call answered and left is what reading gives
abbrev pub Taken : {X : Type 0} → List (List ℕ) → List (List ℕ) → Option X → Option (X × List (List ℕ)) → Type 0
Taken old new None read = (read ≡ None) × (new ≡ old)
Taken old new (Some x) read = read ≡ Some (x, new)

-- the same where a cursor may be lost with nothing read
abbrev pub Reads : {X : Type 0} → List (List ℕ) → Option X → Option (X × List (List ℕ)) → Type 0
Reads new None read = read ≡ None
Reads new (Some x) read = read ≡ Some (x, new)

-- the next step takes what this one gave, and is left out where that is nothing
infixl 10 ◌>>=◌
abbrev pub ◌>>=◌ : {A B : Type 0} → Option A → (A → Option B) → Option B
None >>= f = None
(Some x) >>= f = f x
