-- What a failed write and a whole reading say of the bytes.
use Rattle.std.specs.Prelude.{ℕ, ◌≡◌, ◌<◌, List, ◌++◌, length, take, Option, None, Some, ⊤}

-- where the bytes are known, a part of due was added, from its front, and not all of it
abbrev pub AddsFront : Option (List ℕ) → Option (List ℕ) → List ℕ → Type 0
AddsFront None new due = ⊤
AddsFront (Some xs) None due = ⊥
AddsFront (Some xs) (Some ys) due = (n : ℕ) × (n < length due) × (ys ≡ xs ++ take n due)

-- where the bytes are known, they are this text, and no more
abbrev pub IsWhole : Option (List ℕ) → List ℕ → Type 0
IsWhole None text = ⊤
IsWhole (Some xs) text = xs ≡ text

-- where the bytes are known, they are more than limit
abbrev pub IsLonger : Option (List ℕ) → ℕ → Type 0
IsLonger None limit = ⊤
IsLonger (Some xs) limit = limit < length xs
