-- What was read of a word so far, and what is still to be read.
use Rattle.std.proofs.Common.{◌≡◌, ℕ, Option, None, Some, List, [], ◌∷◌, ◌++◌, refl, ap, append_assoc}
use Rattle.wx_words.specs.Texts.{onto}

-- a text in front of a text, where there is one
abbrev pub behind : List ℕ → Option (List ℕ) → Option (List ℕ)
behind front None = None
behind front (Some t) = Some (front ++ t)

pub behind_more : (front : List ℕ) (b : ℕ) (o : Option (List ℕ)) → behind (front ++ b ∷ []) o ≡ behind front (onto b o)
behind_more front b None = refl
behind_more front b (Some t) = ap (λ (x : List ℕ). Some x) (append_assoc front (b ∷ []) t)
