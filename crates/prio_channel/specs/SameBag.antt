-- Lists whose order counts for nothing.
use Rattle.std.specs.Prelude.{◌≡◌, ℕ, List, [], ◌∷◌, slice_get, remove, Some}

-- xs has the items of ys, in some order
abbrev pub SameBag : {X : Type 0} → List X → List X → Type 0
SameBag xs [] = xs ≡ []
SameBag xs (y ∷ ys) = (i : ℕ) × (slice_get xs i ≡ Some y) × SameBag (remove xs i) ys

-- x was taken out of the old items, and the new ones are the rest
abbrev pub Takes : {X : Type 0} → List X → X → List X → Type 0
Takes old x new = (i : ℕ) × (slice_get old i ≡ Some x) × SameBag new (remove old i)
