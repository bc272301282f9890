-- What is in a list.
use Rattle.std.specs.Prelude.{◌≡◌, ◌⊎◌, List, [], ◌∷◌}

-- x is an item of the list
abbrev pub In : {X : Type 0} → X → List X → Type 0
In x [] = ⊥
In x (y ∷ ys) = (y ≡ x) ⊎ In x ys

-- no item of the list comes again
abbrev pub AllOnce : {X : Type 0} → List X → Type 0
AllOnce [] = Unit {0}
AllOnce (x ∷ xs) = (In x xs → ⊥) × AllOnce xs
