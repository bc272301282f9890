-- Words on lists.
use Rattle.std.specs.Prelude.{Bool, true, false, ◌&&◌, ◌||◌, List, [], ◌∷◌}

abbrev pub is_empty : {X : Type 0} → List X → Bool
is_empty [] = true
is_empty (x ∷ xs) = false

-- the last item, or this one where there is none
abbrev pub last_or : {X : Type 0} → X → List X → X
last_or other [] = other
last_or other (x ∷ xs) = last_or x xs

-- it holds of some suffix of the list, the list itself among them
abbrev pub some_suffix : {X : Type 0} → (List X → Bool) → List X → Bool
some_suffix holds [] = holds []
some_suffix holds (x ∷ xs) = holds (x ∷ xs) || some_suffix holds xs

-- it holds of some front of the list that isn't empty
abbrev pub some_front : {X : Type 0} → (List X → Bool) → List X → Bool
some_front holds [] = false
some_front holds (x ∷ xs) = holds (x ∷ []) || some_front (λ front. holds (x ∷ front)) xs

-- there is a first item that fits, and it holds of the others
abbrev pub first_fits : {X : Type 0} → (X → Bool) → (List X → Bool) → List X → Bool
first_fits fits holds [] = false
first_fits fits holds (x ∷ xs) = fits x && holds xs
