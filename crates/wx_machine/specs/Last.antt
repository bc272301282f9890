-- What is last.
use Rattle.std.specs.Prelude.{◌≡◌, Bool, false, if◌then◌else◌, List, [], ◌∷◌, ◌++◌, refl}

-- the last of these is such
abbrev pub last_is : {X : Type 0} → (X → Bool) → List X → Bool
last_is test [] = false
last_is test (x ∷ []) = test x
last_is test (x ∷ next ∷ xs) = last_is test (next ∷ xs)

-- these without the last one, where that is such
abbrev pub without_last : {X : Type 0} → (X → Bool) → List X → List X
without_last test [] = []
without_last test (x ∷ []) = if test x then [] else x ∷ []
without_last test (x ∷ next ∷ xs) = x ∷ without_last test (next ∷ xs)

-- what is added stands last
pub last_added : {X : Type 0} (test : X → Bool) (xs : List X) (x : X) → last_is test (xs ++ x ∷ []) ≡ test x
last_added test [] x = refl
last_added test (first ∷ []) x = refl
last_added test (first ∷ next ∷ xs) x = last_added test (next ∷ xs) x
