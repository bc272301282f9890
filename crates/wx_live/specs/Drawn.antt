-- What was drawn from a live outside.
use Rattle.std.specs.Prelude.{◌≡◌, ℕ, Option, None, Some, List, [], ◌∷◌}

-- Each where it is told: the ends that are left, in order; the answers when an end was asked for, the newest first; the moments that
-- were asked for, the newest first; and its folder.
pub record Drawn : Type 0 where
  pub left : Option (List ℕ)
  pub answers : Option (List (Option ℕ))
  pub moments : Option (List ℕ)
  pub folder : Option (List ℕ)

abbrev pub add : {X : Type 0} → X → Option (List X) → Option (List X)
add x None = None
add x (Some xs) = Some (x ∷ xs)

-- the ends that are left after such an answer
abbrev pub left_after : Option ℕ → Option (List ℕ) → Option (List ℕ)
left_after None left = left
left_after (Some child) None = None
left_after (Some child) (Some []) = Some []
left_after (Some child) (Some (c ∷ cs)) = Some cs

-- the answer is the first of the ends that are left, where they are told
abbrev pub IsFirst : Option ℕ → Option (List ℕ) → Type 0
IsFirst answer None = Unit {0}
IsFirst answer (Some []) = answer ≡ None
IsFirst answer (Some (c ∷ cs)) = answer ≡ Some c

-- no end is left, where they are told
abbrev pub NoneLeft : Option (List ℕ) → Type 0
NoneLeft None = Unit {0}
NoneLeft (Some []) = Unit {0}
NoneLeft (Some (c ∷ cs)) = ⊥

abbrev pub with_answer : Option ℕ → Drawn → Drawn
with_answer answer d = record d { left = left_after answer d.left; answers = add answer d.answers }

abbrev pub with_moment : ℕ → Drawn → Drawn
with_moment at d = record d { moments = add at d.moments }
