-- The last item of a list.
use Rattle.std.proofs.Common.{◌≡◌, ℕ, zero, suc, List, [], ◌∷◌, length, get_or, refl, arith}
use Rattle.wx_patterns.specs.Lists.{last_or}

last_at : {X : Type 0} (x : X) (xs : List X) (n : ℕ) (d : X) → length xs ≡ n → last_or x xs ≡ get_or (x ∷ xs) n d
last_at x [] zero d e = refl
last_at x [] (suc n) d e = absurd (omega (arith, e))
last_at x (y ∷ xs) zero d e = absurd (omega (arith, e))
last_at x (y ∷ xs) (suc n) d e = last_at y xs n d (omega (arith, e))

pub last_or-at : {X : Type 0} (other : X) (xs : List X) (n : ℕ) (d : X) → length xs ≡ suc n → last_or other xs ≡ get_or xs n d
last_or-at other [] n d e = absurd (omega (arith, e))
last_or-at other (x ∷ xs) n d e = last_at x xs n d (omega (arith, e))
