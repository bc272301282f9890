-- One part more behind those that are joined.
use Rattle.std.proofs.Common.{◌≡◌, ℕ, ◌+◌, ◌<◌, List, [], ◌∷◌, ◌++◌, length, take, get_or, refl, sym, ap, ◌∙◌, append_assoc, arith, rules}
use Rattle.std.specs.List.{join_with_byte}
use Rattle.std.proofs.lemmas.List.{take_more}

pub join-push : (c : ℕ) (x : List ℕ) (xs : List (List ℕ)) (y : List ℕ) → join_with_byte c ((x ∷ xs) ++ y ∷ []) ≡ join_with_byte c (x ∷ xs) ++ c ∷ y
join-push c x [] y = refl
join-push c x (z ∷ zs) y = ap (λ (v : List ℕ). x ++ c ∷ v) (join-push c z zs y) ∙ sym (append_assoc x (c ∷ join_with_byte c (z ∷ zs)) (c ∷ y))

pub join-push_any : (c : ℕ) (xs : List (List ℕ)) (y : List ℕ) → 0 < length xs → join_with_byte c (xs ++ y ∷ []) ≡ join_with_byte c xs ++ c ∷ y
join-push_any c [] y lt = absurd (omega (arith, lt))
join-push_any c (x ∷ xs) y lt = join-push c x xs y

pub join_first : (c : ℕ) (parts : List (List ℕ)) (y : List ℕ) → 0 < length parts → y ≡ get_or parts 0 y → join_with_byte c (take 1 parts) ≡ y
join_first c [] y lt e = absurd (omega (arith, lt))
join_first c (x ∷ xs) y lt e = sym e

pub join_more : (c : ℕ) (parts : List (List ℕ)) (i : ℕ) (y : List ℕ) → 0 < i → i < length parts → y ≡ get_or parts i y → join_with_byte c (take (i + 1) parts) ≡ join_with_byte c (take i parts) ++ c ∷ y
join_more c parts i y some lt e =
    let more : take (i + 1) parts ≡ take i parts ++ y ∷ [] = take_more parts i y lt ∙ ap (λ (v : List ℕ). take i parts ++ v ∷ []) (sym e) in
    ap (join_with_byte c) more ∙ join-push_any c (take i parts) y (search rules)
