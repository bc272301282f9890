use Rattle.std.proofs.Common.{◌≡◌, ℕ, ◌+◌, ◌-◌, ◌≤◌, List, ◌++◌, length, take, drop, sym, ap, subst, ◌∙◌, arith, length-take, length-drop}
use Rattle.std.proofs.lemmas.List.{take-append-le, take_all, take-append-drop, drop-drop}

-- the bytes after the position are those that were read of them, and those after these
pub read_part : (xs got rest : List ℕ) (p n : ℕ) → n ≤ length xs - p → got ≡ take n (take (length xs - p) (drop p xs)) → drop p xs ≡ take n (got ++ rest) ++ drop (p + n) xs
read_part xs got rest p n fits is =
    let whole : take (length xs - p) (drop p xs) ≡ drop p xs = take_all (length xs - p) (drop p xs) (omega (arith, length-drop p xs)) in
    let same : got ≡ take n (drop p xs) = is ∙ ap (λ (t : List ℕ). take n t) whole in
    let front : take n (take n (drop p xs) ++ rest) ≡ take n (drop p xs) =
    take-append-le n (take n (drop p xs)) rest (omega (arith, length-take {A = ℕ}, length-drop {A = ℕ})) ∙ take_all n (take n (drop p xs)) (omega (arith, length-take {A = ℕ})) in
    let all : drop p xs ≡ take n (take n (drop p xs) ++ rest) ++ drop (p + n) xs =
    sym (ap (λ (t : List ℕ). t ++ drop (p + n) xs) front ∙ ap (λ (t : List ℕ). take n (drop p xs) ++ t) (sym (drop-drop n p xs)) ∙ take-append-drop n (drop p xs)) in
    subst (λ (t : List ℕ). drop p xs ≡ take n (t ++ rest) ++ drop (p + n) xs) (sym same) all
