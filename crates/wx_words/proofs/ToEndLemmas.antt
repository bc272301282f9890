-- Values to the end of a line, one by one.
use Rattle.std.proofs.Common.{◌≡◌, ℕ, zero, suc, ◌<◌, ◌≤◌, Option, None, Some, List, [], ◌∷◌, ◌++◌, length, refl, sym, ap, ◌∙◌, append_assoc, length-append, arith}
use Rattle.std.proofs.lemmas.List.{append-nil, length-map}
use Rattle.wx_words.specs.Line.{◌>>=◌}
use Rattle.wx_words.specs.Spellings.{Kind, Spelling}
use Rattle.wx_words.specs.ToEnd.{HasWord, read_all, all_in}
use Rattle.wx_words.specs.ToEndLaws.{some_word}

pub shorter : {kind : Kind} {X : Type 0} (s : Spelling kind X) → HasWord s → (old ws : List (List ℕ)) (x : X) → s.read old ≡ Some (x, ws) → length ws < length old
shorter {kind} s some old ws x e =
    let stood = (s.form.takes old x ws e).1 in
    let same : length stood.front ≡ length (s.words x) = sym (length-map stood.front kind.see) ∙ ap (λ (v : List kind.Seen). length v) stood.same ∙ length-map (s.words x) kind.see in
    omega (arith, ap (λ (v : List (List ℕ)). length v) stood.parts, length-append stood.front ws, same, some_word (s.words x) (some x))

-- ---- more words than there are allow no more values

enough : {kind : Kind} {X : Type 0} (s : Spelling kind X) → HasWord s → (m n : ℕ) (ws : List (List ℕ)) → length ws ≤ m → length ws ≤ n → read_all s.read m ws ≡ read_all s.read n ws
enough s some zero zero [] p q = refl
enough s some zero (suc n) [] p q = refl
enough s some (suc m) zero [] p q = refl
enough s some (suc m) (suc n) [] p q = refl
enough s some zero n (w ∷ ws) p q = absurd (omega arith)
enough s some (suc m) zero (w ∷ ws) p q = absurd (omega arith)
enough {kind} {X} s some (suc m) (suc n) (w ∷ ws) p q = go (s.read (w ∷ ws)) refl (enough s some m n)
  where
    go : (o : Option (X × List (List ℕ))) → s.read (w ∷ ws) ≡ o → ((rest : List (List ℕ)) → length rest ≤ m → length rest ≤ n → read_all s.read m rest ≡ read_all s.read n rest)
        → (o >>= λ x. read_all s.read m x.1 >>= λ xs. Some (x.0 ∷ xs)) ≡ (o >>= λ x. read_all s.read n x.1 >>= λ xs. Some (x.0 ∷ xs))
    go None e same = refl
    go (Some (x, rest)) e same =
        let less = shorter s some (w ∷ ws) rest x e in
        ap (λ (xs : Option (List X)). xs >>= λ xs. Some (x ∷ xs)) (same rest (omega arith) (omega arith))

-- ---- the steps of the loop

-- values in front of what was read
abbrev pub with_front : {X : Type 0} → List X → Option (List X) → Option (List X)
with_front front None = None
with_front front (Some xs) = Some (front ++ xs)

regroup : {X : Type 0} (front : List X) (x : X) (read : Option (List X)) → with_front front (read >>= λ xs. Some (x ∷ xs)) ≡ with_front (front ++ x ∷ []) read
regroup front x None = refl
regroup front x (Some xs) = ap Some (sym (append_assoc front (x ∷ []) xs))

one_more : {kind : Kind} {X : Type 0} (s : Spelling kind X) → HasWord s → (x : X) (old ws : List (List ℕ)) → s.read old ≡ Some (x, ws) → all_in s.read old ≡ (all_in s.read ws >>= λ xs. Some (x ∷ xs))
one_more s some x [] ws found = let less = shorter s some [] ws x found in absurd (omega arith)
one_more {kind} {X} s some x (w ∷ old) ws found =
    let less = shorter s some (w ∷ old) ws x found in
    rw found (ap (λ (xs : Option (List X)). xs >>= λ xs. Some (x ∷ xs)) (enough s some (length old) (length ws) ws (omega arith) (omega arith)))

no_more : {kind : Kind} {X : Type 0} (s : Spelling kind X) (old : List (List ℕ)) → 0 < length old → s.read old ≡ None → all_in s.read old ≡ None
no_more s [] some found = absurd (omega arith)
no_more s (w ∷ old) some found = rw found refl

pub goes_on : {kind : Kind} {X : Type 0} (s : Spelling kind X) → HasWord s → (front : List X) (x : X) (old ws : List (List ℕ)) (total : Option (List X))
    → s.read old ≡ Some (x, ws) → with_front front (all_in s.read old) ≡ total → with_front (front ++ x ∷ []) (all_in s.read ws) ≡ total
goes_on s some front x old ws total found so_far =
    sym (regroup front x (all_in s.read ws)) ∙ sym (ap (with_front front) (one_more s some x old ws found)) ∙ so_far

pub stops : {kind : Kind} {X : Type 0} (s : Spelling kind X) (front : List X) (old : List (List ℕ)) (total : Option (List X)) → 0 < length old → s.read old ≡ None → with_front front (all_in s.read old) ≡ total → total ≡ None
stops s front old total some found so_far = sym so_far ∙ ap (with_front front) (no_more s old some found)

pub ends : {kind : Kind} {X : Type 0} (s : Spelling kind X) (front : List X) (old : List (List ℕ)) (total : Option (List X)) → length old ≡ 0 → with_front front (all_in s.read old) ≡ total → total ≡ Some front
ends s front [] total none so_far = sym so_far ∙ ap Some (append-nil front)
ends s front (w ∷ old) total none so_far = absurd (omega arith)
