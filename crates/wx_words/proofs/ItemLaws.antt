use Rattle.std.proofs.Common.{◌≡◌, ℕ, suc, ◌+◌, ◌-◌, ◌<◌, ◌≤◌, Option, None, Some, List, [], ◌∷◌, ◌++◌, length, take, get_or, refl, sym, ap, ◌∙◌, append_assoc, arith}
use Rattle.std.specs.List.{flat_map}
use Rattle.std.proofs.lemmas.List.{append-nil, take_more}
use Rattle.std.proofs.lemmas.List.Concat.{flat_map-append}
use Rattle.wx_words.specs.Line.{◌>>=◌, spaced}
use Rattle.wx_words.specs.LineLaws.{spaced-append}
use Rattle.wx_words.specs.Lists.{read_items}

-- items in front of what was read
abbrev pub with_front : {X : Type 0} → List X → Option (List X × List (List ℕ)) → Option (List X × List (List ℕ))
with_front front None = None
with_front front (Some x) = Some (front ++ x.0, x.1)

-- one more item is written
pub put_more : {X : Type 0} (words : X → List (List ℕ)) (old : List ℕ) (xs : List X) (i : ℕ) (x : X) → i < length xs → x ≡ get_or xs i x
    → (old ++ spaced (flat_map words (take i xs))) ++ spaced (words x) ≡ old ++ spaced (flat_map words (take (i + 1) xs))
put_more {X} words old xs i x lt e =
    let parts : flat_map words (take i xs ++ x ∷ []) ≡ flat_map words (take i xs) ++ words x = flat_map-append words (take i xs) (x ∷ []) ∙ ap (λ (v : List (List ℕ)). flat_map words (take i xs) ++ v) (append-nil (words x)) in
    let more : take (i + 1) xs ≡ take i xs ++ x ∷ [] = take_more xs i x lt ∙ ap (λ y. take i xs ++ y ∷ []) (sym e) in
    append_assoc old (spaced (flat_map words (take i xs))) (spaced (words x)) ∙ ap (λ (v : List ℕ). old ++ v) (sym (spaced-append (flat_map words (take i xs)) (words x)) ∙ ap spaced (sym parts) ∙ ap (λ (v : List X). spaced (flat_map words v)) (sym more))

-- one more item is read
regroup : {X : Type 0} (front : List X) (x : X) (read : Option (List X × List (List ℕ))) → with_front front (read >>= λ y. Some (x ∷ y.0, y.1)) ≡ with_front (front ++ x ∷ []) read
regroup front x None = refl
regroup {X} front x (Some y) = ap (λ (zs : List X). Some (zs, y.1)) (sym (append_assoc front (x ∷ []) y.0))

pub goes_on : {X : Type 0} (read : List (List ℕ) → Option (X × List (List ℕ))) (front : List X) (count i : ℕ) (ws : List (List ℕ)) (x : X) (after : List (List ℕ)) (total : Option (List X × List (List ℕ)))
    → i < count → read ws ≡ Some (x, after) → with_front front (read_items read (count - i) ws) ≡ total → with_front (front ++ x ∷ []) (read_items read (count - (i + 1)) after) ≡ total
unfolding read_items
goes_on read front count i ws x after total lt h so_far =
    let k : count - i ≡ suc (count - (i + 1)) = omega arith in
    let one : with_front front (read_items read (count - i) ws) ≡ with_front (front ++ x ∷ []) (read_items read (count - (i + 1)) after) = rw (k, h) (regroup front x (read_items read (count - (i + 1)) after)) in
    sym one ∙ so_far

pub stops : {X : Type 0} (read : List (List ℕ) → Option (X × List (List ℕ))) (front : List X) (count i : ℕ) (ws : List (List ℕ)) (total : Option (List X × List (List ℕ)))
    → i < count → read ws ≡ None → with_front front (read_items read (count - i) ws) ≡ total → total ≡ None
unfolding read_items
stops read front count i ws total lt h so_far =
    let k : count - i ≡ suc (count - (i + 1)) = omega arith in
    let one : with_front front (read_items read (count - i) ws) ≡ None = rw (k, h) refl in
    sym so_far ∙ one

pub is_done : {X : Type 0} (read : List (List ℕ) → Option (X × List (List ℕ))) (front : List X) (count i : ℕ) (ws : List (List ℕ)) (total : Option (List X × List (List ℕ)))
    → count ≤ i → with_front front (read_items read (count - i) ws) ≡ total → total ≡ Some (front, ws)
unfolding read_items
is_done {X} read front count i ws total le so_far =
    let k : count - i ≡ 0 = omega arith in
    let one : with_front front (read_items read (count - i) ws) ≡ Some (front, ws) = rw k (ap (λ (xs : List X). Some (xs, ws)) (append-nil front)) in
    sym so_far ∙ one
