-- Laws of bags.
use Rattle.std.proofs.Common.{◌≡◌, ℕ, zero, suc, ◌≤◌, ◌<◌, List, [], ◌∷◌, ◌++◌, length, slice_get, arith, refl, sym, ap, ◌∙◌}
use Rattle.std.specs.Prelude.{Some, remove}
use Rattle.std.specs.List.{AllByRecursion}
use Rattle.wx_words.specs.EachLaws.{each_at}
use Rattle.prio_channel.specs.SameBag.{SameBag}

get-below : {X : Type 0} (xs : List X) (i k : ℕ) → k < i → slice_get (remove xs i) k ≡ slice_get xs k
get-below [] zero k lt = absurd (omega arith)
get-below [] (suc i) k lt = refl
get-below (x ∷ xs) zero k lt = absurd (omega arith)
get-below (x ∷ xs) (suc i) zero lt = refl
get-below (x ∷ xs) (suc i) (suc k) lt = get-below xs i k (omega arith)

get-above : {X : Type 0} (xs : List X) (i k : ℕ) → i ≤ k → slice_get (remove xs i) k ≡ slice_get xs (suc k)
get-above [] zero k le = refl
get-above [] (suc i) k le = refl
get-above (x ∷ xs) zero k le = refl
get-above (x ∷ xs) (suc i) zero le = absurd (omega arith)
get-above (x ∷ xs) (suc i) (suc k) le = get-above xs i k (omega arith)

remove-remove : {X : Type 0} (xs : List X) (i k : ℕ) → i ≤ k → remove (remove xs i) k ≡ remove (remove xs (suc k)) i
remove-remove [] zero zero le = refl
remove-remove [] zero (suc k) le = refl
remove-remove [] (suc i) zero le = refl
remove-remove [] (suc i) (suc k) le = refl
remove-remove (x ∷ xs) zero k le = refl
remove-remove (x ∷ xs) (suc i) zero le = absurd (omega arith)
remove-remove (x ∷ xs) (suc i) (suc k) le = ap (λ zs. x ∷ zs) (remove-remove xs i k (omega arith))

-- how two places lie
data Places : ℕ → ℕ → Type 0 where
  Same : (i : ℕ) → Places i i
  Before : (i j : ℕ) → i ≤ j → Places i (suc j)
  After : (k j : ℕ) → k ≤ j → Places (suc j) k

raised : (i k : ℕ) → Places i k → Places (suc i) (suc k)
raised i k (Same n) = Same (suc n)
raised i k (Before n j le) = Before (suc n) (suc j) (omega arith)
raised i k (After n j le) = After (suc n) (suc j) (omega arith)

places : (i k : ℕ) → Places i k
places zero zero = Same zero
places zero (suc k) = Before zero k (omega arith)
places (suc i) zero = After zero i (omega arith)
places (suc i) (suc k) = raised i k (places i k)

none : {X : Type 0} (xs : List X) (k : ℕ) (x : X) → xs ≡ [] → slice_get xs k ≡ Some x → ⊥
none [] k x b e = cc
none (y ∷ ys) k x b e = cc

-- each list has its own items
pub same-refl : {X : Type 0} (xs : List X) → SameBag xs xs
same-refl [] = refl
same-refl (x ∷ xs) = (0, refl, same-refl xs)

-- an item of the first is found in the second, and the rest is the same
abbrev Taken : {X : Type 0} → List X → List X → ℕ → X → Type 0
Taken xs ys k x = (m : ℕ) × (slice_get ys m ≡ Some x) × SameBag (remove xs k) (remove ys m)

take-cons : {X : Type 0} (xs : List X) (y : X) (ys : List X) (x : X) (i k : ℕ) → Places i k → slice_get xs i ≡ Some y → SameBag (remove xs i) ys → slice_get xs k ≡ Some x → ((j : ℕ) → slice_get (remove xs i) j ≡ Some x → Taken (remove xs i) ys j x) → Taken xs (y ∷ ys) k x
take-cons {X} xs y ys x i k (Same n) ei b e more = (0, sym ei ∙ e, b)
take-cons {X} xs y ys x i k (Before n j le) ei b e more =
    let t : Taken (remove xs n) ys j x = more j (get-above xs n j le ∙ e) in
    (suc t.0, t.1, (n, get-below xs (suc j) n (omega arith) ∙ ei, rw (← remove-remove xs n j le) t.2))
take-cons {X} xs y ys x i k (After n j le) ei b e more =
    let t : Taken (remove xs (suc j)) ys n x = more n (get-below xs (suc j) n (omega arith) ∙ e) in
    (suc t.0, t.1, (j, get-above xs n j le ∙ ei, rw (remove-remove xs n j le) t.2))

-- what is taken from the first can be taken from the second
pub take-bag : {X : Type 0} (xs ys : List X) (k : ℕ) (x : X) → SameBag xs ys → slice_get xs k ≡ Some x → (m : ℕ) × (slice_get ys m ≡ Some x) × SameBag (remove xs k) (remove ys m)
take-bag xs [] k x b e = absurd (none xs k x b e)
take-bag xs (y ∷ ys) k x b e =
    take-cons xs y ys x b.0 k (places b.0 k) b.1 b.2 e (λ j f. take-bag (remove xs b.0) ys j x b.2 f)

-- an item of the second is found in the first, and the rest is the same
abbrev Found : {X : Type 0} → List X → List X → ℕ → X → Type 0
Found xs ys m y = (k : ℕ) × (slice_get xs k ≡ Some y) × SameBag (remove xs k) (remove ys m)

find-cons : {X : Type 0} (xs : List X) (z : X) (ys : List X) (m : ℕ) (y : X) (k i : ℕ) → Places k i → slice_get xs i ≡ Some z → slice_get (remove xs i) k ≡ Some y → SameBag (remove (remove xs i) k) (remove ys m) → Found xs (z ∷ ys) (suc m) y
find-cons xs z ys m y k i (Same n) ez e b =
    (suc n, sym (get-above xs n n (omega arith)) ∙ e, (n, get-below xs (suc n) n (omega arith) ∙ ez, rw (← remove-remove xs n n (omega arith)) b))
find-cons xs z ys m y k i (Before n j le) ez e b =
    (n, sym (get-below xs (suc j) n (omega arith)) ∙ e, (j, get-above xs n j le ∙ ez, rw (remove-remove xs n j le) b))
find-cons xs z ys m y k i (After n j le) ez e b =
    (suc (suc j), sym (get-above xs n (suc j) (omega arith)) ∙ e, (n, get-below xs (suc (suc j)) n (omega arith) ∙ ez, rw (← remove-remove xs n (suc j) (omega arith)) b))

-- what is taken from the second can be taken from the first
pub find-bag : {X : Type 0} (xs ys : List X) (m : ℕ) (y : X) → SameBag xs ys → slice_get ys m ≡ Some y → (k : ℕ) × (slice_get xs k ≡ Some y) × SameBag (remove xs k) (remove ys m)
find-bag xs [] m y b e = cc
find-bag xs (z ∷ ys) zero y b e = (b.0, b.1 ∙ e, b.2)
find-bag xs (z ∷ ys) (suc m) y b e =
    let f : Found (remove xs b.0) ys m y = find-bag (remove xs b.0) ys m y b.2 e in
    find-cons xs z ys m y f.0 b.0 (places f.0 b.0) b.1 f.1 f.2

-- the items of the items are the items
pub same-trans : {X : Type 0} (xs ys zs : List X) → SameBag xs ys → SameBag ys zs → SameBag xs zs
same-trans xs ys [] b c = rw c at b
same-trans xs ys (z ∷ zs) b c =
    let f : Found xs ys c.0 z = find-bag xs ys c.0 z b c.1 in
    (f.0, f.1, same-trans (remove xs f.0) (remove ys c.0) zs f.2 c.2)

-- where the first has the second's items, the second has the first's
pub same-sym : {X : Type 0} (xs ys : List X) → SameBag xs ys → SameBag ys xs
same-sym [] [] b = refl
same-sym [] (y ∷ ys) b = absurd (none [] b.0 y refl b.1)
same-sym (x ∷ xs) ys b =
    let t : Taken (x ∷ xs) ys 0 x = take-bag (x ∷ xs) ys 0 x b refl in
    (t.0, t.1, same-sym xs (remove ys t.0) t.2)

remove-length : {X : Type 0} (xs : List X) (i : ℕ) (x : X) → slice_get xs i ≡ Some x → length xs ≡ suc (length (remove xs i))
remove-length [] i x e = cc
remove-length (y ∷ xs) zero x e = refl
remove-length (y ∷ xs) (suc i) x e = ap suc (remove-length xs i x e)

-- they are as long
pub same-length : {X : Type 0} (xs ys : List X) → SameBag xs ys → length xs ≡ length ys
same-length xs [] b = ap length b
same-length xs (y ∷ ys) b = remove-length xs b.0 y b.1 ∙ ap suc (same-length (remove xs b.0) ys b.2)

get-append : {X : Type 0} (xs : List X) (i : ℕ) (x y : X) → slice_get xs i ≡ Some y → slice_get (xs ++ x ∷ []) i ≡ Some y
get-append [] i x y e = cc
get-append (z ∷ xs) zero x y e = e
get-append (z ∷ xs) (suc i) x y e = get-append xs i x y e

remove-append : {X : Type 0} (xs : List X) (i : ℕ) (x y : X) → slice_get xs i ≡ Some y → remove (xs ++ x ∷ []) i ≡ remove xs i ++ x ∷ []
remove-append [] i x y e = cc
remove-append (z ∷ xs) zero x y e = refl
remove-append (z ∷ xs) (suc i) x y e = ap (λ zs. z ∷ zs) (remove-append xs i x y e)

-- what is added to both leaves them the same
pub add-bag : {X : Type 0} (xs ys : List X) (x : X) → SameBag xs ys → SameBag (xs ++ x ∷ []) (ys ++ x ∷ [])
add-bag xs [] x b = rw b (0, refl, refl)
add-bag xs (y ∷ ys) x b =
    (b.0, get-append xs b.0 x y b.1, rw (remove-append xs b.0 x y b.1) (add-bag (remove xs b.0) ys x b.2))

-- what holds of each item holds of all but one
all-remove : {X : Type 0} (P : X → Type 0) (xs : List X) (i : ℕ) → AllByRecursion P xs → AllByRecursion P (remove xs i)
all-remove P [] zero all = tt
all-remove P [] (suc i) all = tt
all-remove P (x ∷ xs) zero all = all.1
all-remove P (x ∷ xs) (suc i) all = (all.0, all-remove P xs i all.1)

-- what holds of each item of the first holds of each item of the second
pub all-same : {X : Type 0} (P : X → Type 0) (xs ys : List X) → SameBag xs ys → AllByRecursion P xs → AllByRecursion P ys
all-same P xs [] b all = tt
all-same P xs (y ∷ ys) b all =
    (each_at P xs b.0 y all b.1, all-same P (remove xs b.0) ys b.2 (all-remove P xs b.0 all))
