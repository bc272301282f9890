-- The names that are left of those that passed.
use Rattle.std.proofs.Common.{◌≡◌, ℕ, ◌+◌, ◌<◌, ◌≤◌, Bool, true, false, cond, not, List, [], ◌∷◌, ◌++◌, length, take, get_or, refl, ap, sym, ◌∙◌, arith}
use Rattle.std.proofs.lemmas.List.{append-nil, length-take, take_more}
use Rattle.std.proofs.lemmas.Bool.{le-leb, lt-leb}
use Rattle.std.specs.Prelude.{nat_le}
use Rattle.wx_machine.specs.Journal.{is_among, unhanded}
use Rattle.wx_print.specs.Window.{left}

-- a name, where it is left
abbrev pub one_left : (ℕ → ℕ) → ℕ → ℕ → List ℕ
one_left handed place x = cond (nat_le (handed x) place) (x ∷ []) []

cons_or : (b : Bool) (y : ℕ) (us vs ws : List ℕ) → us ≡ vs ++ ws → cond b (y ∷ us) us ≡ cond b (y ∷ vs) vs ++ ws
cons_or true y us vs ws e = ap (λ (l : List ℕ). y ∷ l) e
cons_or false y us vs ws e = e

-- one name more
pub left_more : (handed : ℕ → ℕ) (place : ℕ) (xs : List ℕ) (x : ℕ) → left handed place (xs ++ x ∷ []) ≡ left handed place xs ++ one_left handed (place + length xs) x
left_more handed place [] x = let here : place ≡ place + 0 = omega arith in ap (λ (at : ℕ). one_left handed at x) here
left_more handed place (y ∷ ys) x =
    let on : place + 1 + length ys ≡ place + length (y ∷ ys) = omega arith in
    cons_or (nat_le (handed y) place) y _ _ _ (left_more handed (place + 1) ys x ∙ ap (λ (at : ℕ). left handed (place + 1) ys ++ one_left handed at x) on)

-- one more that joins
pub left_joined : (handed : ℕ → ℕ) (xs : List ℕ) (x : ℕ) → handed x ≤ length xs → left handed 0 (xs ++ x ∷ []) ≡ left handed 0 xs ++ x ∷ []
left_joined handed xs x le =
    let test : nat_le (handed x) (0 + length xs) ≡ true = le-leb (handed x) (0 + length xs) (omega arith) in
    left_more handed 0 xs x ∙ ap (λ (b : Bool). left handed 0 xs ++ cond b (x ∷ []) []) test

-- one name more of those that passed
left_taken : (handed : ℕ → ℕ) (xs : List ℕ) (i : ℕ) → i < length xs → left handed 0 (take (i + 1) xs) ≡ left handed 0 (take i xs) ++ one_left handed i (get_or xs i 0)
left_taken handed xs i lt =
    let here : 0 + length (take i xs) ≡ i = omega (arith, length-take i xs) in
    ap (λ (l : List ℕ). left handed 0 l) (take_more xs i 0 lt) ∙ left_more handed 0 (take i xs) (get_or xs i 0) ∙ ap (λ (at : ℕ). left handed 0 (take i xs) ++ one_left handed at (get_or xs i 0)) here

pub left_kept : (handed : ℕ → ℕ) (xs : List ℕ) (i : ℕ) → i < length xs → handed (get_or xs i 0) ≤ i → left handed 0 (take (i + 1) xs) ≡ left handed 0 (take i xs) ++ get_or xs i 0 ∷ []
left_kept handed xs i lt le = left_taken handed xs i lt ∙ ap (λ (b : Bool). left handed 0 (take i xs) ++ cond b (get_or xs i 0 ∷ []) []) (le-leb (handed (get_or xs i 0)) i le)

pub left_dropped : (handed : ℕ → ℕ) (xs : List ℕ) (i : ℕ) → i < length xs → i < handed (get_or xs i 0) → left handed 0 (take (i + 1) xs) ≡ left handed 0 (take i xs)
left_dropped handed xs i lt gt = left_taken handed xs i lt ∙ ap (λ (b : Bool). left handed 0 (take i xs) ++ cond b (get_or xs i 0 ∷ []) []) (lt-leb (handed (get_or xs i 0)) i gt) ∙ append-nil (left handed 0 (take i xs))

-- a name that is handed at a later place is not left, and any other is left where it was
handed_test : (among : Bool) (now passed before place : ℕ) → now ≡ cond among passed before → place < passed → nat_le now place ≡ cond among false (nat_le before place)
handed_test true now passed before place e lt = ap (λ (n : ℕ). nat_le n place) e ∙ lt-leb passed place lt
handed_test false now passed before place e lt = ap (λ (n : ℕ). nat_le n place) e

handed_one : (batch : List ℕ) (y : ℕ) (rest : List ℕ) (among is was : Bool) → is_among y batch ≡ among → is ≡ cond among false was → cond is (y ∷ unhanded batch rest) (unhanded batch rest) ≡ unhanded batch (cond was (y ∷ rest) rest)
handed_one batch y rest true is true a e = ap (λ (b : Bool). cond b (y ∷ unhanded batch rest) (unhanded batch rest)) e ∙ sym (ap (λ (b : Bool). cond (not b) (y ∷ unhanded batch rest) (unhanded batch rest)) a)
handed_one batch y rest true is false a e = ap (λ (b : Bool). cond b (y ∷ unhanded batch rest) (unhanded batch rest)) e
handed_one batch y rest false is true a e = ap (λ (b : Bool). cond b (y ∷ unhanded batch rest) (unhanded batch rest)) e ∙ sym (ap (λ (b : Bool). cond (not b) (y ∷ unhanded batch rest) (unhanded batch rest)) a)
handed_one batch y rest false is false a e = ap (λ (b : Bool). cond b (y ∷ unhanded batch rest) (unhanded batch rest)) e

-- the names of a batch leave, where they were handed behind all of these
pub left_handed : (before now : ℕ → ℕ) (batch : List ℕ) (passed : ℕ) → ((name : ℕ) → now name ≡ cond (is_among name batch) passed (before name)) → (place : ℕ) (xs : List ℕ) → place + length xs ≤ passed → left now place xs ≡ unhanded batch (left before place xs)
left_handed before now batch passed is place [] le = refl
left_handed before now batch passed is place (y ∷ ys) le =
    ap (λ (l : List ℕ). cond (nat_le (now y) place) (y ∷ l) l) (left_handed before now batch passed is (place + 1) ys (omega arith))
    ∙ handed_one batch y (left before (place + 1) ys) (is_among y batch) (nat_le (now y) place) (nat_le (before y) place) refl (handed_test (is_among y batch) (now y) passed (before y) place (is y) (omega arith))
