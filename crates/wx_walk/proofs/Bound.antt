-- How many steps there are at most: each item costs what lies below it.
use Rattle.std.proofs.Common.{◌≡◌, ℕ, suc, zero, ◌+◌, ◌*◌, ◌≤◌, ◌<◌, Bool, true, false, cond, List, [], ◌∷◌, ◌++◌, length, arith, refl, sym, ◌∙◌, inl, inr}
use Rattle.std.specs.Prelude.{◌⊎◌}
use Rattle.std.proofs.lemmas.Bool.{cases_Bool}
use Rattle.std.proofs.Math.Nat.{suc-mul}
use Rattle.wx_tree.specs.Lists.{AllOnce, In}
use Rattle.wx_tree.specs.Paths.{Path, has_entry, holds, holds_below, same}
use Rattle.wx_tree.specs.Trees.{Tree, TreeEntry, is_safe, is_there, settle}
use Rattle.wx_tree.specs.declared.root.Root.{Root}
use Rattle.wx_tree.proofs.PathLemmas.{below-holds, entry-below, entry-length, holds-length, holds-one, holds-refl, same-true}
use Rattle.wx_recursor.specs.Owners.{candidates}
use Rattle.wx_recursor.specs.declared.work.Item.{Item}
use Rattle.wx_recursor.specs.declared.work.Item.TheVariants.{Candidate, Guard, Scan, Visit}
use Rattle.wx_walk.specs.Machine.{State, did, has_items, has_seen, kept_guards, reconciled, resets, rest_of, scan_new, stepped, stepped_at, visits}
use Rattle.wx_walk.specs.Reached.{Finds, FindsFirst, Steps}
use Rattle.wx_walk.specs.declared.plain.Guarded.{Guarded}
use Rattle.wx_walk.specs.declared.plain.Saw.{Saw}
use Rattle.wx_walk.specs.declared.plain.Saw.TheVariants.{Held, Leaf, Listed, Lost, Reset, Unsafe}

abbrev pub bit : Bool → ℕ
bit true = 1
bit false = 0

-- how many paths of the tree lie below p
abbrev pub below : Tree → Path → ℕ
below [] p = 0
below (e ∷ t) p = bit (holds_below p e.path) + below t p

abbrev pub within : Tree → Path → ℕ
within [] p = 0
within (e ∷ t) p = bit (holds p e.path) + within t p

abbrev pub sum_within : Tree → List Path → ℕ
sum_within t [] = 0
sum_within t (c ∷ cs) = within t c + sum_within t cs

abbrev pub holders : List Path → Path → ℕ
holders [] q = 0
holders (c ∷ cs) q = bit (holds c q) + holders cs q

holders-none : (cs : List Path) (q : Path) → ((c : Path) → In c cs → holds c q ≡ true → ⊥) → holders cs q ≡ 0
holders-none [] q none = refl
holders-none (c ∷ cs) q none =
    let rest : holders cs q ≡ 0 = holders-none cs q (λ d i. none d (inr i)) in
    elim (cases_Bool (holds c q)) [
      | inl h ↦ absurd (none c (inl refl) h)
      | inr h ↦ rw h (omega arith)
    ]

-- of these entries at most one holds q, and then q lies below p
holders-le : (p q : Path) (cs : List Path) → AllOnce cs → ((c : Path) → In c cs → has_entry p c ≡ true) → holders cs q ≤ bit (holds_below p q)
holders-le p q [] once each = omega arith
holders-le p q (c ∷ cs) once each =
    elim (cases_Bool (holds c q)) [
      | inl h ↦
          let b : holds_below p q ≡ true = entry-below p c q (each c (inl refl)) h in
          let none : holders cs q ≡ 0 =
          holders-none cs q (λ d i k.
          let l : length c ≡ length d = entry-length p c (each c (inl refl)) ∙ sym (entry-length p d (each d (inr i))) in
          let e : c ≡ d = holds-one c d q l h k in
          once.0 (rw e i)) in
          rw (h, b) (omega arith)
      | inr h ↦ let k : holders cs q ≤ bit (holds_below p q) = holders-le p q cs once.1 (λ d i. each d (inr i)) in rw h (omega arith)
    ]

sum_within-cons : (e : TreeEntry) (t : Tree) (cs : List Path) → sum_within (e ∷ t) cs ≡ holders cs e.path + sum_within t cs
sum_within-cons e t [] = refl
sum_within-cons e t (c ∷ cs) = let k : sum_within (e ∷ t) cs ≡ holders cs e.path + sum_within t cs = sum_within-cons e t cs in omega arith

sum_within-le : (p : Path) (t : Tree) (cs : List Path) → AllOnce cs → ((c : Path) → In c cs → has_entry p c ≡ true) → sum_within t cs ≤ below t p
sum_within-le p [] [] once each = omega arith
sum_within-le p [] (c ∷ cs) once each = let k : sum_within [] cs ≤ 0 = sum_within-le p [] cs once.1 (λ d i. each d (inr i)) in omega arith
sum_within-le p (e ∷ t) cs once each =
    let a : holders cs e.path ≤ bit (holds_below p e.path) = holders-le p e.path cs once each in
    let b : sum_within t cs ≤ below t p = sum_within-le p t cs once each in
    rw (sum_within-cons e t cs) (omega arith)

below-within : (t : Tree) (c : Path) → below t c ≤ within t c
below-within [] c = omega arith
below-within (e ∷ t) c =
    let k : below t c ≤ within t c = below-within t c in
    elim (cases_Bool (holds_below c e.path)) [
      | inl h ↦ rw (h, below-holds c e.path h) (omega arith)
      | inr h ↦ rw h (omega arith)
    ]

below-length-lt : (p q : Path) → holds_below p q ≡ true → length p < length q
below-length-lt p [] h = cc
below-length-lt p (x ∷ q) h = let k : length p ≤ length q = holds-length p q h in omega arith

not-below-itself : (p : Path) → holds_below p p ≡ false
not-below-itself p =
    elim (cases_Bool (holds_below p p)) [
      | inl h ↦ let k : length p < length p = below-length-lt p p h in absurd (omega arith)
      | inr h ↦ h
    ]

-- a path of the tree is one more than those below it
there-within : (t : Tree) (c : Path) → is_there t c ≡ true → 1 + below t c ≤ within t c
there-within [] c h = cc
there-within (e ∷ t) c h =
    elim (cases_Bool (same e.path c)) [
      | inl s ↦
          let f : e.path ≡ c = same-true e.path c s in
          let k : below t c ≤ within t c = below-within t c in
          rw (f, holds-refl c, not-below-itself c) (omega arith)
      | inr s ↦
          let k : 1 + below t c ≤ within t c = there-within t c (rw s at h) in
          elim (cases_Bool (holds_below c e.path)) [
            | inl b ↦ rw (b, below-holds c e.path b) (omega arith)
            | inr b ↦ rw b (omega arith)
          ]
    ]

below-length : (t : Tree) (p : Path) → below t p ≤ length t
below-length [] p = omega arith
below-length (e ∷ t) p =
    let k : below t p ≤ length t = below-length t p in
    elim (cases_Bool (holds_below p e.path)) [ inl h ↦ rw h (omega arith) | inr h ↦ rw h (omega arith) ]

-- what an item may cost, in steps
abbrev pub cost : Tree → Item → ℕ
cost t (Guard r) = 1 + cond (is_safe t r.path) (2 + 2 * below t r.path) 0
cost t (Visit r) = 2 + 2 * below t r.path
cost t (Scan r p) = 1 + 2 * below t p
cost t (Candidate r p) = 2 + 2 * below t p

abbrev pub costs : Tree → List Item → ℕ
costs t [] = 0
costs t (i ∷ q) = cost t i + costs t q

abbrev pub potential : Tree → State → ℕ
potential t s = costs t s.queue + bit s.sweep_due

costs-append : (t : Tree) (q u : List Item) → costs t (q ++ u) ≡ costs t q + costs t u
costs-append t [] u = omega arith
costs-append t (i ∷ q) u = let k : costs t (q ++ u) ≡ costs t q + costs t u = costs-append t q u in omega arith

candidates-cost : (t : Tree) (r : Root) (cs : List Path) → ((c : Path) → In c cs → is_there t c ≡ true) → costs t (candidates r cs) ≤ 2 * sum_within t cs
candidates-cost t r [] there = omega arith
candidates-cost t r (c ∷ cs) there =
    let k : costs t (candidates r cs) ≤ 2 * sum_within t cs = candidates-cost t r cs (λ d i. there d (inr i)) in
    let w : 1 + below t c ≤ within t c = there-within t c (there c (inl refl)) in
    omega arith

scan_new-cost : (t : Tree) (r : Root) (p : Path) (s : State) → costs t (scan_new r p s.owners) ≤ 1 + 2 * below t p
scan_new-cost t r p s =
    elim (cases_Bool (has_seen r p s.owners)) [ inl h ↦ rw h (omega arith) | inr h ↦ rw h (omega arith) ]

-- what is not found
not_found : (a b : Bool) (x f : Saw) → f ≡ cond a (cond b Held Leaf) x → (f ≡ Held) ⊎ ((f ≡ Leaf) ⊎ (f ≡ x))
not_found true true x f h = inl h
not_found true false x f h = inr (inl h)
not_found false b x f h = inr (inr h)

did-cost : (t : Tree) (ok : Path → Bool) (i : Item) (f : Saw) (s : State) → Finds t ok i f → suc (potential t (did i f s)) ≤ cost t i + potential t s
did-cost t ok (Guard r) Lost s h = cc
did-cost t ok (Guard r) (Unsafe g) s h = cc
did-cost t ok (Guard r) (Reset g root_is_safe) s h =
    let e : root_is_safe ≡ is_safe t r.path = cc in
    rw (e, costs-append t s.queue (cond (is_safe t r.path) (Visit r ∷ []) [])) (elim (cases_Bool (is_safe t r.path)) [ inl a ↦ rw a (omega arith) | inr a ↦ rw a (omega arith) ])
did-cost t ok (Guard r) Leaf s h = cc
did-cost t ok (Guard r) Held s h = cc
did-cost t ok (Guard r) (Listed cs) s h = cc
did-cost t ok (Visit r) Lost s h = omega arith
did-cost t ok (Visit r) (Unsafe g) s h = rw (costs-append t s.queue []) (omega arith)
did-cost t ok (Visit r) (Reset g root_is_safe) s h = omega arith
did-cost t ok (Visit r) Leaf s h = rw (costs-append t s.queue []) (omega arith)
did-cost t ok (Visit r) Held s h =
    let k : costs t (scan_new r r.path s.owners) ≤ 1 + 2 * below t r.path = scan_new-cost t r r.path s in
    rw (costs-append t s.queue (scan_new r r.path s.owners)) (omega arith)
did-cost t ok (Visit r) (Listed cs) s h = omega arith
did-cost t ok (Scan r p) Lost s h = omega arith
did-cost t ok (Scan r p) (Unsafe g) s h = omega arith
did-cost t ok (Scan r p) (Reset g root_is_safe) s h = omega arith
did-cost t ok (Scan r p) Leaf s h = omega arith
did-cost t ok (Scan r p) Held s h = omega arith
did-cost t ok (Scan r p) (Listed ds) s (cs, e, l) =
    let same_lists : ds ≡ cs = cc in
    let a : costs t (candidates r cs) ≤ 2 * sum_within t cs = candidates-cost t r cs l.there in
    let b : sum_within t cs ≤ below t p = sum_within-le p t cs l.once l.each in
    rw (same_lists, costs-append t s.queue (candidates r cs)) (omega arith)
did-cost t ok (Candidate r c) Lost s h = rw (costs-append t s.queue []) (omega arith)
did-cost t ok (Candidate r c) (Unsafe g) s h = omega arith
did-cost t ok (Candidate r c) (Reset g root_is_safe) s h = omega arith
did-cost t ok (Candidate r c) Leaf s h = omega arith
did-cost t ok (Candidate r c) Held s h =
    let k : costs t (scan_new r c s.owners) ≤ 1 + 2 * below t c = scan_new-cost t r c s in
    rw (costs-append t s.queue (scan_new r c s.owners)) (omega arith)
did-cost t ok (Candidate r c) (Listed cs) s h = omega arith

step_falls : (t : Tree) (ok : Path → Bool) (q : List Item) (f : Saw) (s : State) → has_items q s.sweep_due ≡ true → FindsFirst t ok q f → suc (potential t (stepped_at q f s)) ≤ costs t q + bit s.sweep_due
step_falls t ok [] f s work h = rw work (omega arith)
step_falls t ok (i ∷ q) f s work h =
    let k : suc (potential t (did i f (rest_of s q))) ≤ cost t i + potential t (rest_of s q) = did-cost t ok i f (rest_of s q) h in
    omega arith

pub steps_fall : (t : Tree) (ok : Path → Bool) (n : ℕ) (s u : State) → Steps t ok n s u → n + potential t u ≤ potential t s
steps_fall t ok zero s u e = rw e (omega arith)
steps_fall t ok (suc n) s u (f, work, h, steps) =
    let a : suc (potential t (stepped f s)) ≤ potential t s = step_falls t ok s.queue f s work h in
    let b : n + potential t u ≤ potential t (stepped f s) = steps_fall t ok n (stepped f s) u steps in
    omega arith

visits-cost : (t : Tree) (rs : List Root) → costs t (visits rs) ≤ 2 * length rs + 2 * (length rs * length t)
visits-cost t [] = omega arith
visits-cost t (r ∷ rs) =
    let k : costs t (visits rs) ≤ 2 * length rs + 2 * (length rs * length t) = visits-cost t rs in
    let b : below t r.path ≤ length t = below-length t r.path in
    let m : suc (length rs) * length t ≡ length t + length rs * length t = omega (arith, suc-mul (length rs) (length t)) in
    omega arith

resets-cost : (t : Tree) (gs : List Guarded) → ((g : Guarded) → In g gs → is_safe t g.root.path ≡ false) → costs t (resets gs) ≡ length gs
resets-cost t [] unsafe = refl
resets-cost t (g ∷ gs) unsafe =
    let e : is_safe t g.root.path ≡ false = unsafe g (inl refl) in
    let k : costs t (resets gs) ≡ length gs = resets-cost t gs (λ x i. unsafe x (inr i)) in
    rw e (omega arith)

pub settles : (t : Tree) (ok : Path → Bool) (rs : List Root) (o n : ℕ) (s u : State) → ((g : Guarded) → In g (kept_guards rs s.guards) → is_safe t g.root.path ≡ false) → Steps t ok n (reconciled rs s) u → n ≤ settle (length (kept_guards rs s.guards)) (length rs) (length t) o
settles t ok rs o n s u unsafe steps =
    let a : n + potential t u ≤ potential t (reconciled rs s) = steps_fall t ok n (reconciled rs s) u steps in
    let b : costs t (visits rs) ≤ 2 * length rs + 2 * (length rs * length t) = visits-cost t rs in
    let c : costs t (resets (kept_guards rs s.guards)) ≡ length (kept_guards rs s.guards) = resets-cost t (kept_guards rs s.guards) unsafe in
    let d : costs t (resets (kept_guards rs s.guards) ++ visits rs) ≡ costs t (resets (kept_guards rs s.guards)) + costs t (visits rs) = costs-append t (resets (kept_guards rs s.guards)) (visits rs) in
    omega arith
