-- What a meeting tells: whether one place holds the other.
use Rattle.std.proofs.Common.{◌≡◌, ℕ, suc, ◌+◌, ◌-◌, ◌≤◌, ◌<◌, true, false, List, [], ◌∷◌, ◌++◌, length, drop, arith, refl, ap, sym, ◌∙◌, inl, inr, cond}
use Rattle.std.specs.Prelude.{◌==◌, ◌&&◌, codes}
use Rattle.std.specs.Str.{bytes_eq}
use Rattle.std.proofs.lemmas.Bool.{cases_Bool, eqb-true, eq-eqb, ne_eqb, and_parts, and_from, or_cases, or_left, or_right}
use Rattle.wx_tree.specs.Paths.{Part, Path, same_part, same, holds}
use Rattle.wx_tree.proofs.PathLemmas.{same_part-true, same_part-refl, same-true, same-refl, holds-refl, holds-length, holds-one, same_truth}
use Rattle.wx_lane.specs.Meetings.{is_next, meet_all, meet_down, meet_part, meet_up}
use Rattle.wx_lane.specs.declared.meeting.Meeting.{Meeting}
use Rattle.wx_lane.proofs.NextLemmas.{next_there}

-- how many parts a place shares with r, from the front on
abbrev pub shared : Path → Path → ℕ
shared r [] = 0
shared r (x ∷ p) = cond (shared r p == length p && is_next x (shared r p) r) (shared r p + 1) (shared r p)

-- where a place is walked to
abbrev pub meeting : Path → Path → Meeting
meeting r p = record { shared = shared r p; depth = length p }

pub shared-most : (r p : Path) → shared r p ≤ length p
shared-most r [] = omega arith
shared-most r (x ∷ p) =
    let k : shared r p ≤ length p = shared-most r p in
    elim (cases_Bool (shared r p == length p && is_next x (shared r p) r)) [
      | inl e ↦ rw e (omega arith)
      | inr e ↦ rw e (omega arith)
    ]

holds-nil : (r : Path) → holds [] r ≡ true
holds-nil [] = refl
holds-nil (y ∷ r) = or_right (same [] (y ∷ r)) (holds [] r) (holds-nil r)

-- r is at or below p with this part more
next-holds : (x : Part) (p r : Path) → is_next x (length p) r ≡ true → holds p r ≡ true → holds (x ∷ p) r ≡ true
next-holds x p [] n h = cc
next-holds x p (y ∷ r) n h =
    elim (cases_Bool (length p == length r)) [
      | inl e ↦
          let l : length p ≡ length r = eqb-true (length p) (length r) e in
          let s : same_part y x ≡ true = (rw e at n) in
          let f : y ≡ x = same_part-true y x s in
          elim (or_cases (same p (y ∷ r)) (holds p r) h) [
            | inl a ↦
                let m : length p ≡ length (y ∷ r) = ap length (same-true p (y ∷ r) a) in
                absurd (omega arith)
            | inr a ↦
                let g : p ≡ r = holds-one p r r l a (holds-refl r) in
                or_left (same (x ∷ p) (y ∷ r)) (holds (x ∷ p) r) (rw (f, g) (same-refl (x ∷ r)))
          ]
      | inr e ↦
          let m : is_next x (length p) r ≡ true = (rw e at n) in
          let lt : length p < length r = next_there x (length p) r m in
          elim (or_cases (same p (y ∷ r)) (holds p r) h) [
            | inl a ↦
                let l : length p ≡ length (y ∷ r) = ap length (same-true p (y ∷ r) a) in
                absurd (omega arith)
            | inr a ↦ or_right (same (x ∷ p) (y ∷ r)) (holds (x ∷ p) r) (next-holds x p r m a)
          ]
    ]

held-next : (x : Part) (p r : Path) → holds (x ∷ p) r ≡ true → (holds p r ≡ true) × (is_next x (length p) r ≡ true)
held-next x p [] h = absurd cc
held-next x p (y ∷ r) h =
    elim (or_cases (same (x ∷ p) (y ∷ r)) (holds (x ∷ p) r) h) [
      | inl a ↦
          let b = and_parts (same_part x y) (same p r) a in
          let f : x ≡ y = same_part-true x y b.0 in
          let g : p ≡ r = same-true p r b.1 in
          let l : (length p == length r) ≡ true = eq-eqb (length p) (length r) (ap length g) in
          let s : same_part y x ≡ true = rw f (same_part-refl y) in
          let n : is_next x (length p) (y ∷ r) ≡ true = rw l s in
          let k : holds p r ≡ true = rw g (holds-refl r) in
          (or_right (same p (y ∷ r)) (holds p r) k, n)
      | inr a ↦
          let b = held-next x p r a in
          let le : length (x ∷ p) ≤ length r = holds-length (x ∷ p) r a in
          let l : (length p == length r) ≡ false = ne_eqb (length p) (length r) (λ k. omega arith) in
          let n : is_next x (length p) (y ∷ r) ≡ true = rw l b.1 in
          (or_right (same p (y ∷ r)) (holds p r) b.0, n)
    ]

-- all parts are shared where p is r, or above it
whole-holds : (r p : Path) → shared r p ≡ length p → holds p r ≡ true
whole-holds r [] h = holds-nil r
whole-holds r (x ∷ p) h =
    let most : shared r p ≤ length p = shared-most r p in
    elim (cases_Bool (shared r p == length p && is_next x (shared r p) r)) [
      | inl e ↦
          let a = and_parts (shared r p == length p) (is_next x (shared r p) r) e in
          let l : shared r p ≡ length p = eqb-true (shared r p) (length p) a.0 in
          next-holds x p r (rw l at a.1) (whole-holds r p l)
      | inr e ↦ let k : shared r p ≡ suc (length p) = (rw e at h) in absurd (omega arith)
    ]

holds-whole : (r p : Path) → holds p r ≡ true → shared r p ≡ length p
holds-whole r [] h = refl
holds-whole r (x ∷ p) h =
    let a = held-next x p r h in
    let l : shared r p ≡ length p = holds-whole r p a.0 in
    let e : (shared r p == length p && is_next x (shared r p) r) ≡ true =
    and_from (shared r p == length p) (is_next x (shared r p) r) (eq-eqb (shared r p) (length p) l) (rw l a.1) in
    rw e (omega arith)

nil-of-length : (r : Path) → 0 ≡ length r → r ≡ []
nil-of-length [] h = refl
nil-of-length (x ∷ r) h = absurd (omega arith)

-- all parts of r are shared where it is p, or above it
full-holds : (r p : Path) → shared r p ≡ length r → holds r p ≡ true
full-holds r [] h = let e : r ≡ [] = nil-of-length r h in rw e refl
full-holds r (x ∷ p) h =
    elim (cases_Bool (shared r p == length p && is_next x (shared r p) r)) [
      | inl e ↦
          let a = and_parts (shared r p == length p) (is_next x (shared r p) r) e in
          let l : shared r p ≡ length p = eqb-true (shared r p) (length p) a.0 in
          let k : shared r p + 1 ≡ length r = (rw e at h) in
          let w : holds (x ∷ p) r ≡ true = next-holds x p r (rw l at a.1) (whole-holds r p l) in
          let m : length (x ∷ p) ≡ length r = omega arith in
          let g : x ∷ p ≡ r = holds-one (x ∷ p) r r m w (holds-refl r) in
          ap (λ (q : Path). holds q (x ∷ p)) (sym g) ∙ holds-refl (x ∷ p)
      | inr e ↦ or_right (same r (x ∷ p)) (holds r p) (full-holds r p (rw e at h))
    ]

holds-full : (r p : Path) → holds r p ≡ true → shared r p ≡ length r
holds-full r [] h = let e : r ≡ [] = same-true r [] h in rw e refl
holds-full r (x ∷ p) h =
    elim (or_cases (same r (x ∷ p)) (holds r p) h) [
      | inl a ↦
          let e : r ≡ x ∷ p = same-true r (x ∷ p) a in
          let w : holds (x ∷ p) r ≡ true = rw e (holds-refl (x ∷ p)) in
          holds-whole r (x ∷ p) w ∙ sym (ap length e)
      | inr a ↦
          let l : shared r p ≡ length r = holds-full r p a in
          elim (cases_Bool (shared r p == length p && is_next x (shared r p) r)) [
            | inl e ↦
                let b = and_parts (shared r p == length p) (is_next x (shared r p) r) e in
                let lt : shared r p < length r = next_there x (shared r p) r b.1 in
                absurd (omega arith)
            | inr e ↦ rw e l
          ]
    ]

pub shared-holds : (r p : Path) → (shared r p == length r) ≡ holds r p
shared-holds r p = same_truth (shared r p == length r) (holds r p) (λ h. full-holds r p (eqb-true (shared r p) (length r) h)) (λ h. eq-eqb (shared r p) (length r) (holds-full r p h))

-- ---- each part that is walked

abbrev pub walk_part : Part → Path → Path
walk_part x p = cond (bytes_eq x (codes "..")) (drop 1 p) (x ∷ p)

-- where the parts of a path lead to from here
abbrev pub walked : Path → List Part → Path
walked p [] = p
walked p (x ∷ xs) = walked (walk_part x p) xs

abbrev pub made : ℕ → ℕ → Meeting
made s d = record { shared = s; depth = d }

made_same : (s t d e : ℕ) → s ≡ t → d ≡ e → made s d ≡ made t e
made_same s t d e f g = ap (λ (n : ℕ). made n d) f ∙ ap (made t) g

up-equal : (s d t e : ℕ) → s ≡ d → s - 1 ≡ t → d - 1 ≡ e → meet_up (made s d) ≡ made t e
up-equal s d t e h f g =
    let k : (s == d) ≡ true = eq-eqb s d h in
    rw k (made_same (s - 1) t (d - 1) e f g)

up-other : (s d e : ℕ) → s < d → d - 1 ≡ e → meet_up (made s d) ≡ made s e
up-other s d e h g =
    let k : (s == d) ≡ false = ne_eqb s d (λ f. omega arith) in
    rw k (made_same s s (d - 1) e refl g)

met-up : (r p : Path) → meet_up (meeting r p) ≡ meeting r (drop 1 p)
met-up r [] = refl
met-up r (x ∷ p) =
    let most : shared r p ≤ length p = shared-most r p in
    elim (cases_Bool (shared r p == length p && is_next x (shared r p) r)) [
      | inl e ↦
          let a = and_parts (shared r p == length p) (is_next x (shared r p) r) e in
          let l : shared r p ≡ length p = eqb-true (shared r p) (length p) a.0 in
          rw e (up-equal (shared r p + 1) (suc (length p)) (shared r p) (length p) (omega arith) (omega arith) (omega arith))
      | inr e ↦ rw e (up-other (shared r p) (suc (length p)) (length p) (omega arith) (omega arith))
    ]

met-down : (r p : Path) (x : Part) → meet_down r x (meeting r p) ≡ meeting r (x ∷ p)
met-down r p x =
    elim (cases_Bool (shared r p == length p && is_next x (shared r p) r)) [
      | inl e ↦
          let a = and_parts (shared r p == length p) (is_next x (shared r p) r) e in
          let l : shared r p ≡ length p = eqb-true (shared r p) (length p) a.0 in
          rw e (made_same (length p + 1) (shared r p + 1) (length p + 1) (suc (length p)) (omega arith) (omega arith))
      | inr e ↦ rw e (made_same (shared r p) (shared r p) (length p + 1) (suc (length p)) refl (omega arith))
    ]

met-part : (r p : Path) (x : Part) → meet_part r (meeting r p) x ≡ meeting r (walk_part x p)
met-part r p x =
    elim (cases_Bool (bytes_eq x (codes ".."))) [
      | inl e ↦ rw e (met-up r p)
      | inr e ↦ rw e (met-down r p x)
    ]

pub met-walked : (r p : Path) (xs : List Part) → meet_all r (meeting r p) xs ≡ meeting r (walked p xs)
met-walked r p [] = refl
met-walked r p (x ∷ xs) = ap (λ (m : Meeting). meet_all r m xs) (met-part r p x) ∙ met-walked r (walk_part x p) xs

pub meet-append : (r : Path) (m : Meeting) (xs ys : List Part) → meet_all r m (xs ++ ys) ≡ meet_all r (meet_all r m xs) ys
meet-append r m [] ys = refl
meet-append r m (x ∷ xs) ys = meet-append r (meet_part r m x) xs ys
