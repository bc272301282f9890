-- The part behind so many others, from the front on.
use Rattle.std.proofs.Common.{◌≡◌, ℕ, suc, zero, ◌+◌, ◌-◌, ◌≤◌, ◌<◌, Bool, true, false, [], ◌∷◌, length, arith, refl, ap, sym, ◌∙◌, inl, inr}
use Rattle.std.specs.Prelude.{slice_index_or, ◌==◌}
use Rattle.std.proofs.lemmas.Bool.{cases_Bool, eqb-true, eq-eqb, ne_eqb}
use Rattle.wx_tree.specs.Paths.{Part, Path, same_part}
use Rattle.wx_lane.specs.Meetings.{is_next}

pub next_there : (x : Part) (n : ℕ) (r : Path) → is_next x n r ≡ true → n < length r
next_there x n [] h = cc
next_there x n (y ∷ r) h =
    elim (cases_Bool (n == length r)) [
      | inl e ↦ let k : n ≡ length r = eqb-true n (length r) e in omega arith
      | inr e ↦ let k : n < length r = next_there x n r (rw e at h) in omega arith
    ]

pub next_none : (x : Part) (n : ℕ) (r : Path) → length r ≤ n → is_next x n r ≡ false
next_none x n [] h = refl
next_none x n (y ∷ r) h =
    let e : (n == length r) ≡ false = ne_eqb n (length r) (λ k. omega arith) in
    rw e (next_none x n r (omega arith))

next_at : (x : Part) (n k : ℕ) (r : Path) (d : Part) → n + k + 1 ≡ length r → is_next x n r ≡ same_part (slice_index_or r k d) x
next_at x n k [] d h = absurd (omega arith)
next_at x n zero (y ∷ r) d h =
    let e : (n == length r) ≡ true = eq-eqb n (length r) (omega arith) in
    rw e refl
next_at x n (suc k) (y ∷ r) d h =
    let e : (n == length r) ≡ false = ne_eqb n (length r) (λ f. omega arith) in
    rw e (next_at x n k r d (omega arith))

-- it stands in the list at the place counted from behind
pub next_by : (x : Part) (n k : ℕ) (r : Path) (y : Part) (b : Bool) → n < length r → k ≡ (length r - 1) - n → y ≡ slice_index_or r k y → b ≡ same_part y x → b ≡ is_next x n r
next_by x n k r y b lt at is same =
    same ∙ (ap (λ (z : Part). same_part z x) is ∙ sym (next_at x n k r y (omega arith)))
