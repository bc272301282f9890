-- How often a ticket stands in the lists in which a journal keeps it.
use Rattle.std.proofs.Common.{◌≡◌, ℕ, ◌+◌, ◌≤◌, Bool, true, false, cond, List, [], ◌∷◌, ◌++◌, Option, Some, None, refl, arith, ap, eq-eqb}
use Rattle.std.specs.Prelude.{◌==◌, ◌-◌, ◌||◌, not}
use Rattle.std.proofs.lemmas.Bool.{eqb-true}
use Rattle.wx_control.specs.declared.control.Control.{Control}
use Rattle.wx_control.specs.declared.control.Control.TheVariants.{NextEnding}
use Rattle.wx_control.specs.Waits.{first}
use Rattle.wx_machine.specs.declared.grace.Grace.{Grace}
use Rattle.wx_machine.specs.declared.state.CommandState.{CommandState}
use Rattle.wx_machine.specs.States.{is_finished}
use Rattle.wx_machine.specs.History.{without, has, found, without_ticket, parks, takes}
use Rattle.wx_machine.specs.Table.{unless_grace, is_parking}
use Rattle.wx_machine.specs.Held.{once, times, times_waiting}

-- ---- one more

pub times_append : (t u : ℕ) (ts : List ℕ) → times u (ts ++ t ∷ []) ≡ times u ts + once (t == u)
times_append t u [] = omega arith
times_append t u (v ∷ ts) = let h = times_append t u ts in omega (arith, h)

pub joined_times : (t u : ℕ) (control : Control) (xs : List (ℕ × Control)) → times_waiting u (xs ++ (t, control) ∷ []) ≡ times_waiting u xs + once (t == u)
joined_times t u control [] = omega arith
joined_times t u control (x ∷ xs) = let h = joined_times t u control xs in omega (arith, h)

-- ---- one less, where it stands there

-- the first of a list that is taken out, or isn't
first_out : (v t u before after : ℕ) (b c : Bool) → (v == t) ≡ b → (t == u) ≡ c → after ≡ before - once c → cond b before (once (v == u) + after) ≡ once (v == u) + before - once c
first_out v t u before after true true is it e = let same : v ≡ t = eqb-true _ _ is in rw (same, it) (omega arith)
first_out v t u before after true false is it e = let same : v ≡ t = eqb-true _ _ is in rw (same, it) (omega arith)
first_out v t u before after false true is it e = let same : t ≡ u = eqb-true _ _ it in rw (← same, is) (omega (arith, e))
first_out v t u before after false false is it e = omega (arith, e)

pub times_without : (t u : ℕ) (ts : List ℕ) → times u (without_ticket t ts) ≡ times u ts - once (t == u)
times_without t u [] = omega arith
times_without t u (v ∷ ts) = by_test (v == t) (first_out v t u (times u ts) (times u (without_ticket t ts)) (v == t) (t == u) refl refl (times_without t u ts))
  where
    by_test : (b : Bool) → cond b (times u ts) (once (v == u) + times u (without_ticket t ts)) ≡ once (v == u) + times u ts - once (t == u) → times u (cond b ts (v ∷ without_ticket t ts)) ≡ once (v == u) + times u ts - once (t == u)
    by_test true h = h
    by_test false h = h

pub waiting_without : (t u : ℕ) (xs : List (ℕ × Control)) → times_waiting u (without t xs) ≡ times_waiting u xs - once (t == u)
waiting_without t u [] = omega arith
waiting_without t u (x ∷ xs) = by_test (x.0 == t) (first_out x.0 t u (times_waiting u xs) (times_waiting u (without t xs)) (x.0 == t) (t == u) refl refl (waiting_without t u xs))
  where
    by_test : (b : Bool) → cond b (times_waiting u xs) (once (x.0 == u) + times_waiting u (without t xs)) ≡ once (x.0 == u) + times_waiting u xs - once (t == u) → times_waiting u (cond b xs (x ∷ without t xs)) ≡ once (x.0 == u) + times_waiting u xs - once (t == u)
    by_test true h = h
    by_test false h = h

-- a list in which it isn't stays
pub unheld_without : (t : ℕ) (ts : List ℕ) → times t ts ≡ 0 → without_ticket t ts ≡ ts
unheld_without t [] e = refl
unheld_without t (u ∷ us) e = by_test (u == t) e (λ h. unheld_without t us h)
  where
    by_test : (b : Bool) → once b + times t us ≡ 0 → (times t us ≡ 0 → without_ticket t us ≡ us) → cond b us (u ∷ without_ticket t us) ≡ u ∷ us
    by_test true h later = absurd (omega (arith, h))
    by_test false h later = ap (λ (vs : List ℕ). u ∷ vs) (later (omega (arith, h)))

-- ---- one that waits

pub has_some : (t : ℕ) (xs : List (ℕ × Control)) → has t xs ≡ true → 1 ≤ times_waiting t xs
has_some t [] e = cc
has_some t (x ∷ xs) e = by_test (x.0 == t) e (λ h. has_some t xs h)
  where
    by_test : (b : Bool) → (b || has t xs) ≡ true → (has t xs ≡ true → 1 ≤ times_waiting t xs) → 1 ≤ once b + times_waiting t xs
    by_test true h later = omega arith
    by_test false h later = let le = later h in omega (arith, le)

pub has_none : (t : ℕ) (xs : List (ℕ × Control)) → has t xs ≡ false → times_waiting t xs ≡ 0
has_none t [] e = refl
has_none t (x ∷ xs) e = by_test (x.0 == t) e (λ h. has_none t xs h)
  where
    by_test : (b : Bool) → (b || has t xs) ≡ false → (has t xs ≡ false → times_waiting t xs ≡ 0) → once b + times_waiting t xs ≡ 0
    by_test true h later = cc
    by_test false h later = let none = later h in omega (arith, none)

-- what waits at the three levels once a ticket was taken out of the most pressing one at which it waits
pub picked_waits : (t u : ℕ) (urgent high normal : List (ℕ × Control)) → 1 ≤ times_waiting t urgent + times_waiting t high + times_waiting t normal
    → times_waiting u (without t urgent) + times_waiting u (cond (not (has t urgent)) (without t high) high) + times_waiting u (cond (not (has t urgent || has t high)) (without t normal) normal) + once (t == u)
    ≡ times_waiting u urgent + times_waiting u high + times_waiting u normal
picked_waits t u urgent high normal some =
    by_test (has t urgent) (has t high) (t == u) (λ e. has_some t urgent e) (λ e. has_none t urgent e) (λ e. has_some t high e) (λ e. has_none t high e) refl
    (waiting_without t u urgent) (waiting_without t u high) (waiting_without t u normal)
  where
    by_test : (a b c : Bool) → (a ≡ true → 1 ≤ times_waiting t urgent) → (a ≡ false → times_waiting t urgent ≡ 0) → (b ≡ true → 1 ≤ times_waiting t high) → (b ≡ false → times_waiting t high ≡ 0) → (t == u) ≡ c
        → times_waiting u (without t urgent) ≡ times_waiting u urgent - once c → times_waiting u (without t high) ≡ times_waiting u high - once c → times_waiting u (without t normal) ≡ times_waiting u normal - once c
        → times_waiting u (without t urgent) + times_waiting u (cond (not a) (without t high) high) + times_waiting u (cond (not (a || b)) (without t normal) normal) + once c ≡ times_waiting u urgent + times_waiting u high + times_waiting u normal
    by_test a b false us un hs hn is x y z = by_place a b
      where
        by_place : (a b : Bool) → times_waiting u (without t urgent) + times_waiting u (cond (not a) (without t high) high) + times_waiting u (cond (not (a || b)) (without t normal) normal) + 0 ≡ times_waiting u urgent + times_waiting u high + times_waiting u normal
        by_place true b = omega (arith, x, y, z)
        by_place false true = omega (arith, x, y, z)
        by_place false false = omega (arith, x, y, z)
    by_test true b true us un hs hn is x y z = let same : t ≡ u = eqb-true _ _ is in let le : 1 ≤ times_waiting u urgent = rw (← same) (us refl) in omega (arith, x, y, z, le)
    by_test false true true us un hs hn is x y z = let same : t ≡ u = eqb-true _ _ is in let none : times_waiting u urgent ≡ 0 = rw (← same) (un refl) in let le : 1 ≤ times_waiting u high = rw (← same) (hs refl) in omega (arith, x, y, z, none, le)
    by_test false false true us un hs hn is x y z =
        let same : t ≡ u = eqb-true _ _ is in
        let none : times_waiting u urgent ≡ 0 = rw (← same) (un refl) in
        let nor : times_waiting u high ≡ 0 = rw (← same) (hn refl) in
        let le : 1 ≤ times_waiting u urgent + times_waiting u high + times_waiting u normal = rw (← same) some in
        omega (arith, x, y, z, none, nor, le)

-- ---- the first of those that wait

-- what is said of the first of three lists: it waits, its control is found, and it is of the last list only where no grace stands
pub record IsFirst (t : ℕ) (control : Control) (urgent high normal : List (ℕ × Control)) (standing : Option Grace) : Type 0 where
  pub some : 1 ≤ times_waiting t urgent + times_waiting t high + times_waiting t normal
  pub found : found t (urgent ++ high ++ normal) ≡ Some control
  pub presses : has t urgent ≡ false → has t high ≡ false → standing ≡ None

pub is_first : (t : ℕ) (control : Control) (urgent high normal : List (ℕ × Control)) (standing : Option Grace) → first urgent high (unless_grace standing normal) ≡ Some (t, control) → IsFirst t control urgent high normal standing
is_first t control (x ∷ urgent) high normal standing e =
    let is : x ≡ (t, control) = cc in
    rw is (record { some = rw (eq-eqb t t refl) (omega arith); found = rw (eq-eqb t t refl) refl; presses = λ a b. (let held : true ≡ false = (rw (eq-eqb t t refl) at a) in absurd cc) })
is_first t control [] (x ∷ high) normal standing e =
    let is : x ≡ (t, control) = cc in
    rw is (record { some = rw (eq-eqb t t refl) (omega arith); found = rw (eq-eqb t t refl) refl; presses = λ a b. (let held : true ≡ false = (rw (eq-eqb t t refl) at b) in absurd cc) })
is_first t control [] [] normal (Some g) e = absurd cc
is_first t control [] [] [] None e = absurd cc
is_first t control [] [] (x ∷ normal) None e =
    let is : x ≡ (t, control) = cc in
    rw is (record { some = rw (eq-eqb t t refl) (omega arith); found = rw (eq-eqb t t refl) refl; presses = λ a b. refl })

-- ---- a ticket that is picked is in hand or parked

pub picked_times : (o : Option Control) (t u : ℕ) (now : CommandState) (hand parked : List ℕ) → times u (takes o t now hand) + times u (parks o t now parked) ≡ times u hand + times u parked + once (t == u)
picked_times (Some NextEnding) t u now hand parked = by_test (is_finished now)
  where
    by_test : (b : Bool) → times u (cond b (hand ++ t ∷ []) hand) + times u (cond b parked (parked ++ t ∷ [])) ≡ times u hand + times u parked + once (t == u)
    by_test true = let h = times_append t u hand in omega (arith, h)
    by_test false = let h = times_append t u parked in omega (arith, h)
picked_times (_) t u now hand parked = let h = times_append t u hand in omega (arith, h)

-- what is in hand stays there
pub takes_more : (o : Option Control) (t u : ℕ) (now : CommandState) (hand : List ℕ) → times u hand ≤ times u (takes o t now hand)
takes_more (Some NextEnding) t u now hand = by_test (is_finished now)
  where
    by_test : (b : Bool) → times u hand ≤ times u (cond b (hand ++ t ∷ []) hand)
    by_test true = let h = times_append t u hand in omega (arith, h)
    by_test false = omega arith
takes_more (_) t u now hand = let h = times_append t u hand in omega (arith, h)

-- the ticket itself is in hand, where it isn't parked
pub takes_it : (control : Control) (t : ℕ) (now : CommandState) (hand : List ℕ) → is_parking control now ≡ false → 1 ≤ times t (takes (Some control) t now hand)
takes_it NextEnding t now hand e = by_test (is_finished now) e
  where
    by_test : (b : Bool) → not b ≡ false → 1 ≤ times t (cond b (hand ++ t ∷ []) hand)
    by_test true h = let more = times_append t t hand in rw more (rw (eq-eqb t t refl) (omega arith))
    by_test false h = absurd cc
takes_it (_) t now hand e = let more = times_append t t hand in rw more (rw (eq-eqb t t refl) (omega arith))

-- a ticket is parked behind the others, or isn't
pub parks-not : (control : Control) (t : ℕ) (now : CommandState) (ts : List ℕ) → is_parking control now ≡ false → parks (Some control) t now ts ≡ ts
parks-not NextEnding t now ts e = by_test (is_finished now) e
  where
    by_test : (b : Bool) → not b ≡ false → cond b ts (ts ++ t ∷ []) ≡ ts
    by_test true h = refl
    by_test false h = absurd cc
parks-not (_) t now ts e = refl

pub parks-one : (control : Control) (t : ℕ) (now : CommandState) (ts : List ℕ) → is_parking control now ≡ true → parks (Some control) t now ts ≡ ts ++ t ∷ []
parks-one NextEnding t now ts e = by_test (is_finished now) e
  where
    by_test : (b : Bool) → not b ≡ true → cond b ts (ts ++ t ∷ []) ≡ ts ++ t ∷ []
    by_test true h = absurd cc
    by_test false h = refl
parks-one (_) t now ts e = absurd cc
