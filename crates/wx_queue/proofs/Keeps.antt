-- Each move keeps the rule.
use Rattle.std.proofs.Common.{◌≡◌, ◌≢◌, ℕ, zero, suc, ◌==◌, ◌<◌, ◌≤◌, ◌+◌, ◌||◌, Bool, true, false, true≢false, cond, List, [], ◌∷◌, ◌++◌, map, length, set, sym, refl, ap, ◌∙◌, subst, inl, inr, ◌⊎◌, ⊎_elim, append_assoc, append-nil, lt_of_not-le, arith}
use Rattle.std.proofs.lemmas.Bool.Decides.{nat_tests}
use Rattle.std.proofs.lemmas.List.Elements.{filter-append}
use mathlib.Core.List.{map-append}
use mathlib.Core.Option.{Option, some, none, some-injective, some-ne-none}
use lib.ListN.{get_elem?}
use Rattle.crossbeam_queue.specs.Fifo.{Pushes, Pops, Forks, Merges, Learns}
use Rattle.crossbeam_queue.proofs.Lists.{at_set}
use Rattle.wx_queue.specs.declared.rule.Known.{Known}
use Rattle.wx_queue.specs.declared.parcel.Sent.{Sent}
use Rattle.std.specs.List.{IsDistinct, AllByRecursion, list_any}
use Rattle.std.specs.Prelude.{nat_eq}
use Rattle.std.proofs.lemmas.Map.Steps.{length-le_from_distinct_below}
use Rattle.wx_queue.specs.Rule.{numbers, known, of, has, FitsPass, FitsWorld, Fits, Delivers, Tells}

-- a test of numbers, both ways
pub same_test : (a b : ℕ) → a ≡ b → (a == b) ≡ true
same_test a b e = grind (arith, nat_tests)

pub other_test : (a b : ℕ) → a ≢ b → (a == b) ≡ false
other_test a b n = grind (arith, nat_tests)

-- two numbers whose seats differ
apart : (seat : ℕ → Option ℕ) (a b : ℕ) → seat a ≢ seat b → a ≢ b
apart seat a b n e = n (ap seat e)

no_seat : (o p : Option ℕ) (i : ℕ) → o ≡ some i → p ≡ none → o ≢ p
no_seat o p i a b e = some-ne-none i (sym a ∙ e ∙ b)

two_seats : (o p : Option ℕ) (i j : ℕ) → o ≡ some i → p ≡ some j → i ≢ j → o ≢ p
two_seats o p i j a b n e = n (some-injective i j (sym a ∙ e ∙ b))

none_both : (b : Bool) → (o : Option ℕ) → o ≡ none → cond b none o ≡ none
none_both true o e = refl
none_both false o e = e

no_numbers : IsDistinct nat_eq []
unfolding IsDistinct
no_numbers = tt

one_more : (n : ℕ) (ns : List ℕ) → AllByRecursion (λ y. nat_eq n y ≡ false) ns → IsDistinct nat_eq ns → IsDistinct nat_eq (n ∷ ns)
unfolding IsDistinct
one_more n ns a d = (a, d)

-- a number that is ahead of others that differ from each other and from it
pub first_apart : (n : ℕ) (ns : List ℕ) → IsDistinct nat_eq (n ∷ ns) → AllByRecursion (λ y. nat_eq n y ≡ false) ns
unfolding IsDistinct
first_apart n ns d = d.0

module _ {I : Type 0} where
  -- what stands in a list with one more at its end
  snoc_cases : (l : List (Known I)) (a b : Known I) (j : ℕ) → get_elem? (l ++ a ∷ []) j ≡ some b → (get_elem? l j ≡ some b) ⊎ ((a ≡ b) × (j ≡ length l))
  snoc_cases [] a b zero e = inr (some-injective a b e, refl)
  snoc_cases [] a b (suc j) e = absurd (some-ne-none b (sym e))
  snoc_cases (x ∷ xs) a b zero e = inl e
  snoc_cases (x ∷ xs) a b (suc j) e = ⊎_elim (λ t. inl t) (λ t. inr (t.0, ap suc t.1)) (snoc_cases xs a b j e)

  abbrev All : (ℕ → Known I → Type 0) → List (Known I) → Type 0
  All F views = (place : ℕ) (v : Known I) → get_elem? views place ≡ some v → F place v

  all_set : (F : ℕ → Known I → Type 0) (views : List (Known I)) (port : ℕ) (w : Known I) → F port w → ((j : ℕ) (u : Known I) → j ≢ port → get_elem? views j ≡ some u → F j u) → All F (set views port w)
  all_set F views port w mine others j u e = ⊎_elim (λ (x : (j ≡ port) × (w ≡ u)). subst (λ (y : ℕ × Known I). F y.0 y.1) (λ i. (sym x.0 i, x.1 i)) mine)
      (λ (x : (j ≢ port) × (get_elem? views j ≡ some u)). others j u x.0 x.1) (at_set views port j w u e)

  of_mine : (x : Sent I) (k : ℕ) → x.pass ≡ k → of k (x ∷ []) ≡ x ∷ []
  of_mine x k e = ap (λ b. cond b (x ∷ []) []) (same_test x.pass k e)

  of_other : (x : Sent I) (k : ℕ) → x.pass ≢ k → of k (x ∷ []) ≡ []
  of_other x k n = ap (λ b. cond b (x ∷ []) []) (other_test x.pass k n)

  pub of-append : (k : ℕ) (xs ys : List (Sent I)) → of k (xs ++ ys) ≡ of k xs ++ of k ys
  of-append k xs ys = filter-append (λ (m : Sent I). m.pass == k) xs ys

  at_head : (l : List (ℕ × List (Sent I))) (a b : ℕ × List (Sent I)) (i : ℕ) → get_elem? (a ∷ l) i ≡ some b → has l b ⊎ (a ≡ b)
  at_head l a b zero e = inr (some-injective a b e)
  at_head l a b (suc i) e = inl (i, e)

  -- of a list with one more at its head, it is the first or is there
  pub has_more : (l : List (ℕ × List (Sent I))) (a b : ℕ × List (Sent I)) → has (a ∷ l) b → has l b ⊎ (a ≡ b)
  has_more l a b there = at_head l a b there.0 there.1

  all_apart : (l : List (ℕ × List (Sent I))) (n : ℕ) → ((e : ℕ × List (Sent I)) → has l e → e.0 ≢ n) → AllByRecursion (λ y. nat_eq n y ≡ false) (numbers l)
  all_apart [] n other = tt
  all_apart (x ∷ xs) n other = (other_test n x.0 (λ is. other x (0, refl) (sym is)), all_apart xs n (λ e there. other e (suc there.0, there.1)))

  module _ {T : Type 0} (mark : T → Sent I) where
    pub begins : Delivers mark [] (known true false 0 [] [] 0 [] ∷ [])
    begins = (
      0,
      (λ _. none),
      (λ _. []),
      [],
      (λ _. refl),
      λ place v e. ⊎_elim (λ x. absurd (some-ne-none v (sym x)))
          (λ (x : (known true false 0 [] [] 0 [] ≡ v) × (place ≡ 0)). subst (λ (u : Known I). Fits 0 (λ _. none) (λ _. []) [] place u) x.0
          ((λ p. absurd (true≢false (sym p))), λ _. (x.1, refl, (λ k _. (refl, refl)), (λ e' there. absurd (some-ne-none e' (sym there.1))), no_numbers)))
          (snoc_cases [] (known true false 0 [] [] 0 []) v place e),
    )

    pub sends : (n port : ℕ) (v : Known I) (x : T) → v.sends ≡ true → (mark x).pass ≡ v.number
        → Pushes (Delivers mark) n port v x (λ w. w ≡ known v.takes v.sends v.number (v.sent ++ mark x ∷ []) v.given v.made v.noted)
    sends n port v y may is items views _ h at =
        let x : Sent I = mark y in
        let w : Known I = known v.takes v.sends v.number (v.sent ++ x ∷ []) v.given v.made v.noted in
        let reader : ℕ = h.0 in let seat : ℕ → Option ℕ = h.1 in let sent : ℕ → List (Sent I) = h.2 in let given : List (Sent I) = h.3 in
        let mine = h.5 port v at in
        let sat : seat v.number ≡ some port = (mine.0 may).0 in
        let sent' : ℕ → List (Sent I) = λ k. sent k ++ of k (x ∷ []) in
        let quiet : (k : ℕ) → v.number ≢ k → sent' k ≡ sent k =
        λ k ne. ap (λ l. sent k ++ l) (of_other x k (λ e. ne (sym is ∙ e))) ∙ append-nil (sent k) in
        let world : (j : ℕ) (u : Known I) → FitsWorld reader seat sent given j u → FitsWorld reader seat sent' given j u =
        λ j u f takes. let g = f takes in (
          g.0,
          g.1,
          (λ k le. let r = g.2 k le in (r.0, quiet k (apart seat v.number k (no_seat (seat v.number) (seat k) port sat r.0)) ∙ r.1)),
          (λ e there. let r = g.3 e there in (r.0, r.1 ∙ sym (quiet e.0 (apart seat v.number e.0 (no_seat (seat v.number) (seat e.0) port sat r.0))), r.2)),
          g.4,
        ) in (
          w,
          (
            reader,
            seat,
            sent',
            given,
            (λ k. ap (λ l. of k (given ++ l)) (map-append mark items (y ∷ [])) ∙ ap (of k) (sym (append_assoc given (map mark items) (x ∷ []))) ∙ of-append k (given ++ map mark items) (x ∷ []) ∙ ap (λ l. l ++ of k (x ∷ [])) (h.4 k)),
            all_set (Fits reader seat sent' given) views port w
                ((λ _. (sat, ap (λ l. l ++ x ∷ []) (mine.0 may).1 ∙ ap (λ l. sent v.number ++ l) (sym (of_mine x v.number is)))), world port v mine.1)
                (λ j u other e. let f = h.5 j u e in
                ((λ s. let g = f.0 s in (g.0, g.1 ∙ sym (quiet u.number (apart seat v.number u.number (two_seats (seat v.number) (seat u.number) port j sat g.0 (λ q. other (sym q))))))), world j u f.1)),
          ),
          refl,
        )

    pub gets : (port : ℕ) (v : Known I) → v.takes ≡ true → Pops (Delivers mark) port v (λ x w. w ≡ known v.takes v.sends v.number v.sent (v.given ++ mark x ∷ []) v.made v.noted)
    gets port v may y items views h at =
        let x : Sent I = mark y in
        let w : Known I = known v.takes v.sends v.number v.sent (v.given ++ x ∷ []) v.made v.noted in
        let mine = h.5 port v at in let got = mine.1 may in let given : List (Sent I) = h.3 ++ x ∷ [] in (
          w,
          (
            h.0,
            h.1,
            h.2,
            given,
            (λ k. ap (of k) (append_assoc h.3 (x ∷ []) (map mark items)) ∙ h.4 k),
            all_set (Fits h.0 h.1 h.2 given) views port w
                (mine.0, λ _. (got.0, ap (λ l. l ++ x ∷ []) got.1, got.2, got.3, got.4))
                (λ j u other e. let f = h.5 j u e in (f.0, λ takes. absurd (other ((f.1 takes).0 ∙ sym got.0)))),
          ),
          refl,
        )

    pub forks : (port : ℕ) (v : Known I) → v.takes ≡ true
        → Forks (Delivers mark) port v (known v.takes v.sends v.number v.sent v.given (v.made + 1) v.noted) (known false true v.made [] [] 0 [])
    forks port v may items views h at =
        let l : Known I = known v.takes v.sends v.number v.sent v.given (v.made + 1) v.noted in let r : Known I = known false true v.made [] [] 0 [] in
        let reader : ℕ = h.0 in let seat : ℕ → Option ℕ = h.1 in let sent : ℕ → List (Sent I) = h.2 in let given : List (Sent I) = h.3 in
        let mine = h.5 port v at in let got = mine.1 may in
        let vs : List (Known I) = set views port l in
        let free = got.2 v.made (omega arith) in
        let seat' : ℕ → Option ℕ = λ k. cond (k == v.made) (some (length vs)) (seat k) in
        let kept : (k : ℕ) → k ≢ v.made → seat' k ≡ seat k = λ k ne. ap (λ b. cond b (some (length vs)) (seat k)) (other_test k v.made ne) in
        let pass : (j : ℕ) (u : Known I) → FitsPass seat sent j u → FitsPass seat' sent j u =
        λ j u f s. let g = f s in (kept u.number (apart seat u.number v.made (no_seat (seat u.number) (seat v.made) j g.0 free.0)) ∙ g.0, g.1) in
        let Old : ℕ → Known I → Type 0 = Fits reader seat' sent given in
        let old : All Old vs = all_set Old views port l (
          pass port v mine.0,
          λ _. (
            got.0,
            got.1,
            (λ k le. let q = got.2 k (omega arith) in (kept k (λ e. absurd (omega arith)) ∙ q.0, q.1)),
            (λ e there. let q = got.3 e there in (kept e.0 (λ is. absurd (omega arith)) ∙ q.0, q.1, omega arith)),
            got.4,
          ),
        )
        (λ j u other e. let f = h.5 j u e in (pass j u f.0, λ takes. absurd (other ((f.1 takes).0 ∙ sym got.0)))) in
        let new : (j : ℕ) → j ≡ length vs → Old j r =
        λ j is. ((λ _. (ap (λ b. cond b (some (length vs)) (seat v.made)) (same_test v.made v.made refl) ∙ ap some (sym is), sym free.1)), λ t. absurd (true≢false (sym t))) in (
          reader,
          seat',
          sent,
          given,
          h.4,
          λ j u e. ⊎_elim (λ x. old j u x) (λ (x : (r ≡ u) × (j ≡ length vs)). subst (λ (y : Known I). Old j y) x.0 (new j x.1)) (snoc_cases vs r u j e),
        )

    pub merges : (port : ℕ) (v : Known I) (other : ℕ) (w : Known I) → v.takes ≡ true → w.sends ≡ true
        → Merges (Delivers mark) port v other w (known v.takes v.sends v.number v.sent v.given v.made ((w.number, w.sent) ∷ v.noted)) (known false false 0 [] [] 0 [])
    merges port v other w takes may items views h at two at' =
        let both : Known I = known v.takes v.sends v.number v.sent v.given v.made ((w.number, w.sent) ∷ v.noted) in
        let reader : ℕ = h.0 in let seat : ℕ → Option ℕ = h.1 in let sent : ℕ → List (Sent I) = h.2 in let given : List (Sent I) = h.3 in
        let mine = h.5 port v at in let got = mine.1 takes in
        let vs : List (Known I) = set views port both in
        let was : get_elem? views other ≡ some w = ⊎_elim (λ x. absurd (two x.0)) (λ x. x.1) (at_set views port other both w at') in
        let theirs = (h.5 other w was).0 may in
        let seat' : ℕ → Option ℕ = λ k. cond (k == w.number) none (seat k) in
        let kept : (k : ℕ) → k ≢ w.number → seat' k ≡ seat k = λ k ne. ap (λ b. cond b none (seat k)) (other_test k w.number ne) in
        let gone : (k : ℕ) → seat k ≡ none → seat' k ≡ none = λ k e. none_both (k == w.number) (seat k) e in
        let pass : (j : ℕ) (u : Known I) → j ≢ other → FitsPass seat sent j u → FitsPass seat' sent j u =
        λ j u ne f s. let g = f s in (kept u.number (apart seat u.number w.number (two_seats (seat u.number) (seat w.number) j other g.0 theirs.0 ne)) ∙ g.0, g.1) in
        let below : w.number < v.made = lt_of_not-le (λ le. some-ne-none other (sym theirs.0 ∙ (got.2 w.number le).0)) in
        let Now : ℕ → Known I → Type 0 = λ j y. j ≢ other → Fits reader seat' sent given j y in
        let now : All Now vs = all_set Now views port both
        (λ ne. (
          pass port v ne mine.0,
          λ _. (
            got.0,
            got.1,
            (λ k le. let q = got.2 k le in (gone k q.0, q.1)),
            (λ e there. ⊎_elim (λ x. let q = got.3 e x in (gone e.0 q.0, q.1, q.2))
                (λ (x : (w.number, w.sent) ≡ e). subst (λ (y : ℕ × List (Sent I)). (seat' y.0 ≡ none) × (y.1 ≡ sent y.0) × (y.0 < v.made)) x
                (ap (λ b. cond b none (seat w.number)) (same_test w.number w.number refl), theirs.1, below))
                (has_more v.noted (w.number, w.sent) e there)),
            one_more w.number (numbers v.noted) (all_apart v.noted w.number (λ e there. apart seat e.0 w.number (λ is. some-ne-none other (sym theirs.0 ∙ sym is ∙ (got.3 e there).0)))) got.4,
          ),
        ))
        (λ j u ne' e ne. let f = h.5 j u e in (pass j u ne f.0, λ t. absurd (ne' ((f.1 t).0 ∙ sym got.0)))) in (
          reader,
          seat',
          sent,
          given,
          h.4,
          all_set (Fits reader seat' sent given) vs other (known false false 0 [] [] 0 [])
              ((λ t. absurd (true≢false (sym t))), λ t. absurd (true≢false (sym t)))
              (λ j u ne e. now j u e ne),
        )

    pub learns : (port : ℕ) (v : Known I) → v.takes ≡ true → Learns (Delivers mark) port v (λ items. Tells v (map mark items))
    learns port v may items views h at =
        let got = (h.5 port v at).1 may in
        let now : (k : ℕ) → of k (v.given ++ map mark items) ≡ h.2 k = λ k. ap (λ l. of k (l ++ map mark items)) got.1 ∙ h.4 k in
        record {
          apart = got.4;
          below = λ e there. (got.3 e there).2;
          all = λ e there. now e.0 ∙ sym (got.3 e there).1;
          more = λ k le. now k ∙ (got.2 k le).1;
        }

left_false : (a b : Bool) → (a || b) ≡ false → a ≡ false
left_false true b h = h
left_false false b h = refl

right_false : (a b : Bool) → (a || b) ≡ false → b ≡ false
right_false true b h = absurd (true≢false h)
right_false false b h = h

or_false : (a b : Bool) → a ≡ false → (a || b) ≡ true → b ≡ true
or_false true b n h = absurd (true≢false n)
or_false false b n h = h

first_or_below : (k : ℕ) (xs : List ℕ) (n : ℕ) → k < n → ((q : ℕ) → list_any (nat_eq q) xs ≡ true → q < n) → (q : ℕ) → list_any (nat_eq q) (k ∷ xs) ≡ true → q < n
first_or_below k xs n lt below q h =
    let E : Bool → Type 0 = λ b. nat_eq q k ≡ b → q < n in
    let cases : (b : Bool) → E b = λ b. elim b as E [
      | true ↦ λ is. let same : q ≡ k = grind (arith, nat_tests) in omega arith
      | false ↦ λ is. below q (or_false (nat_eq q k) (list_any (nat_eq q) xs) is h)
    ] in
    cases (nat_eq q k) refl

-- a number that no number of the list equals is apart from all
none_of : (k : ℕ) (xs : List ℕ) → list_any (nat_eq k) xs ≡ false → AllByRecursion (λ y. nat_eq k y ≡ false) xs
none_of k [] h = tt
none_of k (x ∷ xs) h = (left_false (nat_eq k x) (list_any (nat_eq k) xs) h, none_of k xs (right_false (nat_eq k x) (list_any (nat_eq k) xs) h))

-- n different numbers below n are all of them
pub covers : (xs : List ℕ) (n : ℕ) → IsDistinct nat_eq xs → ((q : ℕ) → list_any (nat_eq q) xs ≡ true → q < n) → n ≤ length xs → (k : ℕ) → k < n → list_any (nat_eq k) xs ≡ true
covers xs n d below len k lt =
    let C : Bool → Type 0 = λ b. list_any (nat_eq k) xs ≡ b → list_any (nat_eq k) xs ≡ true in
    let cases : (b : Bool) → C b = λ b. elim b as C [
      | true ↦ λ is. is
      | false ↦ λ is.
          let more : IsDistinct nat_eq (k ∷ xs) = one_more k xs (none_of k xs is) d in
          let most : length (k ∷ xs) ≤ n = length-le_from_distinct_below (k ∷ xs) n more
          (λ q h. first_or_below k xs n lt below q h) in
          absurd (omega (arith, most, len))
    ] in
    cases (list_any (nat_eq k) xs) refl

module _ {I : Type 0} where
  -- where a number stands among the numbers, an entry has it
  pub entry_of : (l : List (ℕ × List (Sent I))) (k : ℕ) → list_any (nat_eq k) (numbers l) ≡ true → (sent : List (Sent I)) × has l (k, sent)
  entry_of [] k h = absurd (true≢false (sym h))
  entry_of (x ∷ xs) k h =
      let D : Bool → Type 0 = λ b. nat_eq k x.0 ≡ b → (sent : List (Sent I)) × has (x ∷ xs) (k, sent) in
      let cases : (b : Bool) → D b = λ b. elim b as D [
        | true ↦ λ is. let same : k ≡ x.0 = grind (arith, nat_tests) in (x.1, (0, ap some (λ i. (sym same i, x.1))))
        | false ↦ λ is. let rest = entry_of xs k (or_false (nat_eq k x.0) (list_any (nat_eq k) (numbers xs)) is h) in (rest.0, (suc rest.1.0, rest.1.1))
      ] in
      cases (nat_eq k x.0) refl

  -- what a number among the numbers has is below the count
  pub below_of : (l : List (ℕ × List (Sent I))) (n : ℕ) → ((e : ℕ × List (Sent I)) → has l e → e.0 < n) → (q : ℕ) → list_any (nat_eq q) (numbers l) ≡ true → q < n
  below_of l n each q h = let e = entry_of l q h in each (q, e.0) e.1

  -- where as many were taken in as were made, each pass is among them
  pub all_in : (l : List (ℕ × List (Sent I))) (n : ℕ) → IsDistinct nat_eq (numbers l) → ((e : ℕ × List (Sent I)) → has l e → e.0 < n) → n ≤ length (numbers l) → (k : ℕ) → k < n → (sent : List (Sent I)) × has l (k, sent)
  all_in l n d each len k lt = entry_of l k (covers (numbers l) n d (below_of l n each) len k lt)

  apart_from : (n : ℕ) (l : List (ℕ × List (Sent I))) → AllByRecursion (λ y. nat_eq n y ≡ false) (numbers l) → (e : ℕ × List (Sent I)) (i : ℕ) → get_elem? l i ≡ some e → e.0 ≢ n
  apart_from n [] a e i at = absurd (some-ne-none e (sym at))
  apart_from n (x ∷ xs) a e zero at = λ is. true≢false (sym (same_test n x.0 (sym is ∙ sym (ap (λ (y : ℕ × List (Sent I)). y.0) (some-injective x e at)))) ∙ a.0)
  apart_from n (x ∷ xs) a e (suc i) at = apart_from n xs a.1 e i at

  -- the first entry's number is none of the others'
  pub first_differs : (n : ℕ) (s : List (Sent I)) (l : List (ℕ × List (Sent I))) → IsDistinct nat_eq (numbers ((n, s) ∷ l)) → (e : ℕ × List (Sent I)) → has l e → e.0 ≢ n
  first_differs n s l d e there = apart_from n l (first_apart n (numbers l) d) e there.0 there.1
