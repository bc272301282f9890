-- The lists of the passes, each in the place of its number, and what is known at the end.
use Rattle.std.proofs.Common.{◌≡◌, ◌≢◌, ℕ, zero, suc, ◌<◌, ◌≤◌, ◌+◌, List, [], ◌∷◌, ◌++◌, map, length, length-append, set, take, sym, refl, ap, ◌∙◌, subst, ◌⊎◌, ⊎_elim, append-nil, slice_get, get_or, Some, All, arith}
use Rattle.std.proofs.Math.ListN.{length-map}
use Rattle.std.proofs.lemmas.List.Elements.{All-nil, All-cons}
use Rattle.std.specs.List.{IsDistinct}
use Rattle.std.specs.Prelude.{nat_eq}
use mathlib.Core.Option.{some, some-ne-none}
use lib.ListN.{get_elem?}
use Rattle.wx_queue.specs.declared.rule.Known.{Known}
use Rattle.wx_queue.specs.declared.parcel.Sent.{Sent}
use Rattle.wx_queue.specs.Rule.{numbers, of, has, Tells, IsNoted}
use Rattle.wx_queue.specs.Ends.{SendingEnd, entry}
use Rattle.wx_queue.proofs.Keeps.{has_more, first_differs, all_in, of-append}
use Rattle.wx_queue.proofs.Counts.{IsBelow, first_below, rest_below, same_length}

module _ {X : Type 0} where
  get_set_same : (l : List X) (i : ℕ) (x : X) → i < length l → slice_get (set l i x) i ≡ Some x
  get_set_same [] i x lt = absurd (omega arith)
  get_set_same (y ∷ l) zero x lt = refl
  get_set_same (y ∷ l) (suc i) x lt = get_set_same l i x (omega arith)

  get_set_other : (l : List X) (i j : ℕ) (x : X) → j ≢ i → slice_get (set l i x) j ≡ slice_get l j
  get_set_other [] i j x ne = refl
  get_set_other (y ∷ l) zero zero x ne = absurd (ne refl)
  get_set_other (y ∷ l) zero (suc j) x ne = refl
  get_set_other (y ∷ l) (suc i) zero x ne = refl
  get_set_other (y ∷ l) (suc i) (suc j) x ne = get_set_other l i j x (λ e. ne (ap suc e))

  pub get_take : (l : List X) (n k : ℕ) → k < n → slice_get (take n l) k ≡ slice_get l k
  get_take l zero k lt = absurd (omega arith)
  get_take [] (suc n) k lt = refl
  get_take (y ∷ l) (suc n) zero lt = refl
  get_take (y ∷ l) (suc n) (suc k) lt = get_take l n k (omega arith)

module _ {I : Type 0} where
  -- where no pass was taken in, nothing is claimed of the lists
  pub none_noted : (l : List (ℕ × List (Sent I))) (rows : List (List (Sent I))) → l ≡ [] → IsNoted l rows
  none_noted l rows none e there = absurd (some-ne-none e (sym there.1 ∙ ap (λ m. get_elem? m there.0) none))

  pub noted_more : (n : ℕ) (s : List (Sent I)) (l : List (ℕ × List (Sent I))) (rows : List (List (Sent I))) → n < length rows
      → IsDistinct nat_eq (numbers ((n, s) ∷ l)) → IsNoted l rows → IsNoted ((n, s) ∷ l) (set rows n s)
  noted_more n s l rows lt d each e there = ⊎_elim
      (λ (x : has l e). get_set_other rows n e.0 s (first_differs n s l d e x) ∙ each e x)
      (λ (x : (n, s) ≡ e). subst (λ (y : ℕ × List (Sent I)). slice_get (set rows n s) y.0 ≡ Some y.1) x (get_set_same rows n s lt))
      (has_more l (n, s) e there)

  -- where each pass was taken in, what was taken since is no more than the queue held then
  pub fits : (v w : Known I) (more first rest : List (Sent I)) → w.noted ≡ v.noted → w.made ≡ v.made → w.given ≡ v.given ++ more
      → v.made ≤ length v.noted → Tells v first → Tells w rest → length more ≤ length first
  fits v w more first rest noted made given whole then now =
      let many : v.made ≤ length (numbers v.noted) = omega (arith, length-map v.noted (λ (e : ℕ × List (Sent I)). e.0)) in
      let each : (k : ℕ) → k < v.made → of k (v.given ++ first) ≡ of k ((v.given ++ more) ++ rest) =
      λ k lt. let e = all_in v.noted v.made then.apart then.below many k lt in
      then.all (k, e.0) e.1 ∙ sym (now.all (k, e.0) (subst (λ l. has l (k, e.0)) (sym noted) e.1)) ∙ ap (λ l. of k (l ++ rest)) given in
      let below : IsBelow v.made ((v.given ++ more) ++ rest) =
      λ k le. ap (λ l. of k (l ++ rest)) (sym given) ∙ now.more k (subst (λ n. n ≤ k) (sym made) le) in
      let same : length (v.given ++ first) ≡ length ((v.given ++ more) ++ rest) = same_length v.made (v.given ++ first) ((v.given ++ more) ++ rest) then.more below each in
      omega (arith, same, length-append v.given first, length-append (v.given ++ more) rest, length-append v.given more)

  -- where the queue is empty, what was taken since is all that was left
  pub all_left : (v w : Known I) (left : List (Sent I)) → w.noted ≡ v.noted → w.made ≡ v.made → w.given ≡ v.given ++ left → Tells w [] → Tells v left
  all_left v w left noted made given now =
      let at : (k : ℕ) → of k (v.given ++ left) ≡ of k (w.given ++ []) = λ k. ap (of k) (sym given ∙ sym (append-nil w.given)) in
      record {
        apart = subst (λ l. IsDistinct nat_eq (numbers l)) noted now.apart;
        below = λ e there. subst (λ n. e.0 < n) made (now.below e (subst (λ l. has l e) (sym noted) there));
        all = λ e there. at e.0 ∙ now.all e (subst (λ l. has l e) (sym noted) there);
        more = λ k le. at k ∙ now.more k (subst (λ n. n ≤ k) (sym made) le);
      }

  module _ {P : Type 0} (end : P → SendingEnd I) where
    at_entry : (ps : List P) (k : ℕ) (d : P) → k < length ps → get_elem? (map (λ p. entry (end p)) ps) k ≡ some (entry (end (get_or ps k d)))
    at_entry [] k d lt = absurd (omega arith)
    at_entry (p ∷ ps) zero d lt = refl
    at_entry (p ∷ ps) (suc k) d lt = at_entry ps k d (omega arith)

    -- each pass that was handed in has its list in the place of its number
    pub each_sent : (v : Known I) (left : List (Sent I)) (ps : List P) (rows : List (List (Sent I))) (n : ℕ) → v.made ≡ n → v.noted ≡ map (λ p. entry (end p)) ps
        → Tells v left → IsNoted v.noted rows → All (λ p. slice_get (take n rows) (end p).number ≡ Some (end p).sent) ps
    each_sent v left ps rows n made noted now each k d lt =
        let e : ℕ × List (Sent I) = entry (end (get_or ps k d)) in
        let there : has v.noted e = subst (λ l. has l e) (sym noted) (k, at_entry ps k d lt) in
        get_take rows n e.0 (subst (λ m. e.0 < m) made (now.below e there)) ∙ each e there

  -- what was given of a pass, and then what was left of it, is its list
  pub each_delivered : (v : Known I) (given left : List (Sent I)) (rows : List (List (Sent I))) (n : ℕ) → v.made ≡ n → v.given ≡ given → v.made ≤ length v.noted
      → Tells v left → IsNoted v.noted rows → (k : ℕ) → k < n → slice_get (take n rows) k ≡ Some (of k given ++ of k left)
  each_delivered v given left rows n made is whole now each k lt =
      let many : v.made ≤ length (numbers v.noted) = omega (arith, length-map v.noted (λ (e : ℕ × List (Sent I)). e.0)) in
      let e = all_in v.noted v.made now.apart now.below many k (subst (λ m. k < m) (sym made) lt) in
      get_take rows n k lt ∙ each (k, e.0) e.1 ∙ ap (λ (s : List (Sent I)). Some s) (sym (now.all (k, e.0) e.1) ∙ ap (λ l. of k (l ++ left)) is ∙ of-append k given left)

  below_each : (n : ℕ) (l : List (Sent I)) → IsBelow n l → All (λ s. s.pass < n) l
  below_each n [] none = All-nil (λ (s : Sent I). s.pass < n)
  below_each n (x ∷ xs) none = All-cons (λ (s : Sent I). s.pass < n) x xs (first_below n x xs none) (below_each n xs (rest_below n x xs none))

  -- nothing is of a pass that wasn't made
  pub only_made : (v : Known I) (given left : List (Sent I)) (n : ℕ) → v.made ≡ n → v.given ≡ given → Tells v left → All (λ s. s.pass < n) (given ++ left)
  only_made v given left n made is now =
      below_each n (given ++ left) (λ k le. ap (λ l. of k (l ++ left)) (sym is) ∙ now.more k (subst (λ m. m ≤ k) (sym made) le))
