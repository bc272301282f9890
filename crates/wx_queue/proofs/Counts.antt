-- A list of items is as long as the lists of its passes together.
use Rattle.std.proofs.Common.{◌≡◌, ◌≢◌, ℕ, zero, suc, ◌==◌, ◌<◌, ◌≤◌, ◌+◌, Bool, true, false, cond, List, [], ◌∷◌, length, sym, refl, ap, ◌∙◌, arith}
use Rattle.std.proofs.lemmas.Bool.Decides.{nat_tests}
use Rattle.wx_queue.specs.declared.parcel.Sent.{Sent}
use Rattle.wx_queue.specs.Rule.{of}

module _ {I : Type 0} where
  abbrev tally : ℕ → List (Sent I) → ℕ
  tally zero l = 0
  tally (suc n) l = length (of n l) + tally n l

  of_first : (x : Sent I) (xs : List (Sent I)) (k : ℕ) (b : Bool) → (x.pass == k) ≡ b → of k (x ∷ xs) ≡ cond b (x ∷ of k xs) (of k xs)
  of_first x xs k b e = ap (λ b. cond b (x ∷ of k xs) (of k xs)) e

  -- an item that is of no pass below n counts nothing
  past : (n : ℕ) (x : Sent I) (xs : List (Sent I)) → n ≤ x.pass → tally n (x ∷ xs) ≡ tally n xs
  past zero x xs le = refl
  past (suc n) x xs le =
      let other : (x.pass == n) ≡ false = grind (arith, nat_tests) in
      let rest : tally n (x ∷ xs) ≡ tally n xs = past n x xs (omega arith) in
      let here : length (of n (x ∷ xs)) ≡ length (of n xs) = ap length (of_first x xs n false other) in
      omega arith

  one : (n : ℕ) (x : Sent I) (xs : List (Sent I)) → x.pass < n → tally n (x ∷ xs) ≡ suc (tally n xs)
  one zero x xs lt = absurd (omega arith)
  one (suc n) x xs lt =
      let E : Bool → Type 0 = λ b. (x.pass == n) ≡ b → tally (suc n) (x ∷ xs) ≡ suc (tally (suc n) xs) in
      let cases : (b : Bool) → E b = λ b. elim b as E [
        | true ↦ λ is.
            let same : x.pass ≡ n = grind (arith, nat_tests) in
            let rest : tally n (x ∷ xs) ≡ tally n xs = past n x xs (omega arith) in
            let here : length (of n (x ∷ xs)) ≡ suc (length (of n xs)) = ap length (of_first x xs n true is) in
            omega arith
        | false ↦ λ is.
            let differs : x.pass ≢ n = grind (arith, nat_tests) in
            let rest : tally n (x ∷ xs) ≡ suc (tally n xs) = one n x xs (omega (arith, differs)) in
            let here : length (of n (x ∷ xs)) ≡ length (of n xs) = ap length (of_first x xs n false is) in
            omega arith
      ] in
      cases (x.pass == n) refl

  same_tally : (n : ℕ) (l m : List (Sent I)) → ((k : ℕ) → k < n → of k l ≡ of k m) → tally n l ≡ tally n m
  same_tally zero l m each = refl
  same_tally (suc n) l m each =
      let here : length (of n l) ≡ length (of n m) = ap length (each n (omega arith)) in
      let rest : tally n l ≡ tally n m = same_tally n l m (λ k lt. each k (omega arith)) in
      omega arith

  -- nothing is of a pass from n on
  abbrev pub IsBelow : ℕ → List (Sent I) → Type 0
  IsBelow n l = (k : ℕ) → n ≤ k → of k l ≡ []

  nil_differs : (x : Sent I) (xs : List (Sent I)) → (x ∷ xs) ≢ []
  nil_differs x xs e = cc

  pub first_below : (n : ℕ) (x : Sent I) (xs : List (Sent I)) → IsBelow n (x ∷ xs) → x.pass < n
  first_below n x xs none =
      let same : (x.pass == x.pass) ≡ true = grind (arith, nat_tests) in
      let no : (n ≤ x.pass) → ⊥ = λ le. nil_differs x (of x.pass xs) (sym (of_first x xs x.pass true same) ∙ none x.pass le) in
      omega (arith, no)

  pub rest_below : (n : ℕ) (x : Sent I) (xs : List (Sent I)) → IsBelow n (x ∷ xs) → IsBelow n xs
  rest_below n x xs none k le =
      let lt : x.pass < n = first_below n x xs none in
      let other : (x.pass == k) ≡ false = grind (arith, nat_tests) in
      sym (of_first x xs k false other) ∙ none k le

  all_counted : (n : ℕ) (l : List (Sent I)) → IsBelow n l → length l ≡ tally n l
  all_counted zero [] none = refl
  all_counted (suc n) [] none =
      let rest : 0 ≡ tally n [] = all_counted n [] (λ k le. refl) in
      omega arith
  all_counted n (x ∷ xs) none =
      let lt : x.pass < n = first_below n x xs none in
      let rest : length xs ≡ tally n xs = all_counted n xs (rest_below n x xs none) in
      let more : tally n (x ∷ xs) ≡ suc (tally n xs) = one n x xs lt in
      omega arith

  -- where the same is of each pass, the lists are as long
  pub same_length : (n : ℕ) (l m : List (Sent I)) → IsBelow n l → IsBelow n m → ((k : ℕ) → k < n → of k l ≡ of k m) → length l ≡ length m
  same_length n l m left right each = all_counted n l left ∙ same_tally n l m each ∙ sym (all_counted n m right)
