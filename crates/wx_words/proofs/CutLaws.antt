use Rattle.std.proofs.Common.{◌≡◌, ℕ, ◌+◌, ◌-◌, ◌<◌, ◌≤◌, Bool, List, [], ◌∷◌, length, take, drop, get_or, ap, ◌∙◌, arith, eq-eqb, ne_eqb}
use Rattle.std.specs.Prelude.{◌==◌}
use Rattle.std.specs.List.{slice_split, position_or_len, before_first, after_first}
use Rattle.std.proofs.lemmas.List.Splits.{slice_split_first, slice_split_none}
use Rattle.std.proofs.lemmas.List.{get_or_default, take_all, length-drop}
use Rattle.std.proofs.lemmas.List.Sums.{position_or_len_is}
use Rattle.wx_words.specs.Line.{parts}

abbrev pub NotBefore : List ℕ → ℕ → ℕ → Type 0
NotBefore line c i = (k : ℕ) → k < i → get_or line k 0 ≡ c → ⊥

pub cut_at : (line : List ℕ) (c i : ℕ) → i < length line → NotBefore line c i → get_or line i 0 ≡ c → parts c line ≡ take i line ∷ parts c (drop (i + 1) line)
cut_at line c i lt before here =
    let p : ℕ → Bool = λ b. b == c in
    let place : position_or_len p line ≡ i = position_or_len_is p line i 0 (omega arith) (λ k below. ne_eqb _ _ (before k below)) (λ _. eq-eqb _ _ here) in
    let first : slice_split p line ≡ before_first p line ∷ slice_split p (after_first p line) = slice_split_first p line 0 (omega arith) in
    first ∙ ap (λ (n : ℕ). take n line ∷ slice_split p (drop (n + 1) line)) place

pub cut_none : (line : List ℕ) (c i : ℕ) → length line ≤ i → NotBefore line c i → parts c line ≡ line ∷ []
cut_none line c i le before = slice_split_none (λ b. b == c) line (λ k d lt. ne_eqb _ _ (λ e. before k (omega arith) (get_or_default line k 0 d lt ∙ e)))

pub cut_here : (line : List ℕ) (c i : ℕ) → i < length line → NotBefore line c i → get_or line i 0 ≡ c → parts c line ≡ take i line ∷ parts c (take (length line - (i + 1)) (drop (i + 1) line))
cut_here line c i lt before here =
    let whole : take (length line - (i + 1)) (drop (i + 1) line) ≡ drop (i + 1) line = take_all (length line - (i + 1)) (drop (i + 1) line) (omega (arith, length-drop (i + 1) line)) in
    rw whole (cut_at line c i lt before here)
