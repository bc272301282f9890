-- Lines, words and bytes.
use Rattle.std.proofs.Common.{◌≡◌, true, eq-eqb, ◌<◌, length, arith, ℕ, List, [], ◌∷◌, ◌++◌, refl, sym, ap, ◌∙◌, append_assoc}
use Rattle.std.specs.Prelude.{◌==◌, nat_eq}
use Rattle.std.specs.Str.{bytes_eq}
use Rattle.std.proofs.lemmas.Bool.{eqb-true, and_parts}
use Rattle.std.proofs.lemmas.List.{append-nil}
use Rattle.std.proofs.lemmas.List.Splits.{length-slice_split}
use Rattle.wx_words.specs.Line.{spaced, joined, behind, parts}

pub spaced-append : (vs ws : List (List ℕ)) → spaced (vs ++ ws) ≡ spaced vs ++ spaced ws
spaced-append [] ws = refl
spaced-append (v ∷ vs) ws = ap (λ (x : List ℕ). 32 ∷ x) (ap (λ (x : List ℕ). v ++ x) (spaced-append vs ws) ∙ sym (append_assoc v (spaced vs) (spaced ws)))

pub ruleset spaces = (spaced-append)

-- words behind words
pub behind-behind : (text : List ℕ) (vs ws : List (List ℕ)) → behind (behind text vs) ws ≡ behind text (vs ++ ws)
unfolding behind
behind-behind text vs ws = append_assoc text (spaced vs) (spaced ws) ∙ ap (λ (t : List ℕ). text ++ t) (sym (spaced-append vs ws))

pub behind-nothing : (text : List ℕ) → behind text [] ≡ text
unfolding behind
behind-nothing text = append-nil text

pub ruleset behinds = (behind-behind, behind-nothing)

-- a first word with no space before it, and the words behind it
pub behind-word : (old w : List ℕ) (ws : List (List ℕ)) → behind (old ++ w) ws ≡ old ++ joined (w ∷ ws)
unfolding behind
behind-word old w ws = append_assoc old w (spaced ws)

pub ruleset begins = (behind-behind, behind-nothing, behind-word)

pub some_part : (c : ℕ) (line : List ℕ) → 0 < length (parts c line)
some_part c line = omega (arith, length-slice_split (λ b. b == c) line)

pub bytes_same : (a b : List ℕ) → bytes_eq a b ≡ true → a ≡ b
bytes_same [] [] e = refl
bytes_same [] (y ∷ ys) e = absurd cc
bytes_same (x ∷ xs) [] e = absurd cc
bytes_same (x ∷ xs) (y ∷ ys) e =
    let h = and_parts (nat_eq x y) (bytes_eq xs ys) e in
    let p : x ≡ y = eqb-true x y h.0 in
    let q : xs ≡ ys = bytes_same xs ys h.1 in cc

pub bytes_again : (v : List ℕ) → bytes_eq v v ≡ true
bytes_again [] = refl
bytes_again (b ∷ v) = rw (eq-eqb b b refl, bytes_again v) refl
