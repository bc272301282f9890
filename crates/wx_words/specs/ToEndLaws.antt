-- Values to the end of a line are read again from their words.
use Rattle.std.proofs.Common.{◌≡◌, ℕ, zero, suc, ◌<◌, ◌≤◌, Some, List, [], ◌∷◌, ◌++◌, length, refl, ◌∙◌, length-append, arith}
use Rattle.std.specs.List.{flat_map, AllByRecursion}
use Rattle.wx_words.specs.Line.{◌>>=◌}
use Rattle.wx_words.specs.Combine.{Reader}
use Rattle.wx_words.specs.Spellings.{Kind, Spelling}
use Rattle.wx_words.specs.ToEnd.{HasWord, read_all, all_in}

pub some_word : (ws : List (List ℕ)) → (ws ≡ [] → ⊥) → 0 < length ws
some_word [] some = absurd (some refl)
some_word (w ∷ ws) some = omega arith

-- where a word is left, a value is read
one_more : {X : Type 0} (read : Reader X) (most : ℕ) (ws : List (List ℕ)) → 0 < length ws → read_all read (suc most) ws ≡ (read ws >>= λ x. read_all read most x.1 >>= λ xs. Some (x.0 ∷ xs))
one_more read most [] some = absurd (omega arith)
one_more read most (w ∷ ws) some = refl

each_has_word : {kind : Kind} {X : Type 0} (s : Spelling kind X) → HasWord s → (xs : List X) → length xs ≤ length (flat_map s.words xs)
each_has_word s some [] = omega arith
each_has_word s some (x ∷ xs) = omega (arith, length-append (s.words x) (flat_map s.words xs), some_word (s.words x) (some x), each_has_word s some xs)

again : {kind : Kind} {X : Type 0} (s : Spelling kind X) → HasWord s → (xs : List X) (most : ℕ) → AllByRecursion s.fits xs → length xs ≤ most → read_all s.read most (flat_map s.words xs) ≡ Some xs
again s some [] zero fits le = refl
again s some [] (suc most) fits le = refl
again s some (x ∷ xs) zero fits le = absurd (omega arith)
again s some (x ∷ xs) (suc most) fits le =
    one_more s.read most (s.words x ++ flat_map s.words xs) (omega (arith, length-append (s.words x) (flat_map s.words xs), some_word (s.words x) (some x)))
    ∙ rw (s.form.again x (flat_map s.words xs) fits.0, again s some xs most fits.1 (omega arith)) refl

pub all_again : {kind : Kind} {X : Type 0} (s : Spelling kind X) → HasWord s → (xs : List X) → AllByRecursion s.fits xs → all_in s.read (flat_map s.words xs) ≡ Some xs
all_again s some xs fits = again s some xs (length (flat_map s.words xs)) fits (each_has_word s some xs)
