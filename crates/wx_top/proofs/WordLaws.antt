-- Lists of two words.
use Rattle.std.proofs.Common.{ℕ, ◌≡◌, ◌<◌, ◌≤◌, ◌+◌, ◌-◌, ◌⊎◌, true, false, Option, None, List, [], ◌∷◌, length, get_or, refl, arith, inl, inr}
use Rattle.std.specs.Prelude.{codes}
use Rattle.std.specs.Str.{bytes_eq}
use Rattle.wx_top.specs.Requests.{flood_of, is_ignore, live_behind}
use Rattle.wx_top.specs.declared.request.Request.{Request}

-- a list of two items is these items
pub two_words : (words : List (List ℕ)) (first second : List ℕ) → 2 ≤ length words → length words < 3 → first ≡ get_or words 0 first → second ≡ get_or words 1 second → words ≡ first ∷ second ∷ []
two_words [] first second some few a b = absurd (omega arith)
two_words (x ∷ []) first second some few a b = absurd (omega arith)
two_words (x ∷ y ∷ []) first second some few a b = cc
two_words (x ∷ y ∷ z ∷ words) first second some few a b = absurd (omega arith)

-- behind `flood` stand just two
pub other_count : (words : List (List ℕ)) → (length words < 2) ⊎ (2 < length words) → flood_of words ≡ None
other_count [] other = refl
other_count (x ∷ []) other = refl
other_count (x ∷ y ∷ []) (inl few) = absurd (omega (arith, few))
other_count (x ∷ y ∷ []) (inr many) = absurd (omega (arith, many))
other_count (x ∷ y ∷ z ∷ words) other = refl

-- words that go on behind one more pattern
pub goes_on : (room : ℕ) (rest behind after : List (List ℕ)) (word next : List ℕ) (turns from before : ℕ) (r : Option Request) → rest ≡ word ∷ behind → behind ≡ next ∷ after → bytes_eq word (codes "--") ≡ false → is_ignore room word next ≡ true → live_behind room rest turns from before ≡ r
    → live_behind (room - 1) after turns from (before + 2) ≡ r
goes_on room rest behind after word next turns from before r is then other so same = rw (is, then, other, so) at same
