use Rattle.std.proofs.Common.{◌≡◌, ◌≢◌, ◌++◌, ◌∷◌, [], ℕ, List, Option, Some, None, true, MatchOption, Bor, refl, ap, ◌∙◌}
use Rattle.std.specs.Prelude.{◌==◌}
use Rattle.std.proofs.lemmas.Bool.Decides.{Decides-eqb}
use Rattle.std.proofs.lemmas.Slice.Eq.{strip_prefix_is}
use Rattle.wx_events.specs.Keys.{behind_front}
use Rattle.wx_events.specs.KeyLaws.{front_is}
use Rattle.wx_events.proofs.keyboard.behind_front.Goals as goal

front_found : (front rest : List ℕ) → behind_front front (front ++ rest) ≡ Some rest
front_found [] rest = refl
front_found (b ∷ front) rest = let same : (b == b) ≡ true = (Decides-eqb b b).1 refl in rw same (front_found front rest)

-- what isn't found isn't there
not_found : (front word : List ℕ) (o : Option (List ℕ)) → behind_front front word ≡ o → ((rest : List ℕ) → word ≢ front ++ rest) → o ≡ None
not_found front word None e absent = refl
not_found front word (Some rest) e absent = absurd (absent rest (front_is front word rest e))

by_result : (front word : List ℕ) (r : Option (Bor (List ℕ))) → MatchOption r ((rest : List ℕ) → word ≢ front ++ rest) (λ x. word ≡ front ++ x.now) → MatchOption r (behind_front front word ≡ None) (λ x. behind_front front word ≡ Some x.now)
by_result front word None absent = not_found front word (behind_front front word) refl absent
by_result front word (Some x) e = ap (behind_front front) e ∙ front_found front x.now

pub returns : goal.returns
returns c = by_result c.args.front.now c.args.word.now _ (strip_prefix_is Decides-eqb c.args.word.now c.args.front.now _ c.strip_prefix.ensures.cases)
