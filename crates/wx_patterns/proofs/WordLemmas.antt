-- The last pattern that matches, along a list of patterns.
use Rattle.std.proofs.Common.{◌≡◌, ℕ, ◌+◌, ◌<◌, Bool, true, false, cond, List, [], ◌∷◌, ◌++◌, length, replicate, get_or, take, refl, sym, ap, ◌∙◌}
use Rattle.std.specs.Prelude.{Option, None, Some, not}
use Rattle.std.specs.Option.{option_or}
use Rattle.std.proofs.lemmas.List.{take_more}
use Rattle.wx_patterns.specs.declared.pattern.Pattern.{Pattern}
use Rattle.wx_patterns.specs.Matching.{matches}
use Rattle.wx_patterns.specs.Ignoring.{last_match, hides, hidden_by}
use Rattle.wx_patterns.specs.Rows.{of_fronts, judged}
use Rattle.wx_patterns.proofs.RowLemmas.{of_fronts-same, judged-fronts}

last_match-push : (patterns : List Pattern) (p : Pattern) (names : List (List ℕ)) → last_match (patterns ++ p ∷ []) names ≡ cond (matches p.parts names) (Some p) (last_match patterns names)
last_match-push [] p names = refl
last_match-push (first ∷ patterns) p names =
    let other : Option Pattern = cond (matches first.parts names) (Some first) None in
    ap (λ (o : Option Pattern). option_or o other) (last_match-push patterns p names)
    ∙ elim (matches p.parts names) as (λ b. option_or (cond b (Some p) (last_match patterns names)) other ≡ cond b (Some p) (option_or (last_match patterns names) other)) [ true ↦ refl | false ↦ refl ]

hidden_by-push : (patterns : List Pattern) (p : Pattern) (names : List (List ℕ)) → cond (matches p.parts names) (not p.negated) (hidden_by patterns names) ≡ hidden_by (patterns ++ p ∷ []) names
hidden_by-push patterns p names =
    rw (last_match-push patterns p names) (elim (matches p.parts names) as (λ b. cond b (not p.negated) (hidden_by patterns names) ≡ hides (cond b (Some p) (last_match patterns names))) [ true ↦ refl | false ↦ refl ])

-- one pattern more has its word
pub judged-more : (patterns : List Pattern) (i : ℕ) (p : Pattern) (names : List (List ℕ)) → i < length patterns → p ≡ get_or patterns i p → judged (not p.negated) (of_fronts (matches p.parts) names) (of_fronts (hidden_by (take i patterns)) names) ≡ of_fronts (hidden_by (take (i + 1) patterns)) names
judged-more patterns i p names lt e =
    let more : take (i + 1) patterns ≡ take i patterns ++ p ∷ [] = take_more patterns i p lt ∙ ap (λ (v : Pattern). take i patterns ++ v ∷ []) (sym e) in
    judged-fronts (not p.negated) (matches p.parts) (hidden_by (take i patterns)) names
    ∙ of_fronts-same _ _ (hidden_by-push (take i patterns) p) names
    ∙ ap (λ (v : List Pattern). of_fronts (hidden_by v) names) (sym more)

-- no pattern has a word
nothing : {X : Type 0} (xs : List X) → of_fronts (λ front. false) xs ≡ false ∷ replicate (length xs) false
nothing [] = refl
nothing (x ∷ xs) = ap (λ (row : List Bool). false ∷ row) (nothing xs)

pub nothing_hidden : (names : List (List ℕ)) → false ∷ replicate (length names) false ≡ of_fronts (hidden_by []) names
nothing_hidden names = sym (nothing names)
