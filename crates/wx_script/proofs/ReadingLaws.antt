-- Bytes are one script, or have one first bad line, and not both.
use Rattle.std.proofs.Common.{◌≡◌, ℕ, ◌+◌, ◌<◌, None, Some, List, [], ◌∷◌, ◌++◌, length, refl, ap, sym, subst, ◌∙◌, arith, inl, inr, ◌⊎◌}
use Rattle.wx_words.specs.Line.{◌>>=◌}
use Rattle.wx_words.specs.OptionLaws.{bind_some}
use Rattle.wx_script.specs.declared.script.Script.{Script}
use Rattle.wx_script.specs.Scripts.{start, step, begun_by, IsScriptOf, IsFirstBad}

-- reading goes no further than this line
abbrev Stops : List ℕ → List (List ℕ) → Script → Type 0
Stops line later s = (step s line ≡ None) ⊎ (later ≡ [])

-- where two readings of lines stop
record SameStop (line line' : List ℕ) (before before' later later' : List (List ℕ)) (s s' : Script) : Type 0 where
  same_before : before ≡ before'
  same_line : line ≡ line'
  same_later : later ≡ later'
  same_script : s ≡ s'

-- lines that begin a script go on from the first of them
goes_on : (line line' : List ℕ) (lines later : List (List ℕ)) (s t : Script) → begun_by (line ∷ lines) s ≡ Some t → Stops line (lines ++ line' ∷ later) s → ⊥
goes_on line line' lines later s t e (inl none) = let next = bind_some (step s line) (begun_by lines) t e in (let both : None ≡ Some next.0 = sym none ∙ next.1 in cc)
goes_on line line' [] later s t e (inr none) = cc
goes_on line line' (x ∷ lines) later s t e (inr none) = cc

same_stop : (line line' : List ℕ) (before before' later later' : List (List ℕ)) (s t t' : Script) → before ++ line ∷ later ≡ before' ++ line' ∷ later' → begun_by before s ≡ Some t → begun_by before' s ≡ Some t' → Stops line later t → Stops line' later' t' → SameStop line line' before before' later later' t t'
same_stop line line' [] [] later later' s t t' all b b' stop stop' =
    let same : t ≡ t' = (let both : Some t ≡ Some t' = sym b ∙ b' in cc) in record { same_before = refl; same_line = cc; same_later = cc; same_script = same }
same_stop line line' [] (x ∷ before') later later' s t t' all b b' stop stop' =
    let first : line ≡ x = cc in
    let after : later ≡ before' ++ line' ∷ later' = cc in
    let here : s ≡ t = cc in
    absurd (goes_on x line' before' later' s t' b' (subst (λ (u : Script). Stops x (before' ++ line' ∷ later') u) (sym here) (subst (λ (l : List ℕ). Stops l (before' ++ line' ∷ later') t) first (subst (λ (ls : List (List ℕ)). Stops line ls t) after stop))))
same_stop line line' (x ∷ before) [] later later' s t t' all b b' stop stop' =
    let first : line' ≡ x = cc in
    let after : later' ≡ before ++ line ∷ later = cc in
    let here : s ≡ t' = cc in
    absurd (goes_on x line before later s t b (subst (λ (u : Script). Stops x (before ++ line ∷ later) u) (sym here) (subst (λ (l : List ℕ). Stops l (before ++ line ∷ later) t') first (subst (λ (ls : List (List ℕ)). Stops line' ls t') after stop'))))
same_stop line line' (x ∷ before) (x' ∷ before') later later' s t t' all b b' stop stop' =
    let first : x ≡ x' = cc in
    let after : before ++ line ∷ later ≡ before' ++ line' ∷ later' = cc in
    let next = bind_some (step s x) (begun_by before) t b in
    let next' = bind_some (step s x) (begun_by before') t' (ap (λ (l : List ℕ). step s l >>= begun_by before') first ∙ b') in
    let here : next'.0 ≡ next.0 = (let both : Some next'.0 ≡ Some next.0 = sym next'.1 ∙ next.1 in cc) in
    let r = same_stop line line' before before' later later' next.0 t t' after next.2 (ap (begun_by before') (sym here) ∙ next'.2) stop stop' in
    record { same_before = ap (λ (ls : List (List ℕ)). x ∷ ls) r.same_before ∙ ap (λ (l : List ℕ). l ∷ before') first; same_line = r.same_line; same_later = r.same_later; same_script = r.same_script }

stuck_stops : (line : List ℕ) (later : List (List ℕ)) (s : Script) → ((0 < length later) × (step s line ≡ None)) ⊎ ((later ≡ []) × (0 < length line)) → Stops line later s
stuck_stops line later s (inl h) = inl h.1
stuck_stops line later s (inr h) = inr h.0

pub one_script : (bytes : List ℕ) (s t : Script) → IsScriptOf bytes s → IsScriptOf bytes t → s ≡ t
one_script bytes s t a b = (same_stop [] [] a.lines b.lines [] [] start s t (sym a.all ∙ b.all) a.made b.made (inr refl) (inr refl)).same_script

pub one_bad : (bytes : List ℕ) (n m : ℕ) → IsFirstBad bytes n → IsFirstBad bytes m → n ≡ m
one_bad bytes n m a b =
    let r = same_stop a.line b.line a.before b.before a.later b.later start a.script b.script (sym a.all ∙ b.all) a.begun b.begun (stuck_stops a.line a.later a.script a.stuck) (stuck_stops b.line b.later b.script b.stuck) in
    a.number ∙ ap (λ (ls : List (List ℕ)). length ls + 1) r.same_before ∙ sym b.number

not_whole : (line : List ℕ) (later : List (List ℕ)) (s : Script) → line ≡ [] → later ≡ [] → ((0 < length later) × (step s line ≡ None)) ⊎ ((later ≡ []) × (0 < length line)) → ⊥
not_whole line later s none last (inl h) = let is = ap (λ (ls : List (List ℕ)). length ls) last in absurd (omega (arith, is, h.0))
not_whole line later s none last (inr h) = let is = ap (λ (l : List ℕ). length l) none in absurd (omega (arith, is, h.1))

pub not_both : (bytes : List ℕ) (s : Script) (n : ℕ) → IsScriptOf bytes s → IsFirstBad bytes n → ⊥
not_both bytes s n a b =
    let r = same_stop [] b.line a.lines b.before [] b.later start s b.script (sym a.all ∙ b.all) a.made b.begun (inr refl) (stuck_stops b.line b.later b.script b.stuck) in
    not_whole b.line b.later b.script (sym r.same_line) (sym r.same_later) b.stuck
