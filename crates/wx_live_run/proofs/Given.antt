-- What the one handle sent, by what the queue gave and what it left.
use Rattle.std.proofs.Common.{◌≡◌, ℕ, suc, ◌<◌, Option, Some, All, List, [], ◌∷◌, ◌++◌, slice_get, refl, sym, ap, subst, ◌∙◌, arith}
use Rattle.std.proofs.lemmas.Bool.{eq-eqb}
use Rattle.wx_queue.specs.Rule.{of}
use Rattle.wx_queue.specs.declared.parcel.Sent.{Sent}
use Rattle.wx_pass.specs.Asked.{Handle}
use Rattle.wx_pass.specs.declared.item.Item.{Item}

-- where all are of the handle 0, its are all
all_of : (given left : List (Sent Item)) → All (λ (s : Sent Item). s.pass < 1) (given ++ left) → of 0 given ≡ given
all_of [] left each = refl
all_of (s ∷ given) left each =
    let few : s.pass < 1 = each 0 s (omega arith) in
    let first : s.pass ≡ 0 = omega (arith, few) in
    rw (eq-eqb s.pass 0 first) (ap (λ (xs : List (Sent Item)). s ∷ xs) (all_of given left (λ k d lt. each (suc k) d (omega (arith, lt)))))

some_same : {A : Type 0} {x y : A} → ◌≡◌ {A = Option A} (Some x) (Some y) → x ≡ y
some_same e = cc

-- what the queue gave is a front of what its one handle sent
pub front_of : (pass : Handle) (passes : List Handle) (made : ℕ) (given before left : List (Sent Item)) (rows : List (List (Sent Item)))
    → passes ≡ pass ∷ [] → made ≡ 1 → pass.pass.number ≡ 0
    → All (λ (p : Handle). slice_get rows p.pass.number ≡ Some p.pass.sent) passes
    → ((k : ℕ) → k < made → slice_get rows k ≡ Some (of k given ++ of k left))
    → All (λ (s : Sent Item). s.pass < made) (given ++ left)
    → given ≡ before
    → (rest : List (Sent Item)) × (pass.pass.sent ≡ before ++ rest)
front_of pass passes made given before left rows are one number each delivered only same =
    let its = subst (λ (ps : List Handle). All (λ (p : Handle). slice_get rows p.pass.number ≡ Some p.pass.sent) ps) are each 0 pass (omega arith) in
    let all = subst (λ (n : ℕ). All (λ (s : Sent Item). s.pass < n) (given ++ left)) one only in
    (of 0 left, some_same (sym its ∙ ap (slice_get rows) number ∙ delivered 0 (omega (arith, one))) ∙ ap (λ (xs : List (Sent Item)). xs ++ of 0 left) (all_of given left all ∙ same))
