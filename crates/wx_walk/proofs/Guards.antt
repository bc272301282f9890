-- What is known of guards at every step.
use Rattle.std.proofs.Common.{◌≡◌, Bool, true, false, List, [], ◌∷◌, ◌++◌, refl, sym, ◌∙◌, inl, inr, subst}
use Rattle.std.specs.Prelude.{◌&&◌, ◌⊎◌, not, Option, Some, None}
use Rattle.std.proofs.lemmas.Bool.{cases_Bool, both_ways}
use Rattle.wx_tree.specs.Lists.{In}
use Rattle.wx_tree.specs.Paths.{Path}
use Rattle.wx_tree.specs.Roots.{same_root}
use Rattle.wx_tree.specs.Trees.{Tree, guard_of, is_directory, is_safe}
use Rattle.wx_tree.specs.declared.root.Root.{Root}
use Rattle.wx_tree.proofs.ListLemmas.{In-cases, In-filter, In-kept, In-left, In-right}
use Rattle.wx_tree.proofs.PathLemmas.{same_root-refl, same_root-true}
use Rattle.wx_recursor.specs.declared.work.Item.{Item}
use Rattle.wx_recursor.specs.declared.work.Item.TheVariants.{Candidate, Guard, Scan, Visit}
use Rattle.wx_walk.specs.Machine.{State, did, rest_of, set_guard, unguard}
use Rattle.wx_walk.specs.Reached.{Finds}
use Rattle.wx_walk.specs.declared.plain.Guarded.{Guarded}
use Rattle.wx_walk.specs.declared.plain.Saw.{Saw}
use Rattle.wx_walk.specs.declared.plain.Saw.TheVariants.{Held, Leaf, Listed, Lost, Reset, Unsafe}
use Rattle.wx_walk.proofs.Moves.{held_is, leaf_is, try_other, unsafe_is, visit_listed, visit_lost, visit_reset}

abbrev pub guard : Root → Path → Guarded
guard r p = record { root = r; path = p }

pub record Guards (t : Tree) (roots : List Root) (queue : List Item) (gs : List Guarded) : Type 0 where
  pub right : (g : Guarded) → In g gs → In g.root roots × (is_safe t g.root.path ≡ false) × (guard_of t g.root.path ≡ Some g.path)
  pub visited : (r : Root) (p : Path) → In r roots → is_safe t r.path ≡ false → guard_of t r.path ≡ Some p → In (Visit r) queue ⊎ In (guard r p) gs

abbrev pub GuardsOf : Tree → State → Type 0
GuardsOf t s = Guards t s.roots s.queue s.guards

apart_kept : (r : Root) (g : Guarded) (gs : List Guarded) → (same_root r g.root ≡ false) → In g gs → In g (unguard r gs)
apart_kept r g gs e h = In-kept (λ (x : Guarded). not (same_root r x.root)) g gs (rw e refl) h

set_is : (r : Root) (o : Option (Path)) (gs : List Guarded) (g : Guarded) → In g (set_guard r o gs) → In g gs ⊎ ((p : Path) × (o ≡ Some p) × (guard r p ≡ g))
set_is r None gs g h = let k = In-filter (λ (x : Guarded). not (same_root r x.root)) g gs h in inl k.0
set_is r (Some p) gs g h =
    elim (In-cases g (unguard r gs) (guard r p ∷ []) h) [
      | inl a ↦ let k = In-filter (λ (x : Guarded). not (same_root r x.root)) g gs a in inl k.0
      | inr b ↦ elim b [ inl e ↦ inr (p, refl, e) | inr n ↦ absurd n ]
    ]

set_apart : (r : Root) (o : Option (Path)) (gs : List Guarded) (g : Guarded) → same_root r g.root ≡ false → In g gs → In g (set_guard r o gs)
set_apart r None gs g e h = apart_kept r g gs e h
set_apart r (Some p) gs g e h = In-left g (unguard r gs) (guard r p ∷ []) (apart_kept r g gs e h)

set_there : (r : Root) (o : Option (Path)) (p : Path) (gs : List Guarded) → o ≡ Some p → In (guard r p) (set_guard r o gs)
set_there r o p gs e = rw e (In-right (guard r p) (unguard r gs) (guard r p ∷ []) (inl refl))

-- this root's guard is set
guards_set : (t : Tree) (roots : List Root) (i : Item) (q more : List Item) (gs : List Guarded) (r : Root) (o : Option (Path))
    → In r roots → is_safe t r.path ≡ false → o ≡ guard_of t r.path → ((s : Root) → i ≡ Visit s → r ≡ s)
    → Guards t roots (i ∷ q) gs → Guards t roots (q ++ more) (set_guard r o gs)
guards_set t roots i q more gs r o is_root unsafe is here k = record {
  right = λ g h. elim (set_is r o gs g h) [
    | inl a ↦ k.right g a
    | inr (p, e, f) ↦ subst (λ (x : Guarded). In x.root roots × (is_safe t x.root.path ≡ false) × (guard_of t x.root.path ≡ Some x.path)) f (is_root, unsafe, sym is ∙ e)
  ];
  visited = λ s p h u e. elim (cases_Bool (same_root r s)) [
    | inl a ↦
        let f : r ≡ s = same_root-true r s a in
        inr (subst (λ x. In (guard x p) (set_guard r o gs)) f (set_there r o p gs (is ∙ (rw f e))))
    | inr a ↦ elim (k.visited s p h u e) [
      | inl b ↦ elim b [
        | inl f ↦ absurd (both_ways (same_root r s) a (rw (here s f) (same_root-refl s)))
        | inr b' ↦ inl (In-left (Visit s) q more b')
      ]
      | inr b ↦ inr (set_apart r o gs (guard s p) a b)
    ]
  ];
}

-- this root is safe, and has no guard
guards_none : (t : Tree) (roots : List Root) (q more : List Item) (gs : List Guarded) (r : Root)
    → is_safe t r.path ≡ true → Guards t roots (Visit r ∷ q) gs → Guards t roots (q ++ more) (unguard r gs)
guards_none t roots q more gs r safe k = record {
  right = λ g h. let a = In-filter (λ (x : Guarded). not (same_root r x.root)) g gs h in k.right g a.0;
  visited = λ s p h u e. elim (k.visited s p h u e) [
    | inl b ↦ elim b [
      | inl f ↦ absurd (let w : r ≡ s = cc in both_ways (is_safe t s.path) u (rw (← w) safe))
      | inr b' ↦ inl (In-left (Visit s) q more b')
    ]
    | inr b ↦ elim (cases_Bool (same_root r s)) [
      | inl a ↦ absurd (let w : r ≡ s = same_root-true r s a in both_ways (is_safe t s.path) u (rw (← w) safe))
      | inr a ↦ inr (apart_kept r (guard s p) gs a b)
    ]
  ];
}

-- an item that has nothing to do with guards
guards_same : (t : Tree) (roots : List Root) (i : Item) (q more : List Item) (gs : List Guarded)
    → ((s : Root) → i ≡ Visit s → ⊥) → Guards t roots (i ∷ q) gs → Guards t roots (q ++ more) gs
guards_same t roots i q more gs apart k = record {
  right = k.right;
  visited = λ s p h u e. elim (k.visited s p h u e) [
    | inl b ↦ elim b [ inl f ↦ absurd (apart s f) | inr b' ↦ inl (In-left (Visit s) q more b') ]
    | inr b ↦ inr b
  ];
}

pub guards_did : (t : Tree) (ok : Path → Bool) (i : Item) (q : List Item) (f : Saw) (s : State) → Finds t ok i f
    → ((r : Root) → i ≡ Guard r → In r s.roots × (is_safe t r.path ≡ false)) → ((r : Root) → i ≡ Visit r → In r s.roots)
    → Guards t s.roots (i ∷ q) s.guards → GuardsOf t (did i f (rest_of s q))
guards_did t ok (Guard r) q (Reset g root_is_safe) s h fits _ k =
    let e : g ≡ guard_of t r.path = cc in
    let a = fits r refl in
    guards_set t s.roots (Guard r) q _ s.guards r g a.0 a.1 e (λ u w. cc) k
guards_did t ok (Guard r) q Lost s h fits _ k = cc
guards_did t ok (Guard r) q (Unsafe g) s h fits _ k = cc
guards_did t ok (Guard r) q Leaf s h fits _ k = cc
guards_did t ok (Guard r) q Held s h fits _ k = cc
guards_did t ok (Guard r) q (Listed cs) s h fits _ k = cc
guards_did t ok (Visit r) q (Unsafe g) s h _ fits k =
    let u = unsafe_is (is_safe t r.path) (r.recursive && is_directory t r.path) g (guard_of t r.path) h in
    guards_set t s.roots (Visit r) q [] s.guards r g (fits r refl) u.0 u.1 (λ u w. cc) k
guards_did t ok (Visit r) q Leaf s h _ fits k =
    let e = leaf_is (is_safe t r.path) (r.recursive && is_directory t r.path) (guard_of t r.path) h in
    guards_none t s.roots q [] s.guards r e.0 k
guards_did t ok (Visit r) q Held s h _ fits k =
    let e = held_is (is_safe t r.path) (r.recursive && is_directory t r.path) (guard_of t r.path) h in
    guards_none t s.roots q _ s.guards r e.0 k
guards_did t ok (Visit r) q Lost s h _ fits k = absurd (visit_lost (is_safe t r.path) (r.recursive && is_directory t r.path) _ h)
guards_did t ok (Visit r) q (Reset g root_is_safe) s h _ fits k = absurd (visit_reset (is_safe t r.path) (r.recursive && is_directory t r.path) _ g root_is_safe h)
guards_did t ok (Visit r) q (Listed cs) s h _ fits k = absurd (visit_listed (is_safe t r.path) (r.recursive && is_directory t r.path) _ cs h)
guards_did t ok (Scan r p) q Lost s (cs, e, l) _ _ k = cc
guards_did t ok (Scan r p) q (Unsafe g) s (cs, e, l) _ _ k = cc
guards_did t ok (Scan r p) q (Reset g root_is_safe) s (cs, e, l) _ _ k = cc
guards_did t ok (Scan r p) q Leaf s (cs, e, l) _ _ k = cc
guards_did t ok (Scan r p) q Held s (cs, e, l) _ _ k = cc
guards_did t ok (Scan r p) q (Listed ds) s h _ _ k = guards_same t s.roots (Scan r p) q _ s.guards (λ u w. cc) k
guards_did t ok (Candidate r c) q Lost s h _ _ k = guards_same t s.roots (Candidate r c) q [] s.guards (λ u w. cc) k
guards_did t ok (Candidate r c) q Held s h _ _ k = guards_same t s.roots (Candidate r c) q _ s.guards (λ u w. cc) k
guards_did t ok (Candidate r c) q Leaf s h _ _ k = absurd (elim (try_other (is_directory t c && ok c) Leaf h) [ inl e ↦ cc | inr e ↦ cc ])
guards_did t ok (Candidate r c) q (Unsafe g) s h _ _ k = absurd (elim (try_other (is_directory t c && ok c) (Unsafe g) h) [ inl e ↦ cc | inr e ↦ cc ])
guards_did t ok (Candidate r c) q (Reset g root_is_safe) s h _ _ k = absurd (elim (try_other (is_directory t c && ok c) (Reset g root_is_safe) h) [ inl e ↦ cc | inr e ↦ cc ])
guards_did t ok (Candidate r c) q (Listed cs) s h _ _ k = absurd (elim (try_other (is_directory t c && ok c) (Listed cs) h) [ inl e ↦ cc | inr e ↦ cc ])
