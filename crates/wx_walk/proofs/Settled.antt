-- Where nothing is left to do, the walk is owned.
use Rattle.std.proofs.Common.{◌≡◌, ℕ, suc, zero, Bool, true, false, List, [], ◌∷◌, refl, ap, ◌∙◌, inl, inr, subst}
use Rattle.std.specs.Prelude.{◌↔◌, Option, Some, None, map}
use Rattle.std.proofs.lemmas.Bool.{cases_Bool, and_parts, or_cases, or_left, or_right}
use Rattle.wx_tree.specs.Lists.{In}
use Rattle.wx_tree.specs.Paths.{Path, same}
use Rattle.wx_tree.specs.Trees.{Tree, any_reaches, is_chain_above, is_fit_node, is_safe, is_there, is_there_node, node_at, reaches, walk}
use Rattle.wx_tree.specs.declared.node.Node.{Node}
use Rattle.wx_tree.specs.declared.node.Node.TheVariants.{Dir, File, Link}
use Rattle.wx_tree.specs.declared.root.Root.{Root}
use Rattle.wx_tree.proofs.ListLemmas.{In-filter, In-kept}
use Rattle.wx_tree.proofs.PathLemmas.{same-true}
use Rattle.wx_tree.proofs.Reaching.{reaches-inside, there_from_dir}
use Rattle.wx_recursor.specs.declared.owner.Owner.{Owner}
use Rattle.wx_recursor.specs.declared.work.Item.{Item}
use Rattle.wx_recursor.specs.declared.work.Item.TheVariants.{Candidate, Guard, Scan, Visit}
use Rattle.wx_recursor.proofs.OwnerLemmas.{saw}
use Rattle.wx_walk.specs.Machine.{State, did, has_items, is_work, rest_of, stepped, stepped_at}
use Rattle.wx_walk.specs.Reached.{Steps}
use Rattle.wx_walk.specs.declared.plain.Saw.{Saw}
use Rattle.wx_walk.specs.declared.plain.Saw.TheVariants.{Held, Leaf, Listed, Lost, Reset, Unsafe}
use Rattle.wx_walk.proofs.Kept.{Keeps, Kept}
use Rattle.wx_walk.proofs.Moves.{complete}
use Rattle.wx_walk.proofs.OwnerLemmas.{saw_is}

pub any_from : (t : Tree) (ok : Path → Bool) (rs : List Root) (r : Root) (p : Path) → In r rs → reaches t ok r p ≡ true → any_reaches t ok rs p ≡ true
any_from t ok [] r p h c = absurd h
any_from t ok (s ∷ rs) r p (inl e) c = or_left (reaches t ok s p) (any_reaches t ok rs p) (rw e c)
any_from t ok (s ∷ rs) r p (inr h) c = or_right (reaches t ok s p) (any_reaches t ok rs p) (any_from t ok rs r p h c)

pub any_is : (t : Tree) (ok : Path → Bool) (rs : List Root) (p : Path) → any_reaches t ok rs p ≡ true → (r : Root) × (In r rs) × (reaches t ok r p ≡ true)
any_is t ok [] p e = cc
any_is t ok (s ∷ rs) p e =
    elim (or_cases (reaches t ok s p) (any_reaches t ok rs p) e) [
      | inl a ↦ (s, inl refl, a)
      | inr a ↦ let k = any_is t ok rs p a in (k.0, inr k.1, k.2)
    ]

there_from_fit : (n : Option Node) → is_fit_node n ≡ true → is_there_node n ≡ true
there_from_fit None e = e
there_from_fit (Some Dir) e = refl
there_from_fit (Some (File _)) e = refl
there_from_fit (Some (Link l)) e = refl

in_tree : (t : Tree) (p : Path) → is_there t p ≡ true → In p (map (λ e. e.path) t)
in_tree [] p h = cc
in_tree (e ∷ t) p h =
    elim (cases_Bool (same e.path p)) [
      | inl a ↦ inl (same-true e.path p a)
      | inr a ↦ inr (in_tree t p (rw a at h))
    ]

safe_there : (t : Tree) (p : Path) → is_safe t p ≡ true → is_there t p ≡ true
safe_there t p h = let a = and_parts (is_chain_above t p) (is_fit_node (node_at t p)) h in there_from_fit (node_at t p) a.1

covered_there : (t : Tree) (ok : Path → Bool) (r : Root) (p : Path) → reaches t ok r p ≡ true → is_there t p ≡ true
covered_there t ok r [] h = let a = and_parts (same r.path []) (is_safe t []) h in safe_there t [] a.1
covered_there t ok r (x ∷ p) h =
    elim (cases_Bool (same r.path (x ∷ p))) [
      | inl a ↦ safe_there t (x ∷ p) (rw a at h)
      | inr a ↦ there_from_dir (node_at t (x ∷ p)) (reaches-inside t ok r x p a h).here
    ]

pub IsOwned : State → Path → Type 0
IsOwned s p = (o : Owner) × In o s.owners × (o.path ≡ p)

pub idle : (q : List Item) (sweep_due : Bool) → has_items q sweep_due ≡ false → sweep_due ≡ false
idle [] sweep_due e = e
idle (i ∷ q) sweep_due e = cc

pub owned_exactly : (t : Tree) (ok : Path → Bool) (u : State) → Keeps t ok u → is_work u ≡ false → (p : Path) → ((o : Owner) × In o u.owners × (o.path ≡ p)) ↔ In p (walk t u.roots ok)
owned_exactly t ok u k rest p =
    let sweep_due : u.sweep_due ≡ false = idle u.queue u.sweep_due rest in
    let sw = k.swept sweep_due in
    let k' : Kept t ok u.roots [] u.owners u.sweep_due = subst (λ q. Kept t ok u.roots q u.owners u.sweep_due) sw.0 k in (
      (λ (o, h, e).
          let same_own : o ≡ saw o.root p = saw_is o o.root p refl e (sw.1 o h) in
          let s = k.sound o.root p (subst (λ x. In x u.owners) same_own h) in
          In-kept (any_reaches t ok u.roots) p _ (any_from t ok u.roots o.root p s.0 s.1) (in_tree t p (covered_there t ok o.root p s.1))),
      (λ h.
          let a = In-filter (any_reaches t ok u.roots) p (map (λ e. e.path) t) h in
          let b = any_is t ok u.roots p a.1 in
          (saw b.0 p, complete t ok u.roots u.owners u.sweep_due k' b.0 p b.1 b.2, refl)),
    )

roots_did : (i : Item) (f : Saw) (s : State) → (did i f s).roots ≡ s.roots
roots_did (Guard r) Lost s = refl
roots_did (Guard r) (Unsafe g) s = refl
roots_did (Guard r) (Reset g root_is_safe) s = refl
roots_did (Guard r) Leaf s = refl
roots_did (Guard r) Held s = refl
roots_did (Guard r) (Listed cs) s = refl
roots_did (Visit r) Lost s = refl
roots_did (Visit r) (Unsafe g) s = refl
roots_did (Visit r) (Reset g root_is_safe) s = refl
roots_did (Visit r) Leaf s = refl
roots_did (Visit r) Held s = refl
roots_did (Visit r) (Listed cs) s = refl
roots_did (Scan r p) Lost s = refl
roots_did (Scan r p) (Unsafe g) s = refl
roots_did (Scan r p) (Reset g root_is_safe) s = refl
roots_did (Scan r p) Leaf s = refl
roots_did (Scan r p) Held s = refl
roots_did (Scan r p) (Listed cs) s = refl
roots_did (Candidate r p) Lost s = refl
roots_did (Candidate r p) (Unsafe g) s = refl
roots_did (Candidate r p) (Reset g root_is_safe) s = refl
roots_did (Candidate r p) Leaf s = refl
roots_did (Candidate r p) Held s = refl
roots_did (Candidate r p) (Listed cs) s = refl

pub roots_at : (q : List Item) (f : Saw) (s : State) → (stepped_at q f s).roots ≡ s.roots
roots_at [] f s = refl
roots_at (i ∷ q) f s = roots_did i f (rest_of s q)

pub roots_stay : (t : Tree) (ok : Path → Bool) (n : ℕ) (s u : State) → Steps t ok n s u → u.roots ≡ s.roots
roots_stay t ok zero s u e = ap (λ x. x.roots) e
roots_stay t ok (suc n) s u (f, work, h, steps) = roots_stay t ok n (stepped f s) u steps ∙ roots_at s.queue f s
