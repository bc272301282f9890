-- What is watched, some root wants.
use Rattle.std.proofs.Common.{◌≡◌, ℕ, suc, zero, ◌≤◌, Bool, true, false, cond, List, [], ◌∷◌, ◌++◌, length, arith, refl, ap, sym, ◌∙◌, inl, inr, subst}
use Rattle.std.specs.Prelude.{◌&&◌, ◌||◌, ◌⊎◌, not, Option, Some, None, filter, map}
use Rattle.std.proofs.lemmas.Bool.{cases_Bool, and_parts, and_from, both_ways, not-true}
use Rattle.wx_tree.specs.Lists.{AllOnce, In}
use Rattle.wx_tree.specs.Paths.{Path, same}
use Rattle.wx_tree.specs.Roots.{same_root}
use Rattle.wx_tree.specs.Trees.{Tree, guard_of, is_chain, is_chain_above, is_directory, is_fit_node, is_safe, node_at, reaches, settle}
use Rattle.wx_tree.specs.declared.root.Root.{Root}
use Rattle.wx_tree.proofs.ListLemmas.{In-cases, In-filter, In-left, In-right}
use Rattle.wx_tree.proofs.PathLemmas.{same_root-refl}
use Rattle.wx_tree.proofs.Reaching.{entry-reached, reaches-chain, reaches-inside, reaches-root, fit_from_dir, last_chain}
use Rattle.wx_recursor.specs.Owners.{has_owner, has_path, has_root, sweep}
use Rattle.wx_recursor.specs.declared.owner.Owner.{Owner}
use Rattle.wx_recursor.specs.declared.work.Item.{Item}
use Rattle.wx_recursor.specs.declared.work.Item.TheVariants.{Candidate, Guard, Scan, Visit}
use Rattle.wx_walk.specs.Machine.{State, did, fresh, has_guard, kept_guards, reconciled, release, rest_of, set_guard, stepped, stepped_at, unguard, watch, watch_guard}
use Rattle.wx_walk.specs.Reached.{Call, Finds, FindsFirst, Reached, Steps}
use Rattle.wx_walk.specs.Wanted.{GuardsOnce, Wanted, Wants, guarded_root, last_roots}
use Rattle.wx_walk.specs.declared.plain.Guarded.{Guarded}
use Rattle.wx_walk.specs.declared.plain.Saw.{Saw}
use Rattle.wx_walk.specs.declared.plain.Saw.TheVariants.{Held, Leaf, Listed, Lost, Reset, Unsafe}
use Rattle.wx_walk.proofs.Guards.{GuardsOf}
use Rattle.wx_walk.proofs.Kept.{Fits}
use Rattle.wx_walk.proofs.Moves.{held_is, kept_root, leaf_is, try_held, unsafe_is}
use Rattle.wx_walk.proofs.Reached.{Holds, holds_reconciled, holds_steps, reached_few, reached_guards}
use Rattle.wx_walk.proofs.Settled.{roots_at, roots_stay}

-- what is wanted stands in the tree, below directories

covers-fit : (t : Tree) (ok : Path → Bool) (r : Root) (p : Path) → reaches t ok r p ≡ true → is_fit_node (node_at t p) ≡ true
covers-fit t ok r [] h =
    let a = and_parts (same r.path []) (is_safe t []) h in
    let b = and_parts (is_chain_above t []) (is_fit_node (node_at t [])) a.1 in
    b.1
covers-fit t ok r (x ∷ p) h =
    elim (cases_Bool (same r.path (x ∷ p))) [
      | inl a ↦ let b = and_parts (is_chain_above t (x ∷ p)) (is_fit_node (node_at t (x ∷ p))) (rw a at h) in b.1
      | inr a ↦ let i = reaches-inside t ok r x p a h in fit_from_dir (node_at t (x ∷ p)) i.here
    ]

chain-safe : (t : Tree) (p : Path) → is_chain t p ≡ true → is_safe t p ≡ true
chain-safe t [] h = and_from (is_chain_above t []) (is_fit_node (node_at t [])) refl (fit_from_dir (node_at t []) h)
chain-safe t (x ∷ p) h =
    let a = and_parts (is_directory t (x ∷ p)) (is_chain t p) h in
    and_from (is_chain_above t (x ∷ p)) (is_fit_node (node_at t (x ∷ p))) a.1 (fit_from_dir (node_at t (x ∷ p)) a.0)

guard-safe : (t : Tree) (q p : Path) → guard_of t q ≡ Some p → is_safe t p ≡ true
guard-safe t [] p e = cc
guard-safe t (x ∷ q) p e = chain-safe t p (last_chain t q p e)

wants-safe : (t : Tree) (ok : Path → Bool) (rs : List Root) (p : Path) → Wants t ok rs p → is_safe t p ≡ true
wants-safe t ok rs p (r, h, inl c) = and_from (is_chain_above t p) (is_fit_node (node_at t p)) (reaches-chain t ok r p c) (covers-fit t ok r p c)
wants-safe t ok rs p (r, h, inr g) = guard-safe t r.path p g.1

pub wanted-safe : (t : Tree) (cs : List Call) (p : Path) → Wanted t cs p → is_safe t p ≡ true
wanted-safe t [] p h = absurd h
wanted-safe t (c ∷ cs) p (inl h) = wants-safe t c.ok c.roots p h
wanted-safe t (c ∷ cs) p (inr h) = wanted-safe t cs p h

-- a step watches what a root wants

watch-from : (p q : Path) (registrations : List Path) → In q (watch p registrations) → In q registrations ⊎ (p ≡ q)
watch-from p q registrations h = go (has_path p registrations) h
  where
    go : (b : Bool) → In q (cond b registrations (registrations ++ p ∷ [])) → In q registrations ⊎ (p ≡ q)
    go true h = inl h
    go false h = elim (In-cases q registrations (p ∷ []) h) [ inl a ↦ inl a | inr b ↦ elim b [ inl e ↦ inr e | inr n ↦ absurd n ] ]

watch_guard-from : (o : Option (Path)) (q : Path) (registrations : List Path) → In q (watch_guard o registrations) → In q registrations ⊎ (o ≡ Some q)
watch_guard-from None q registrations h = inl h
watch_guard-from (Some p) q registrations h = elim (watch-from p q registrations h) [ inl a ↦ inl a | inr e ↦ inr (ap Some e) ]

release-from : (os : List Owner) (gs : List Guarded) (q : Path) (registrations : List Path) → In q (release os gs registrations) → In q registrations
release-from os gs q registrations h = let a = In-filter (λ p. has_owner p os || has_guard p gs) q registrations h in a.0

wants_covered : (t : Tree) (ok : Path → Bool) (rs : List Root) (r : Root) (p q : Path) (registrations : List Path) → In r rs → reaches t ok r p ≡ true → In q (watch p registrations) → In q registrations ⊎ Wants t ok rs q
wants_covered t ok rs r p q registrations is c h = elim (watch-from p q registrations h) [ inl a ↦ inl a | inr e ↦ inr (subst (λ x. Wants t ok rs x) e (r, is, inl c)) ]

wants_guard : (t : Tree) (ok : Path → Bool) (rs : List Root) (r : Root) (o : Option (Path)) (q : Path) (registrations : List Path) → In r rs → is_safe t r.path ≡ false → o ≡ guard_of t r.path → In q (watch_guard o registrations) → In q registrations ⊎ Wants t ok rs q
wants_guard t ok rs r o q registrations is u e h = elim (watch_guard-from o q registrations h) [ inl a ↦ inl a | inr f ↦ inr (r, is, inr (u, sym e ∙ f)) ]

regs_from : (t : Tree) (ok : Path → Bool) (i : Item) (f : Saw) (s : State) → Finds t ok i f → Fits t ok s.roots i → (q : Path) → In q (did i f s).registrations → In q s.registrations ⊎ Wants t ok s.roots q
regs_from t ok (Guard r) Lost s h fits q i = inl i
regs_from t ok (Guard r) (Unsafe g) s h fits q i = inl i
regs_from t ok (Guard r) (Reset g root_is_safe) s h fits q i =
    let e : g ≡ guard_of t r.path = cc in
    wants_guard t ok s.roots r g q s.registrations fits.0 fits.1 e (release-from _ _ q _ i)
regs_from t ok (Guard r) Leaf s h fits q i = inl i
regs_from t ok (Guard r) Held s h fits q i = inl i
regs_from t ok (Guard r) (Listed cs) s h fits q i = inl i
regs_from t ok (Visit r) Lost s h fits q i = inl i
regs_from t ok (Visit r) (Unsafe g) s h fits q i =
    let u = unsafe_is (is_safe t r.path) (r.recursive && is_directory t r.path) g (guard_of t r.path) h in
    wants_guard t ok s.roots r g q s.registrations fits u.0 u.1 (release-from _ _ q _ i)
regs_from t ok (Visit r) (Reset g root_is_safe) s h fits q i = inl i
regs_from t ok (Visit r) Leaf s h fits q i =
    let e = leaf_is (is_safe t r.path) (r.recursive && is_directory t r.path) (guard_of t r.path) h in
    wants_covered t ok s.roots r r.path q s.registrations fits (reaches-root t ok r r.path refl e.0) (release-from _ _ q _ i)
regs_from t ok (Visit r) Held s h fits q i =
    let e = held_is (is_safe t r.path) (r.recursive && is_directory t r.path) (guard_of t r.path) h in
    wants_covered t ok s.roots r r.path q s.registrations fits (reaches-root t ok r r.path refl e.0) (release-from _ _ q _ i)
regs_from t ok (Visit r) (Listed cs) s h fits q i = inl i
regs_from t ok (Scan r p) Lost s h fits q i = inl i
regs_from t ok (Scan r p) (Unsafe g) s h fits q i = inl i
regs_from t ok (Scan r p) (Reset g root_is_safe) s h fits q i = inl i
regs_from t ok (Scan r p) Leaf s h fits q i = inl i
regs_from t ok (Scan r p) Held s h fits q i = inl i
regs_from t ok (Scan r p) (Listed cs) s h fits q i = inl (release-from _ _ q _ i)
regs_from t ok (Candidate r p) Lost s h fits q i = inl (release-from _ _ q _ i)
regs_from t ok (Candidate r p) (Unsafe g) s h fits q i = inl i
regs_from t ok (Candidate r p) (Reset g root_is_safe) s h fits q i = inl i
regs_from t ok (Candidate r p) Leaf s h fits q i = inl i
regs_from t ok (Candidate r p) Held s h (is, rec, (d, e, dir, c)) q i =
    let a = and_parts (is_directory t p) (ok p) (try_held (is_directory t p && ok p) h) in
    wants_covered t ok s.roots r p q s.registrations is (entry-reached t ok r d p rec dir c e a.0 a.1) (release-from _ _ q _ i)
regs_from t ok (Candidate r p) (Listed cs) s h fits q i = inl i

regs_from_at : (t : Tree) (ok : Path → Bool) (w : List Item) (f : Saw) (s : State) → FindsFirst t ok w f → ((i : Item) → In i w → Fits t ok s.roots i) → (q : Path) → In q (stepped_at w f s).registrations → In q s.registrations ⊎ Wants t ok s.roots q
regs_from_at t ok [] f s h fits q i = inl (release-from (sweep s.owners) s.guards q s.registrations i)
regs_from_at t ok (j ∷ w) f s h fits q i = regs_from t ok j f (rest_of s w) h (fits j (inl refl)) q i

pub watched_steps : (t : Tree) (ok : Path → Bool) (n : ℕ) (s u : State) → Holds t ok s → Steps t ok n s u → (q : Path) → In q u.registrations → In q s.registrations ⊎ Wants t ok s.roots q
watched_steps t ok zero s u k e q i = inl (subst (λ x. In q x.registrations) e i)
watched_steps t ok (suc n) s u k (f, work, h, steps) q i =
    let one : Steps t ok 1 s (stepped f s) = (f, work, h, refl) in
    elim (watched_steps t ok n (stepped f s) u (holds_steps t ok 1 s (stepped f s) k one) steps q i) [
      | inl a ↦ regs_from_at t ok s.queue f s h (let d = k.kept in d.items) q a
      | inr b ↦ inr (subst (λ x. Wants t ok x q) (roots_at s.queue f s) b)
    ]

pub reached_watched : (t : Tree) (cs : List Call) (s : State) → Reached t cs s → (q : Path) → In q s.registrations → Wanted t cs q
reached_watched t [] s e q i = let a : In q fresh.registrations = subst (λ x. In q x.registrations) e i in absurd a
reached_watched t (c ∷ cs) s (b, before, steps) q i =
    let k = reached_guards t cs b before in
    elim (watched_steps t c.ok c.steps (reconciled c.roots b) s (holds_reconciled t c.ok c.roots b k.0 k.1) steps q i) [
      | inl a ↦ inr (reached_watched t cs b before q a)
      | inr h ↦ inl h
    ]

-- a root has one guard

Apart : Root → List Guarded → Type 0
Apart r gs = (g : Guarded) → In g gs → same_root r g.root ≡ false

root_from : (r : Root) (gs : List Guarded) → In r (map guarded_root gs) → (g : Guarded) × In g gs × (g.root ≡ r)
root_from r [] h = absurd h
root_from r (g ∷ gs) (inl e) = (g, inl refl, e)
root_from r (g ∷ gs) (inr h) = let k = root_from r gs h in (k.0, inr k.1, k.2)

root_to : (g : Guarded) (gs : List Guarded) → In g gs → In g.root (map guarded_root gs)
root_to g [] h = absurd h
root_to g (x ∷ gs) (inl e) = inl (ap guarded_root e)
root_to g (x ∷ gs) (inr h) = inr (root_to g gs h)

once_filter : (f : Guarded → Bool) (gs : List Guarded) → AllOnce (map guarded_root gs) → AllOnce (map guarded_root (filter f gs))
once_filter f [] o = tt
once_filter f (g ∷ gs) o =
    let k = once_filter f gs o.1 in
    elim (f g) as (λ b. AllOnce (map guarded_root (cond b (g ∷ filter f gs) (filter f gs)))) [
      | true ↦ (
        (λ h.
            let a = root_from g.root (filter f gs) h in
            let d = In-filter f a.0 gs a.1 in
            o.0 (subst (λ x. In x (map guarded_root gs)) a.2 (root_to a.0 gs d.0))),
        k,
      )
      | false ↦ k
    ]

once_push : (gs : List Guarded) (x : Guarded) → AllOnce (map guarded_root gs) → (In x.root (map guarded_root gs) → ⊥) → AllOnce (map guarded_root (gs ++ x ∷ []))
once_push [] x o n = (λ h. h, tt)
once_push (g ∷ gs) x o n = (
  (λ h.
      let a = root_from g.root (gs ++ x ∷ []) h in
      elim (In-cases a.0 gs (x ∷ []) a.1) [
        | inl b ↦ o.0 (subst (λ y. In y (map guarded_root gs)) a.2 (root_to a.0 gs b))
        | inr b ↦ elim b [ inl e ↦ n (inl (sym a.2 ∙ sym (ap guarded_root e))) | inr m ↦ m ]
      ]),
  once_push gs x o.1 (λ h. n (inr h)),
)

unguard-apart : (r : Root) (gs : List Guarded) → In r (map guarded_root (unguard r gs)) → ⊥
unguard-apart r gs h =
    let a = root_from r (unguard r gs) h in
    let b = In-filter (λ (g : Guarded). not (same_root r g.root)) a.0 gs a.1 in
    both_ways (same_root r (a.0).root) (not-true (same_root r (a.0).root) b.1) (rw a.2 (same_root-refl r))

once_set : (r : Root) (o : Option (Path)) (gs : List Guarded) → AllOnce (map guarded_root gs) → AllOnce (map guarded_root (set_guard r o gs))
once_set r None gs o = once_filter (λ (g : Guarded). not (same_root r g.root)) gs o
once_set r (Some p) gs o = once_push (unguard r gs) (record { root = r; path = p }) (once_filter (λ (g : Guarded). not (same_root r g.root)) gs o) (unguard-apart r gs)

once_did : (i : Item) (f : Saw) (s : State) → AllOnce (map guarded_root s.guards) → AllOnce (map guarded_root (did i f s).guards)
once_did (Guard r) Lost s o = o
once_did (Guard r) (Unsafe g) s o = o
once_did (Guard r) (Reset g root_is_safe) s o = once_set r g s.guards o
once_did (Guard r) Leaf s o = o
once_did (Guard r) Held s o = o
once_did (Guard r) (Listed cs) s o = o
once_did (Visit r) Lost s o = o
once_did (Visit r) (Unsafe g) s o = once_set r g s.guards o
once_did (Visit r) (Reset g root_is_safe) s o = o
once_did (Visit r) Leaf s o = once_filter (λ (g : Guarded). not (same_root r g.root)) s.guards o
once_did (Visit r) Held s o = once_filter (λ (g : Guarded). not (same_root r g.root)) s.guards o
once_did (Visit r) (Listed cs) s o = o
once_did (Scan r p) Lost s o = o
once_did (Scan r p) (Unsafe g) s o = o
once_did (Scan r p) (Reset g root_is_safe) s o = o
once_did (Scan r p) Leaf s o = o
once_did (Scan r p) Held s o = o
once_did (Scan r p) (Listed cs) s o = o
once_did (Candidate r p) Lost s o = o
once_did (Candidate r p) (Unsafe g) s o = o
once_did (Candidate r p) (Reset g root_is_safe) s o = o
once_did (Candidate r p) Leaf s o = o
once_did (Candidate r p) Held s o = o
once_did (Candidate r p) (Listed cs) s o = o

once_at : (q : List Item) (f : Saw) (s : State) → AllOnce (map guarded_root s.guards) → AllOnce (map guarded_root (stepped_at q f s).guards)
once_at [] f s o = o
once_at (i ∷ q) f s o = once_did i f (rest_of s q) o

once_steps : (t : Tree) (ok : Path → Bool) (n : ℕ) (s u : State) → AllOnce (map guarded_root s.guards) → Steps t ok n s u → AllOnce (map guarded_root u.guards)
once_steps t ok zero s u o e = subst (λ x. AllOnce (map guarded_root x.guards)) (sym e) o
once_steps t ok (suc n) s u o (f, work, h, steps) = once_steps t ok n (stepped f s) u (once_at s.queue f s o) steps

once_reached : (t : Tree) (cs : List Call) (s : State) → Reached t cs s → AllOnce (map guarded_root s.guards)
once_reached t [] s e = subst (λ x. AllOnce (map guarded_root x.guards)) (sym e) tt
once_reached t (c ∷ cs) s (b, before, steps) = once_steps t c.ok c.steps (reconciled c.roots b) s (once_filter (λ (g : Guarded). has_root g.root c.roots) b.guards (once_reached t cs b before)) steps

-- as many pigeons as holes

pub record Parted {X : Type 0} (x : X) (ys : List X) : Type 0 where
  pub before : List X
  pub after : List X
  pub whole : before ++ x ∷ after ≡ ys

part : {X : Type 0} (x : X) (ys : List X) → In x ys → Parted x ys
part x [] h = absurd h
part x (y ∷ ys) (inl e) = record { before = []; after = ys; whole = ap (λ z. z ∷ ys) (sym e) }
part x (y ∷ ys) (inr h) = let k = part x ys h in record { before = y ∷ k.before; after = k.after; whole = ap (λ zs. y ∷ zs) k.whole }

length-part : {X : Type 0} (x : X) (us vs : List X) → length (us ++ x ∷ vs) ≡ suc (length (us ++ vs))
length-part x [] vs = refl
length-part x (u ∷ us) vs = ap suc (length-part x us vs)

still_in : {X : Type 0} (x z : X) (us vs : List X) → (x ≡ z → ⊥) → In z (us ++ x ∷ vs) → In z (us ++ vs)
still_in x z us vs n h =
    elim (In-cases z us (x ∷ vs) h) [
      | inl a ↦ In-left z us vs a
      | inr b ↦ elim b [ inl e ↦ absurd (n e) | inr c ↦ In-right z us vs c ]
    ]

pub pigeons : {X : Type 0} (xs ys : List X) → AllOnce xs → ((x : X) → In x xs → In x ys) → length xs ≤ length ys
pigeons [] ys o each = omega arith
pigeons (x ∷ xs) ys o each =
    let k = part x ys (each x (inl refl)) in
    let less : length xs ≤ length (k.before ++ k.after) = pigeons xs (k.before ++ k.after) o.1 (λ z h. still_in x z k.before k.after (λ e. o.0 (subst (λ y. In y xs) (sym e) h)) (subst (λ w. In z w) (sym k.whole) (each z (inr h)))) in
    let e : length ys ≡ suc (length (k.before ++ k.after)) = ap length (sym k.whole) ∙ length-part x k.before k.after in
    omega arith

map-length : (gs : List Guarded) → length (map guarded_root gs) ≡ length gs
map-length [] = refl
map-length (g ∷ gs) = ap suc (map-length gs)

guards_few : (gs : List Guarded) (rs : List Root) → AllOnce (map guarded_root gs) → ((g : Guarded) → In g gs → In g.root rs) → length gs ≤ length rs
guards_few gs rs o each =
    rw (← map-length gs) (pigeons (map guarded_root gs) rs o (λ r h. let a = root_from r gs h in subst (λ x. In x rs) a.2 (each a.0 a.1)))

pub reached_roots : (t : Tree) (cs : List Call) (s : State) → Reached t cs s → s.roots ≡ last_roots cs
reached_roots t [] s e = ap (λ x. x.roots) e
reached_roots t (c ∷ cs) s (b, before, steps) = roots_stay t c.ok c.steps (reconciled c.roots b) s steps

pub reached_guards_once : (t : Tree) (cs : List Call) (s : State) → Reached t cs s → GuardsOnce t (last_roots cs) s.guards
reached_guards_once t cs s r =
    let k = reached_guards t cs s r in
    let g : GuardsOf t s = k.0 in
    let o = once_reached t cs s r in
    subst (λ x. GuardsOnce t x s.guards) (reached_roots t cs s r) (record {
      once = o;
      serve = g.right;
      few = guards_few s.guards s.roots o (λ x h. let a = g.right x h in a.0);
    })

filter-length : (f : Guarded → Bool) (gs : List Guarded) → length (filter f gs) ≤ length gs
filter-length f [] = omega arith
filter-length f (g ∷ gs) =
    let k : length (filter f gs) ≤ length gs = filter-length f gs in
    elim (f g) as (λ b. length (cond b (g ∷ filter f gs) (filter f gs)) ≤ suc (length gs)) [ true ↦ omega arith | false ↦ omega arith ]

settle-more : (g h r n o : ℕ) → g ≤ h → settle g r n o ≤ settle h r n o
settle-more g h r n o e = omega arith

-- so the bound speaks of roots alone
pub reached_settles : (t : Tree) (c : Call) (cs : List Call) (o : ℕ) (s : State) → Reached t (c ∷ cs) s
    → (c.steps ≤ settle (length (last_roots cs)) (length c.roots) (length t) o) × (c.steps ≤ settle (length c.roots) (length c.roots) (length t) o)
reached_settles t c cs o s (b, before, steps) =
    let few : c.steps ≤ settle (length (kept_guards c.roots b.guards)) (length c.roots) (length t) o = reached_few t c cs o b s before steps in
    let k = reached_guards_once t cs b before in
    let once : AllOnce (map guarded_root (kept_guards c.roots b.guards)) = once_filter (λ (g : Guarded). has_root g.root c.roots) b.guards k.once in
    let earlier : length b.guards ≤ length (last_roots cs) = k.few in
    let less : length (kept_guards c.roots b.guards) ≤ length b.guards = filter-length (λ (g : Guarded). has_root g.root c.roots) b.guards in
    let now : length (kept_guards c.roots b.guards) ≤ length c.roots = guards_few (kept_guards c.roots b.guards) c.roots once (λ g h. kept_root c.roots b.guards g h) in
    let first : settle (length (kept_guards c.roots b.guards)) (length c.roots) (length t) o ≤ settle (length (last_roots cs)) (length c.roots) (length t) o = settle-more _ _ (length c.roots) (length t) o (let e : length (kept_guards c.roots b.guards) ≤ length (last_roots cs) = omega arith in e) in
    let second : settle (length (kept_guards c.roots b.guards)) (length c.roots) (length t) o ≤ settle (length c.roots) (length c.roots) (length t) o = settle-more _ _ (length c.roots) (length t) o now in
    (omega arith, omega arith)
