-- Each step keeps it.
use Rattle.std.proofs.Common.{◌≡◌, ℕ, suc, zero, ◌≤◌, ◌<◌, Bool, true, false, cond, List, [], ◌∷◌, ◌++◌, length, arith, refl, ap, sym, inl, inr, subst}
use Rattle.std.specs.Prelude.{◌&&◌, ◌⊎◌, Option}
use Rattle.std.proofs.lemmas.Bool.{cases_Bool, and_parts, and_from, both_ways}
use Rattle.wx_tree.specs.Lists.{In}
use Rattle.wx_tree.specs.Paths.{Path, has_entry, holds, same}
use Rattle.wx_tree.specs.Roots.{same_root}
use Rattle.wx_tree.specs.Trees.{IsListing, Tree, guard_of, is_directory, is_safe, node_at, reaches}
use Rattle.wx_tree.specs.declared.root.Root.{Root}
use Rattle.wx_tree.proofs.ListLemmas.{In-cases, In-filter, In-left, In-right}
use Rattle.wx_tree.proofs.PathLemmas.{entry-length, holds-refl, same-refl, same-true, same_root-true}
use Rattle.wx_tree.proofs.Reaching.{entry-reached, reaches-down, reaches-inside, reaches-length, reaches-root, reaches-safe, there_from_dir}
use Rattle.wx_recursor.specs.Owners.{candidates, disown, has_root, own}
use Rattle.wx_recursor.specs.declared.owner.Owner.{Owner}
use Rattle.wx_recursor.specs.declared.work.Item.{Item}
use Rattle.wx_recursor.specs.declared.work.Item.TheVariants.{Candidate, Guard, Scan, Visit}
use Rattle.wx_recursor.proofs.OwnerLemmas.{saw}
use Rattle.wx_recursor.proofs.Coverage.{has_root_in}
use Rattle.wx_walk.specs.Machine.{State, did, has_seen, kept_guards, reconciled, resets, rest_of, scan_new, stepped, stepped_at, visits}
use Rattle.wx_walk.specs.Reached.{Finds, FindsFirst, Steps}
use Rattle.wx_walk.specs.declared.plain.Guarded.{Guarded}
use Rattle.wx_walk.specs.declared.plain.Saw.{Saw}
use Rattle.wx_walk.specs.declared.plain.Saw.TheVariants.{Held, Leaf, Listed, Lost, Reset, Unsafe}
use Rattle.wx_walk.proofs.Kept.{Fits, Keeps, Kept}
use Rattle.wx_walk.proofs.OwnerLemmas.{disown-from, disown-kept, has_seen-true, own-cases, own-kept, own-there, sweep-from, sweep-kept, sweep-seen, unseen-none}

-- what an item was queued for is done
abbrev pub IsDone : Tree → (Path → Bool) → Item → List Item → List Owner → Type 0
IsDone t ok (Guard s) queue owners = Unit {0}
IsDone t ok (Visit s) queue owners = is_safe t s.path ≡ true → In (saw s s.path) owners
IsDone t ok (Scan s p) queue owners = (c : Path) → has_entry p c ≡ true → reaches t ok s c ≡ true → same s.path c ≡ false → In (Candidate s c) queue
IsDone t ok (Candidate s c) queue owners = reaches t ok s c ≡ true → In (saw s c) owners

-- what a step changes
pub record Moves (t : Tree) (ok : Path → Bool) (roots : List Root) (i : Item) (q : List Item) (owners : List Owner) (queue : List Item) (owned : List Owner) : Type 0 where
  pub goes : (j : Item) → In j q → In j queue
  pub comes : (j : Item) → In j queue → In j q ⊎ Fits t ok roots j
  pub stays : (s : Root) (p : Path) → In (saw s p) owners → In (saw s p) owned
  pub fresh : (s : Root) (p : Path) → In (saw s p) owned → In (saw s p) owners
      ⊎ (In s roots × (reaches t ok s p ≡ true) × ((c : Path) → has_entry p c ≡ true → same s.path c ≡ false → reaches t ok s c ≡ true → In (Scan s p) queue))
  pub done : IsDone t ok i queue owned

pub kept_after : {t : Tree} {ok : Path → Bool} {roots : List Root} {i : Item} {q : List Item} {owners : List Owner} {sweep_due : Bool} {queue : List Item} {owned : List Owner} → Kept t ok roots (i ∷ q) owners sweep_due → Moves t ok roots i q owners queue owned → Kept t ok roots queue owned sweep_due
kept_after {t = t} {ok = ok} {roots = roots} {i = i} {q = q} {owners = owners} {queue = queue} {owned = owned} k m = record {
  items = λ j h. elim (m.comes j h) [ inl a ↦ k.items j (inr a) | inr b ↦ b ];
  sound = λ s p h. elim (m.fresh s p h) [ inl a ↦ k.sound s p a | inr b ↦ (b.0, b.1) ];
  visited = λ s h safe. elim (k.visited s h safe) [
    | inl a ↦ elim a [
      | inl e ↦ inr (let d = subst (λ x. IsDone t ok x queue owned) e m.done in d safe)
      | inr b ↦ inl (m.goes _ b)
    ]
    | inr b ↦ inr (m.stays s s.path b)
  ];
  closed = λ s p c h e apart cov. elim (m.fresh s p h) [
    | inl a ↦ elim (k.closed s p c a e apart cov) [
      | inl b ↦ elim b [
        | inl f ↦ inr (inl (let d = subst (λ x. IsDone t ok x queue owned) f m.done in d c e cov apart))
        | inr b' ↦ inl (m.goes _ b')
      ]
      | inr b ↦ elim b [
        | inl b' ↦ elim b' [
          | inl f ↦ inr (inr (let d = subst (λ x. IsDone t ok x queue owned) f m.done in d cov))
          | inr b'' ↦ inr (inl (m.goes _ b''))
        ]
        | inr b' ↦ inr (inr (m.stays s c b'))
      ]
    ]
    | inr b ↦ inl (b.2 c e apart cov)
  ];
  swept = λ e. let n = k.swept e in absurd (let f : (i ∷ q) ≡ [] = n.0 in cc);
}

pub unsafe_is : (a b : Bool) (g h : Option (Path)) → Unsafe g ≡ cond a (cond b Held Leaf) (Unsafe h) → (a ≡ false) × (g ≡ h)
unsafe_is true true g h e = cc
unsafe_is true false g h e = cc
unsafe_is false b g h e = (refl, cc)

pub leaf_is : (a b : Bool) (x : Option (Path)) → Leaf ≡ cond a (cond b Held Leaf) (Unsafe x) → (a ≡ true) × (b ≡ false)
leaf_is true true x e = cc
leaf_is true false x e = (refl, refl)
leaf_is false b x e = cc

pub held_is : (a b : Bool) (x : Option (Path)) → Held ≡ cond a (cond b Held Leaf) (Unsafe x) → (a ≡ true) × (b ≡ true)
held_is true true x e = (refl, refl)
held_is true false x e = cc
held_is false b x e = cc

pub visit_lost : (a b : Bool) (x : Option (Path)) → Lost ≡ cond a (cond b Held Leaf) (Unsafe x) → ⊥
visit_lost true true x e = cc
visit_lost true false x e = cc
visit_lost false b x e = cc

pub visit_reset : (a b : Bool) (x y : Option (Path)) (z : Bool) → Reset y z ≡ cond a (cond b Held Leaf) (Unsafe x) → ⊥
visit_reset true true x y z e = cc
visit_reset true false x y z e = cc
visit_reset false b x y z e = cc

pub visit_listed : (a b : Bool) (x : Option (Path)) (cs : List Path) → Listed cs ≡ cond a (cond b Held Leaf) (Unsafe x) → ⊥
visit_listed true true x cs e = cc
visit_listed true false x cs e = cc
visit_listed false b x cs e = cc

try_lost : (a : Bool) → Lost ≡ cond a Held Lost → a ≡ false
try_lost true e = cc
try_lost false e = refl

pub try_held : (a : Bool) → Held ≡ cond a Held Lost → a ≡ true
try_held true e = refl
try_held false e = cc

pub try_other : (a : Bool) (f : Saw) → f ≡ cond a Held Lost → (f ≡ Held) ⊎ (f ≡ Lost)
try_other true f e = inl e
try_other false f e = inr e

-- a path whose root is lost, or that is rejected, with what lies below it
moves_lost : (t : Tree) (ok : Path → Bool) (roots : List Root) (i : Item) (q : List Item) (owners : List Owner) (r : Root) (p : Path)
    → ((s : Root) (u : Path) → In (saw s u) owners → In s roots × (reaches t ok s u ≡ true))
    → ((u : Path) → holds p u ≡ true → reaches t ok r u ≡ true → ⊥)
    → IsDone t ok i (q ++ []) (disown r p owners)
    → Moves t ok roots i q owners (q ++ []) (disown r p owners)
moves_lost t ok roots i q owners r p sound none done = record {
  goes = λ j h. In-left j q [] h;
  comes = λ j h. elim (In-cases j q [] h) [ inl a ↦ inl a | inr b ↦ absurd b ];
  stays = λ s u h. disown-kept r s p u owners (λ e.
      let a = and_parts (same_root r s) (holds p u) e in
      let f : r ≡ s = same_root-true r s a.0 in
      let c = sound s u h in
      none u a.1 (rw f c.1)) h;
  fresh = λ s u h. inl (disown-from r s p u owners h);
  done = done;
}

scan_new_is : (r : Root) (p : Path) (owners : List Owner) (j : Item) → In j (scan_new r p owners) → Scan r p ≡ j
scan_new_is r p owners j h = go (has_seen r p owners) h
  where
    go : (b : Bool) → In j (cond b [] (Scan r p ∷ [])) → Scan r p ≡ j
    go true h = absurd h
    go false (inl e) = e
    go false (inr h) = absurd h

-- a path that is owned and scanned where it is new
moves_held : (t : Tree) (ok : Path → Bool) (roots : List Root) (i : Item) (q : List Item) (owners : List Owner) (r : Root) (p : Path)
    → In r roots → r.recursive ≡ true → is_directory t p ≡ true → reaches t ok r p ≡ true
    → IsDone t ok i (q ++ scan_new r p owners) (own r p owners)
    → Moves t ok roots i q owners (q ++ scan_new r p owners) (own r p owners)
moves_held t ok roots i q owners r p is_root rec dir cov done = record {
  goes = λ j h. In-left j q _ h;
  comes = λ j h. elim (In-cases j q (scan_new r p owners) h) [
    | inl a ↦ inl a
    | inr b ↦ inr (subst (λ x. Fits t ok roots x) (scan_new_is r p owners j b) (is_root, rec, dir, cov))
  ];
  stays = λ s u h. own-kept r s p u owners h;
  fresh = λ s u h. elim (own-cases r s p u owners h) [
    | inl e ↦ elim (cases_Bool (has_seen r p owners)) [
      | inl a ↦ inl (rw (← e.0, ← e.1) (has_seen-true r p owners a))
      | inr a ↦ inr (rw (← e.0) is_root, rw (← e.0, ← e.1) cov, λ c _ _ _. rw (← e.0, ← e.1, a) (In-right (Scan r p) q (Scan r p ∷ []) (inl refl)))
    ]
    | inr b ↦ inl b
  ];
  done = done;
}

leaf_childless : (t : Tree) (ok : Path → Bool) (r : Root) (p c : Path) → (r.recursive && is_directory t p) ≡ false → has_entry p c ≡ true → same r.path c ≡ false → reaches t ok r c ≡ true → ⊥
leaf_childless t ok r p [] bare d a k = cc
leaf_childless t ok r p (x ∷ c) bare d a k =
    let e : p ≡ c = same-true p c d in
    let inside = reaches-inside t ok r x c a k in
    both_ways (r.recursive && is_directory t p) bare (and_from r.recursive (is_directory t p) inside.recursive (rw e inside.above))

-- a path that is owned, and not scanned
moves_leaf : (t : Tree) (ok : Path → Bool) (roots : List Root) (i : Item) (q : List Item) (owners : List Owner) (r : Root) (p : Path)
    → In r roots → (r.recursive && is_directory t p) ≡ false → reaches t ok r p ≡ true
    → IsDone t ok i (q ++ []) (own r p owners)
    → Moves t ok roots i q owners (q ++ []) (own r p owners)
moves_leaf t ok roots i q owners r p is_root bare cov done = record {
  goes = λ j h. In-left j q [] h;
  comes = λ j h. elim (In-cases j q [] h) [ inl a ↦ inl a | inr b ↦ absurd b ];
  stays = λ s u h. own-kept r s p u owners h;
  fresh = λ s u h. elim (own-cases r s p u owners h) [
    | inl e ↦ inr (rw (← e.0) is_root, rw (← e.0, ← e.1) cov, λ c d a k. absurd (leaf_childless t ok r p c bare (rw e.1 d) (rw e.0 a) (rw e.0 k)))
    | inr b ↦ inl b
  ];
  done = done;
}

candidates_is : (r : Root) (cs : List Path) (j : Item) → In j (candidates r cs) → (c : Path) × (In c cs) × (Candidate r c ≡ j)
candidates_is r [] j h = absurd h
candidates_is r (c ∷ cs) j (inl e) = (c, inl refl, e)
candidates_is r (c ∷ cs) j (inr h) = let k = candidates_is r cs j h in (k.0, inr k.1, k.2)

candidates_there : (r : Root) (cs : List Path) (c : Path) → In c cs → In (Candidate r c) (candidates r cs)
candidates_there r [] c h = h
candidates_there r (d ∷ cs) c (inl e) = inl (ap (λ x. Candidate r x) e)
candidates_there r (d ∷ cs) c (inr h) = inr (candidates_there r cs c h)

entry_is_dir : (t : Tree) (ok : Path → Bool) (r : Root) (p c : Path) → has_entry p c ≡ true → reaches t ok r c ≡ true → same r.path c ≡ false → is_directory t c ≡ true
entry_is_dir t ok r p [] e cov apart = cc
entry_is_dir t ok r p (x ∷ c) e cov apart = (reaches-inside t ok r x c apart cov).here

-- the entries of a directory
moves_listed : (t : Tree) (ok : Path → Bool) (roots : List Root) (q : List Item) (owners : List Owner) (r : Root) (p : Path) (cs : List Path)
    → Fits t ok roots (Scan r p) → IsListing t p cs
    → Moves t ok roots (Scan r p) q owners (q ++ candidates r cs) owners
moves_listed t ok roots q owners r p cs fits l = record {
  goes = λ j h. In-left j q _ h;
  comes = λ j h. elim (In-cases j q (candidates r cs) h) [
    | inl a ↦ inl a
    | inr b ↦ let k = candidates_is r cs j b in inr (subst (λ x. Fits t ok roots x) k.2 (fits.0, fits.1, (p, l.each k.0 k.1, fits.2, fits.3)))
  ];
  stays = λ s u h. h;
  fresh = λ s u h. inl h;
  done = λ c e cov apart. In-right (Candidate r c) q (candidates r cs) (candidates_there r cs c (l.all c e (there_from_dir (node_at t c) (entry_is_dir t ok r p c e cov apart))));
}

longer : (t : Tree) (ok : Path → Bool) (r : Root) (p c : Path) → reaches t ok r p ≡ true → has_entry p c ≡ true → length r.path < length c
longer t ok r p c cov e =
    let a : length r.path ≤ length p = reaches-length t ok r p cov in
    let b : length c ≡ suc (length p) = entry-length p c e in
    omega arith

again_is : (r : Root) (root_is_safe : Bool) (j : Item) → In j (cond root_is_safe (Visit r ∷ []) []) → Visit r ≡ j
again_is r true j (inl e) = e
again_is r true j (inr h) = absurd h
again_is r false j h = absurd h

moves_reset : (t : Tree) (ok : Path → Bool) (roots : List Root) (q : List Item) (owners : List Owner) (r : Root) (root_is_safe : Bool)
    → In r roots → Moves t ok roots (Guard r) q owners (q ++ cond root_is_safe (Visit r ∷ []) []) owners
moves_reset t ok roots q owners r root_is_safe is_root = record {
  goes = λ j h. In-left j q _ h;
  comes = λ j h. elim (In-cases j q (cond root_is_safe (Visit r ∷ []) []) h) [ inl a ↦ inl a | inr b ↦ inr (subst (λ x. Fits t ok roots x) (again_is r root_is_safe j b) is_root) ];
  stays = λ s u h. h;
  fresh = λ s u h. inl h;
  done = tt;
}

pub kept_did : (t : Tree) (ok : Path → Bool) (i : Item) (q : List Item) (f : Saw) (s : State) → Finds t ok i f → Kept t ok s.roots (i ∷ q) s.owners s.sweep_due → Keeps t ok (did i f (rest_of s q))
kept_did t ok (Guard r) q (Reset g root_is_safe) s h k = kept_after k (moves_reset t ok s.roots q s.owners r root_is_safe (let f = k.items (Guard r) (inl refl) in f.0))
kept_did t ok (Guard r) q Lost s h k = cc
kept_did t ok (Guard r) q (Unsafe g) s h k = cc
kept_did t ok (Guard r) q Leaf s h k = cc
kept_did t ok (Guard r) q Held s h k = cc
kept_did t ok (Guard r) q (Listed cs) s h k = cc
kept_did t ok (Visit r) q Lost s h k = absurd (visit_lost (is_safe t r.path) (r.recursive && is_directory t r.path) _ h)
kept_did t ok (Visit r) q (Reset g root_is_safe) s h k = absurd (visit_reset (is_safe t r.path) (r.recursive && is_directory t r.path) _ g root_is_safe h)
kept_did t ok (Visit r) q (Unsafe g) s h k =
    let u = unsafe_is (is_safe t r.path) (r.recursive && is_directory t r.path) g (guard_of t r.path) h in
    let unsafe : is_safe t r.path ≡ false = u.0 in
    kept_after k (moves_lost t ok s.roots (Visit r) q s.owners r r.path k.sound (λ u _ c. both_ways (is_safe t r.path) unsafe (reaches-safe t ok r u c)) (λ safe. absurd (both_ways (is_safe t r.path) unsafe safe)))
kept_did t ok (Visit r) q Leaf s h k =
    let e = leaf_is (is_safe t r.path) (r.recursive && is_directory t r.path) (guard_of t r.path) h in
    kept_after k (moves_leaf t ok s.roots (Visit r) q s.owners r r.path (k.items (Visit r) (inl refl)) e.1 (reaches-root t ok r r.path refl e.0) (λ _. own-there r r.path s.owners))
kept_did t ok (Visit r) q Held s h k =
    let e = held_is (is_safe t r.path) (r.recursive && is_directory t r.path) (guard_of t r.path) h in
    let a = and_parts r.recursive (is_directory t r.path) e.1 in
    kept_after k (moves_held t ok s.roots (Visit r) q s.owners r r.path (k.items (Visit r) (inl refl)) a.0 a.1 (reaches-root t ok r r.path refl e.0) (λ _. own-there r r.path s.owners))
kept_did t ok (Visit r) q (Listed cs) s h k = absurd (visit_listed (is_safe t r.path) (r.recursive && is_directory t r.path) _ cs h)
kept_did t ok (Scan r p) q Lost s (cs, e, l) k = cc
kept_did t ok (Scan r p) q (Unsafe g) s (cs, e, l) k = cc
kept_did t ok (Scan r p) q (Reset g root_is_safe) s (cs, e, l) k = cc
kept_did t ok (Scan r p) q Leaf s (cs, e, l) k = cc
kept_did t ok (Scan r p) q Held s (cs, e, l) k = cc
kept_did t ok (Scan r p) q (Listed ds) s (cs, e, l) k =
    let f : cs ≡ ds = cc in
    kept_after k (moves_listed t ok s.roots q s.owners r p ds (k.items (Scan r p) (inl refl)) (subst (λ x. IsListing t p x) f l))
kept_did t ok (Candidate r c) q Lost s h k =
    let bad : (is_directory t c && ok c) ≡ false = try_lost (is_directory t c && ok c) h in
    let fits = k.items (Candidate r c) (inl refl) in
    let long : length r.path < length c = longer t ok r fits.2.0 c fits.2.3 fits.2.1 in
    let no : (u : Path) → holds c u ≡ true → reaches t ok r u ≡ true → ⊥ =
    λ u a b. let d = reaches-down t ok r c u a b long in both_ways (is_directory t c && ok c) bad (and_from (is_directory t c) (ok c) d.0 d.1) in
    kept_after k (moves_lost t ok s.roots (Candidate r c) q s.owners r c k.sound no (λ cov. absurd (no c (holds-refl c) cov)))
kept_did t ok (Candidate r c) q Held s h k =
    let e : (is_directory t c && ok c) ≡ true = try_held (is_directory t c && ok c) h in
    let a = and_parts (is_directory t c) (ok c) e in
    let fits = k.items (Candidate r c) (inl refl) in
    kept_after k (moves_held t ok s.roots (Candidate r c) q s.owners r c fits.0 fits.1 a.0 (entry-reached t ok r fits.2.0 c fits.1 fits.2.2 fits.2.3 fits.2.1 a.0 a.1) (λ _. own-there r c s.owners))
kept_did t ok (Candidate r c) q Leaf s h k = absurd (elim (try_other (is_directory t c && ok c) Leaf h) [ inl e ↦ cc | inr e ↦ cc ])
kept_did t ok (Candidate r c) q (Unsafe g) s h k = absurd (elim (try_other (is_directory t c && ok c) (Unsafe g) h) [ inl e ↦ cc | inr e ↦ cc ])
kept_did t ok (Candidate r c) q (Reset g root_is_safe) s h k = absurd (elim (try_other (is_directory t c && ok c) (Reset g root_is_safe) h) [ inl e ↦ cc | inr e ↦ cc ])
kept_did t ok (Candidate r c) q (Listed cs) s h k = absurd (elim (try_other (is_directory t c && ok c) (Listed cs) h) [ inl e ↦ cc | inr e ↦ cc ])

pub kept_at : (t : Tree) (ok : Path → Bool) (q : List Item) (f : Saw) (s : State) → FindsFirst t ok q f → Kept t ok s.roots q s.owners s.sweep_due → Keeps t ok (stepped_at q f s)
kept_at t ok [] f s h k = record {
  items = λ j a. absurd a;
  sound = λ r p a. k.sound r p (sweep-from (saw r p) s.owners a);
  visited = λ r a safe. elim (k.visited r a safe) [ inl b ↦ inl b | inr b ↦ inr (sweep-kept r r.path s.owners b) ];
  closed = λ r p c a e apart cov. elim (k.closed r p c (sweep-from (saw r p) s.owners a) e apart cov) [
    | inl b ↦ inl b
    | inr b ↦ elim b [ inl d ↦ inr (inl d) | inr d ↦ inr (inr (sweep-kept r c s.owners d)) ]
  ];
  swept = λ _. (refl, λ o a. sweep-seen o s.owners a);
}
kept_at t ok (i ∷ q) f s h k = kept_did t ok i q f s h k

pub kept_steps : (t : Tree) (ok : Path → Bool) (n : ℕ) (s u : State) → Keeps t ok s → Steps t ok n s u → Keeps t ok u
kept_steps t ok zero s u k e = subst (λ x. Keeps t ok x) (sym e) k
kept_steps t ok (suc n) s u k (f, work, h, steps) = kept_steps t ok n (stepped f s) u (kept_at t ok s.queue f s h k) steps

visits_is : (rs : List Root) (j : Item) → In j (visits rs) → (r : Root) × (In r rs) × (Visit r ≡ j)
visits_is [] j h = absurd h
visits_is (r ∷ rs) j (inl e) = (r, inl refl, e)
visits_is (r ∷ rs) j (inr h) = let k = visits_is rs j h in (k.0, inr k.1, k.2)

pub visits_there : (rs : List Root) (r : Root) → In r rs → In (Visit r) (visits rs)
visits_there [] r h = h
visits_there (s ∷ rs) r (inl e) = inl (ap (λ x. Visit x) e)
visits_there (s ∷ rs) r (inr h) = inr (visits_there rs r h)

pub resets_is : (gs : List Guarded) (j : Item) → In j (resets gs) → (g : Guarded) × (In g gs) × (Guard g.root ≡ j)
resets_is [] j h = absurd h
resets_is (g ∷ gs) j (inl e) = (g, inl refl, e)
resets_is (g ∷ gs) j (inr h) = let k = resets_is gs j h in (k.0, inr k.1, k.2)

pub kept_root : (rs : List Root) (gs : List Guarded) (g : Guarded) → In g (kept_guards rs gs) → In g.root rs
kept_root rs gs g h = let k = In-filter (λ (x : Guarded). has_root x.root rs) g gs h in has_root_in g.root rs k.1

pub kept_there : (rs : List Root) (gs : List Guarded) (g : Guarded) → In g (kept_guards rs gs) → In g gs
kept_there rs gs g h = let k = In-filter (λ (x : Guarded). has_root x.root rs) g gs h in k.0

pub kept_reconciled : (t : Tree) (ok : Path → Bool) (rs : List Root) (s : State) → ((g : Guarded) → In g s.guards → is_safe t g.root.path ≡ false) → Keeps t ok (reconciled rs s)
kept_reconciled t ok rs s unsafe = record {
  items = λ j h. elim (In-cases j (resets (kept_guards rs s.guards)) (visits rs) h) [
    | inl a ↦ let k = resets_is (kept_guards rs s.guards) j a in subst (λ x. Fits t ok rs x) k.2 (kept_root rs s.guards k.0 k.1, unsafe k.0 (kept_there rs s.guards k.0 k.1))
    | inr a ↦ let k = visits_is rs j a in subst (λ x. Fits t ok rs x) k.2 k.1
  ];
  sound = λ r p h. absurd (unseen-none r p s.owners h);
  visited = λ r h safe. inl (In-right (Visit r) (resets (kept_guards rs s.guards)) (visits rs) (visits_there rs r h));
  closed = λ r p c h e apart cov. absurd (unseen-none r p s.owners h);
  swept = λ e. cc;
}

pub complete : (t : Tree) (ok : Path → Bool) (rs : List Root) (os : List Owner) (sweep_due : Bool) → Kept t ok rs [] os sweep_due → (r : Root) (p : Path) → In r rs → reaches t ok r p ≡ true → In (saw r p) os
complete t ok rs os sweep_due k r [] is_root cov =
    let a = and_parts (same r.path []) (is_safe t []) cov in
    let e : r.path ≡ [] = same-true r.path [] a.0 in
    let h : In (saw r r.path) os = elim (k.visited r is_root (reaches-safe t ok r [] cov)) [ inl b ↦ absurd b | inr b ↦ b ] in
    subst (λ x. In (saw r x) os) e h
complete t ok rs os sweep_due k r (x ∷ p) is_root cov =
    elim (cases_Bool (same r.path (x ∷ p))) [
      | inl a ↦
          let e : r.path ≡ x ∷ p = same-true r.path (x ∷ p) a in
          let h : In (saw r r.path) os = elim (k.visited r is_root (reaches-safe t ok r (x ∷ p) cov)) [ inl b ↦ absurd b | inr b ↦ b ] in
          subst (λ y. In (saw r y) os) e h
      | inr a ↦
          let inside = reaches-inside t ok r x p a cov in
          let above : In (saw r p) os = complete t ok rs os sweep_due k r p is_root inside.covered in
          elim (k.closed r p (x ∷ p) above (same-refl p) a cov) [
            | inl b ↦ absurd b
            | inr b ↦ elim b [ inl d ↦ absurd d | inr d ↦ d ]
          ]
    ]
