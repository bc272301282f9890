-- What a draft makes of a state, as it grows.
use Rattle.std.proofs.Common.{◌≡◌, ◌≤◌, ◌<◌, ◌-◌, ℕ, length, take, drop, get_or, arith, Bool, true, false, not, ◌&&◌, ◌||◌, List, [], ◌∷◌, ◌++◌, filter, append_assoc, refl, ap, sym, ◌∙◌, inl, inr}
use Rattle.std.proofs.Math.Seq.{take-length}
use Rattle.std.proofs.lemmas.Bool.{cases_Bool}
use Rattle.std.proofs.lemmas.List.{append-nil}
use Rattle.std.proofs.Math.Bool.{or-false, or_assoc}
use Rattle.std.proofs.lemmas.List.Elements.{filter-append}
use Rattle.wx_tree.specs.Paths.{Path, holds}
use Rattle.wx_recursor.specs.Calls.{aliases, cleared_below, created_one, for_each, guards_below, guards_of_roots_below, owners_above, owners_at, removed_one, renamed, roots_below, tombstones_lifted, unsure_one}
use Rattle.wx_recursor.specs.Holding.{enqueue}
use Rattle.wx_recursor.specs.Rebuilds.{is_under_any}
use Rattle.wx_recursor.specs.States.{RecursorState}
use Rattle.wx_recursor.specs.Steps.{candidates_of, owns_parent}
use Rattle.wx_recursor.specs.declared.owner.Owner.{Owner}
use Rattle.wx_recursor.specs.declared.work.Work.{Work}
use Rattle.wx_recursor.specs.declared.work.Work.TheVariants.{Probe}
use Rattle.wx_topology.specs.Drafts.{buried, is_lifted, spared, unlifted}

-- lists and filters

filter_twice : {X : Type 0} (f g h : X → Bool) → ((x : X) → h x ≡ (f x && g x)) → (xs : List X) → filter h xs ≡ filter g (filter f xs)
filter_twice f g h both [] = refl
filter_twice f g h both (x ∷ xs) =
    elim (cases_Bool (f x)) [
      | inl e ↦ elim (cases_Bool (g x)) [
        | inl k ↦ (let m : h x ≡ true = both x ∙ rw (e, k) refl in rw (m, e, k) (ap (λ zs. x ∷ zs) (filter_twice f g h both xs)))
        | inr k ↦ (let m : h x ≡ false = both x ∙ rw (e, k) refl in rw (m, e, k) (filter_twice f g h both xs))
      ]
      | inr e ↦ (let m : h x ≡ false = both x ∙ rw e refl in rw (m, e) (filter_twice f g h both xs))
    ]

not_or : (a b : Bool) → not (a || b) ≡ (not a && not b)
not_or true b = refl
not_or false b = refl

-- owners

under_more : (q p : Path) (ps : List Path) → is_under_any q (ps ++ p ∷ []) ≡ (is_under_any q ps || holds p q)
under_more q p [] = or-false (holds p q)
under_more q p (a ∷ ps) = ap (λ b. holds a q || b) (under_more q p ps) ∙ sym (or_assoc (holds a q) (is_under_any q ps) (holds p q))

pub spared_none : (os : List Owner) → spared [] os ≡ os
spared_none [] = refl
spared_none (o ∷ os) = ap (λ zs. o ∷ zs) (spared_none os)

-- those below the first go first
pub spared_first : (p : Path) (ps : List Path) (os : List Owner) → spared (p ∷ ps) os ≡ spared ps (filter (λ o. not (holds p o.path)) os)
spared_first p ps os =
    filter_twice (λ o. not (holds p o.path)) (λ o. not (is_under_any o.path ps)) (λ o. not (is_under_any o.path (p ∷ ps)))
    (λ o. not_or (holds p o.path) (is_under_any o.path ps)) os

-- the first is gone along
pub spared_rest : (rest : List Path) (p : Path) (n : ℕ) (os us zs : List Owner) → 1 ≤ length rest → n ≡ length rest → get_or rest 0 p ≡ p → us ≡ filter (λ o. not (holds p o.path)) os → spared rest os ≡ zs → spared (take (n - 1) (drop 1 rest)) us ≡ zs
spared_rest [] p n os us zs le e f g h = absurd (omega arith)
spared_rest (y ∷ ys) p n os us zs le e f g h =
    let m : n - 1 ≡ length ys = omega arith in
    rw (m, take-length ys, g) (sym (spared_first p ys os) ∙ (ap (λ q. spared (q ∷ ys) os) (sym f) ∙ h))

pub spared_end : (rest : List Path) (os zs : List Owner) → length rest < 1 → spared rest os ≡ zs → os ≡ zs
spared_end [] os zs lt h = sym (spared_none os) ∙ h
spared_end (y ∷ ys) os zs lt h = absurd (omega arith)

pub spared_more : (p : Path) (ps : List Path) (os : List Owner) → spared (ps ++ p ∷ []) os ≡ filter (λ o. not (holds p o.path)) (spared ps os)
spared_more p ps os =
    filter_twice (λ o. not (is_under_any o.path ps)) (λ o. not (holds p o.path)) (λ o. not (is_under_any o.path (ps ++ p ∷ [])))
    (λ o. ap not (under_more o.path p ps) ∙ not_or (is_under_any o.path ps) (holds p o.path)) os

-- tombstones

lifted_more : (q p : Path) (ps : List Path) → is_lifted q (ps ++ p ∷ []) ≡ (is_lifted q ps || (holds p q || holds q p))
lifted_more q p [] = or-false (holds p q || holds q p)
lifted_more q p (a ∷ ps) = ap (λ b. (holds a q || holds q a) || b) (lifted_more q p ps) ∙ sym (or_assoc (holds a q || holds q a) (is_lifted q ps) (holds p q || holds q p))

unlifted_more : (p : Path) (ps qs : List Path) → unlifted (ps ++ p ∷ []) qs ≡ filter (λ q. not (holds p q || holds q p)) (unlifted ps qs)
unlifted_more p ps qs =
    filter_twice (λ q. not (is_lifted q ps)) (λ q. not (holds p q || holds q p)) (λ q. not (is_lifted q (ps ++ p ∷ [])))
    (λ q. ap not (lifted_more q p ps) ∙ not_or (is_lifted q ps) (holds p q || holds q p)) qs

unlifted_none : (qs : List Path) → unlifted [] qs ≡ qs
unlifted_none [] = refl
unlifted_none (q ∷ qs) = ap (λ zs. q ∷ zs) (unlifted_none qs)

-- the state

pub new_drafts : (s : RecursorState) (q : List Work) (ps ls ts : List Path) → q ≡ [] → ps ≡ [] → ls ≡ [] → ts ≡ [] → record s { queue = s.queue ++ q; sweep_due = s.sweep_due; owners = spared ps s.owners; tombstones = unlifted ls s.tombstones ++ ts } ≡ s
new_drafts s q ps ls ts a b c d =
    rw (a, b, c, d) (rw (append-nil s.queue, spared_none s.owners, append-nil (unlifted [] s.tombstones), unlifted_none s.tombstones) refl)

pub clears : (x : RecursorState) (p p' : Path) (ps qs : List Path) (os : List Owner) → x.owners ≡ spared ps os → qs ≡ ps ++ p' ∷ [] → p' ≡ p → record x { sweep_due = true; owners = spared qs os } ≡ cleared_below p x
clears x p p' ps qs os a b c =
    ap {A = List Owner} (λ zs. record x { sweep_due = true; owners = zs }) (rw (b, c, a) (spared_more p ps os))

pub lifts : (x : RecursorState) (p p' : Path) (ps qs ts new new' : List Path) → x.tombstones ≡ unlifted ps ts ++ new → qs ≡ ps ++ p' ∷ [] → p' ≡ p → new' ≡ filter (λ q. not (holds p q || holds q p)) new → record x { tombstones = unlifted qs ts ++ new' } ≡ tombstones_lifted p x
lifts x p p' ps qs ts new new' a b c d =
    ap {A = List Path} (λ zs. record x { tombstones = zs }) (rw (b, c, d, a) (ap (λ zs. zs ++ filter (λ q. not (holds p q || holds q p)) new) (unlifted_more p ps ts) ∙ sym (filter-append (λ q. not (holds p q || holds q p)) (unlifted ps ts) new)))

pub buries : (x : RecursorState) (p p' : Path) (ts new new' : List Path) → x.tombstones ≡ ts ++ new → new' ≡ new ++ p' ∷ [] → p' ≡ p → record x { tombstones = ts ++ new' } ≡ buried p x
buries x p p' ts new new' a b c =
    ap {A = List Path} (λ zs. record x { tombstones = zs }) (rw (b, c, a) (sym (append_assoc ts new (p ∷ []))))

pub queues : (x : RecursorState) (a b c m m' : List Work) → x.queue ≡ a ++ b → c ≡ b ++ m → m ≡ m' → record x { queue = a ++ c } ≡ enqueue m' x
queues x a b c m m' e f g =
    ap {A = List Work} (λ q. record x { queue = q }) (rw (f, g, e) (sym (append_assoc a b m')))

pub queues_twice : (x : RecursorState) (a b c d m n n' : List Work) → x.queue ≡ a ++ b → c ≡ b ++ m → d ≡ c ++ n → n ≡ n' → record x { queue = a ++ d } ≡ enqueue n' (enqueue m x)
queues_twice x a b c d m n n' e f g h =
    ap {A = List Work} (λ q. record x { queue = q }) (rw (g, f, h, e) (ap (λ z. a ++ z) (append_assoc b m n') ∙ (sym (append_assoc a b (m ++ n')) ∙ sym (append_assoc (a ++ b) m n'))))

pub same_candidates : (p : Path) (cs ds : List Path) (s : RecursorState) → cs ≡ ds → candidates_of p (filter (λ r. r.recursive && owns_parent r p (spared cs s.owners)) s.roots) ≡ candidates_of p (filter (λ r. r.recursive && owns_parent r p (spared ds s.owners)) s.roots)
same_candidates p cs ds s e = ap (λ zs. candidates_of p (filter (λ r. r.recursive && owns_parent r p (spared zs s.owners)) s.roots)) e

pub same_probe : (p : Path) (cs ds : List Path) (s : RecursorState) → cs ≡ ds → Probe p (owners_at p (spared cs s.owners)) ∷ [] ≡ Probe p (owners_at p (spared ds s.owners)) ∷ []
same_probe p cs ds s e = ap (λ zs. Probe p (owners_at p (spared zs s.owners)) ∷ []) e

-- what is done at one path

pub creates : (p : Path) (x y z u : RecursorState) → y ≡ enqueue (candidates_of p (owners_above p x)) (enqueue (guards_below p x.guards ++ roots_below p x.roots) x) → z ≡ cleared_below p y → u ≡ tombstones_lifted p z → u ≡ created_one p x
creates p x y z u e f g = g ∙ ap (tombstones_lifted p) (f ∙ ap (cleared_below p) e)

pub unsures : (p : Path) (x y z u : RecursorState) → y ≡ enqueue (Probe p (owners_at p x.owners) ∷ []) (enqueue (guards_below p x.guards ++ roots_below p x.roots) x) → z ≡ cleared_below p y → u ≡ tombstones_lifted p z → u ≡ unsure_one p x
unsures p x y z u e f g = g ∙ ap (tombstones_lifted p) (f ∙ ap (cleared_below p) e)

pub removes : (p : Path) (x y z u : RecursorState) → y ≡ enqueue (guards_of_roots_below p x.roots) x → z ≡ buried p y → u ≡ cleared_below p z → u ≡ removed_one p x
removes p x y z u e f g = g ∙ ap (cleared_below p) (f ∙ ap (buried p) e)

pub each_both : (f : Path → RecursorState → RecursorState) (ps qs : List Path) (s : RecursorState) → for_each f (ps ++ qs) s ≡ for_each f qs (for_each f ps s)
each_both f [] qs s = refl
each_both f (p ∷ ps) qs s = each_both f ps qs (f p s)

pub renames : (s a b c d : RecursorState) (ps qs ps' qs' qs'' : List Path) (p q : Path) → a ≡ s → ps ≡ aliases p s → qs ≡ aliases q s → ps' ≡ ps → qs' ≡ qs → qs'' ≡ qs
    → b ≡ for_each removed_one ps' a → c ≡ for_each removed_one qs' b → d ≡ for_each created_one qs'' c → d ≡ renamed p q s
renames s a b c d ps qs ps' qs' qs'' p q new left reached f g h first second third =
    let j : b ≡ for_each removed_one (aliases p s) s = first ∙ (ap (λ z. for_each removed_one z a) (f ∙ left) ∙ ap (λ x. for_each removed_one (aliases p s) x) new) in
    let k : c ≡ for_each removed_one (aliases q s) (for_each removed_one (aliases p s) s) = second ∙ (ap (λ z. for_each removed_one z b) (g ∙ reached) ∙ ap (λ x. for_each removed_one (aliases q s) x) j) in
    third ∙ (ap (λ z. for_each created_one z c) (h ∙ reached) ∙ ap (λ x. for_each created_one (aliases q s) x) (k ∙ sym (each_both removed_one (aliases p s) (aliases q s) s)))
