-- What a recursor reaches, the plain machine reaches.
use Rattle.std.proofs.Common.{◌≡◌, ℕ, suc, zero, ◌≤◌, Bool, true, false, cond, List, [], ◌∷◌, ◌++◌, length, refl, ap, sym, ◌∙◌, inl, inr, subst}
use Rattle.std.specs.Prelude.{◌⊎◌, ◌↔◌, map}
use Rattle.wx_tree.specs.Lists.{AllOnce, In}
use Rattle.wx_tree.specs.Paths.{Path}
use Rattle.wx_tree.specs.Trees.{Tree, guards, is_there, settle, walk}
use Rattle.wx_tree.specs.declared.root.Root.{Root}
use Rattle.wx_tree.proofs.ListLemmas.{In-cases}
use Rattle.wx_recursor.specs.Calls.{has_work, needs_retry, reconciled}
use Rattle.wx_recursor.specs.Identities.{known_path}
use Rattle.wx_recursor.specs.Owners.{candidates}
use Rattle.wx_recursor.specs.Seen.{SeesFirst, identity_at}
use Rattle.wx_recursor.specs.States.{Evidence, RecursorState}
use Rattle.wx_recursor.specs.Steps.{stepped, told}
use Rattle.wx_recursor.specs.declared.known.Identity.{Identity}
use Rattle.wx_recursor.specs.declared.owner.GuardWatch.{GuardWatch}
use Rattle.wx_recursor.specs.declared.owner.Owner.{Owner}
use Rattle.wx_recursor.specs.declared.work.Item.{Item}
use Rattle.wx_recursor.specs.declared.work.Item.TheVariants.{Candidate, Guard, Scan, Visit}
use Rattle.wx_recursor.specs.declared.work.Work.{Work}
use Rattle.wx_recursor.specs.declared.work.Work.TheVariants.{Plain, Probe}
use Rattle.wx_walk.specs.Machine.{State, did, has_items, has_seen, is_work, kept_guards, reconciled as walk_reconciled, resets, rest_of, stepped as walk_stepped, stepped_at as walk_stepped_at, visits}
use Rattle.wx_walk.specs.Reached.{Call, Finds, FindsFirst, Reached, Steps}
use Rattle.wx_walk.specs.declared.plain.Guarded.{Guarded}
use Rattle.wx_walk.specs.declared.plain.Saw.{Saw}
use Rattle.wx_walk.specs.declared.plain.Saw.TheVariants.{Held, Leaf, Listed, Lost, Reset, Unsafe}
use Rattle.wx_walk.proofs.Kept.{Fits}
use Rattle.wx_walk.proofs.Reached.{Holds, holds_reconciled, holds_steps, reached_few, reached_guarded, reached_guards, reached_regs, reached_walk}
use Rattle.wx_settle.specs.Plain.{plain, plain_guard, plain_queue}
use Rattle.wx_settle.specs.Runs.{RecursorReached, RecursorSteps}
use Rattle.wx_settle.proofs.Calls.{fresh_makes, reconcile_makes}
use Rattle.wx_settle.proofs.Right.{tells_tree}
use Rattle.wx_settle.proofs.Simple.{IsClearFirst, Simple, first_saw, first_shows, is_plain}
use Rattle.wx_settle.proofs.Steps.{Makes, step_makes}
use Rattle.wx_settle.proofs.Still.{IsListed, Tells, sees_tells}

-- what is a candidate was listed
abbrev pub AllListed : Tree → List Item → Type 0
AllListed t q = (j : Item) → In j q → IsListed t j

more_listed : (t : Tree) (q u : List Item) → AllListed t q → AllListed t u → AllListed t (q ++ u)
more_listed t q u h k j i = elim (In-cases j q u i) [ inl a ↦ h j a | inr b ↦ k j b ]

none_listed : (t : Tree) → AllListed t []
none_listed t j h = absurd h

scan_listed : (t : Tree) (b : Bool) (r : Root) (p : Path) → AllListed t (cond b [] (Scan r p ∷ []))
scan_listed t true r p j h = absurd h
scan_listed t false r p j (inl e) = subst (λ x. IsListed t x) e tt
scan_listed t false r p j (inr h) = absurd h

again_listed : (t : Tree) (b : Bool) (r : Root) → AllListed t (cond b (Visit r ∷ []) [])
again_listed t true r j (inl e) = subst (λ x. IsListed t x) e tt
again_listed t true r j (inr h) = absurd h
again_listed t false r j h = absurd h

candidates_listed : (t : Tree) (r : Root) (cs : List Path) → ((c : Path) → In c cs → is_there t c ≡ true) → AllListed t (candidates r cs)
candidates_listed t r [] there j h = absurd h
candidates_listed t r (c ∷ cs) there j (inl e) = subst (λ x. IsListed t x) e (there c (inl refl))
candidates_listed t r (c ∷ cs) there j (inr h) = candidates_listed t r cs (λ d i. there d (inr i)) j h

did_listed : (t : Tree) (ok : Path → Bool) (i : Item) (f : Saw) (s : State) → Finds t ok i f → AllListed t s.queue → AllListed t (did i f s).queue
did_listed t ok (Guard r) Lost s h k = k
did_listed t ok (Guard r) (Unsafe g) s h k = k
did_listed t ok (Guard r) (Reset g root_is_safe) s h k = more_listed t s.queue _ k (again_listed t root_is_safe r)
did_listed t ok (Guard r) Leaf s h k = k
did_listed t ok (Guard r) Held s h k = k
did_listed t ok (Guard r) (Listed cs) s h k = k
did_listed t ok (Visit r) Lost s h k = k
did_listed t ok (Visit r) (Unsafe g) s h k = more_listed t s.queue [] k (none_listed t)
did_listed t ok (Visit r) (Reset g root_is_safe) s h k = k
did_listed t ok (Visit r) Leaf s h k = more_listed t s.queue [] k (none_listed t)
did_listed t ok (Visit r) Held s h k = more_listed t s.queue _ k (scan_listed t (has_seen r r.path s.owners) r r.path)
did_listed t ok (Visit r) (Listed cs) s h k = k
did_listed t ok (Scan r p) Lost s h k = k
did_listed t ok (Scan r p) (Unsafe g) s h k = k
did_listed t ok (Scan r p) (Reset g root_is_safe) s h k = k
did_listed t ok (Scan r p) Leaf s h k = k
did_listed t ok (Scan r p) Held s h k = k
did_listed t ok (Scan r p) (Listed ds) s (cs, e, l) k =
    let f : cs ≡ ds = cc in
    more_listed t s.queue _ k (candidates_listed t r ds (subst (λ x. (c : Path) → In c x → is_there t c ≡ true) f l.there))
did_listed t ok (Candidate r p) Lost s h k = more_listed t s.queue [] k (none_listed t)
did_listed t ok (Candidate r p) (Unsafe g) s h k = k
did_listed t ok (Candidate r p) (Reset g root_is_safe) s h k = k
did_listed t ok (Candidate r p) Leaf s h k = k
did_listed t ok (Candidate r p) Held s h k = more_listed t s.queue _ k (scan_listed t (has_seen r p s.owners) r p)
did_listed t ok (Candidate r p) (Listed cs) s h k = k

step_listed : (t : Tree) (ok : Path → Bool) (q : List Item) (f : Saw) (s : State) → FindsFirst t ok q f → AllListed t q → AllListed t (walk_stepped_at q f s).queue
step_listed t ok [] f s h k = none_listed t
step_listed t ok (i ∷ q) f s h k = did_listed t ok i f (rest_of s q) h (λ j x. k j (inr x))

resets_listed : (t : Tree) (gs : List Guarded) → AllListed t (resets gs)
resets_listed t [] j h = absurd h
resets_listed t (g ∷ gs) j (inl e) = subst (λ x. IsListed t x) e tt
resets_listed t (g ∷ gs) j (inr h) = resets_listed t gs j h

visits_listed : (t : Tree) (rs : List Root) → AllListed t (visits rs)
visits_listed t [] j h = absurd h
visits_listed t (r ∷ rs) j (inl e) = subst (λ x. IsListed t x) e tt
visits_listed t (r ∷ rs) j (inr h) = visits_listed t rs j h

-- all that is kept, while the tree stays still
pub record Stands (t : Tree) (ok : Path → Bool) (s : RecursorState) : Type 0 where
  pub simple : Simple (identity_at t) s
  pub holds : Holds t ok (plain s)
  pub listed : AllListed t (plain s).queue

-- the first item's evidence
pub first_tells : (t : Tree) (ok : Path → Bool) (rs : List Root) (q : List Work) (e : Evidence) → is_plain q ≡ true → ((i : Item) → In i (plain_queue q) → Fits t ok rs i) → AllListed t (plain_queue q) → SeesFirst t ok q e
    → IsClearFirst (identity_at t) q e × FindsFirst t ok (plain_queue q) (first_saw q e)
first_tells t ok rs [] e p fits listed s = (tt, tt)
first_tells t ok rs (Plain i ∷ q) e p fits listed s =
    let a : Tells t ok i e = sees_tells t ok rs i e (fits i (inl refl)) (listed i (inl refl)) s in
    (a.clear, a.finds)
first_tells t ok rs (Probe x os ∷ q) e p fits listed s = cc

works : (q : List Work) (sweep_due : Bool) → is_plain q ≡ true → has_work q sweep_due ≡ has_items (plain_queue q) sweep_due
works [] sweep_due p = refl
works (Plain i ∷ q) sweep_due p = refl
works (Probe x os ∷ q) sweep_due p = cc

pub is_work_plain : (id : Path → Identity) (s : RecursorState) → Simple id s → has_work s.queue s.sweep_due ≡ is_work (plain s)
is_work_plain id s k = works s.queue s.sweep_due k.plain

told_simple : (id : Path → Identity) (s : RecursorState) → Simple id s → Simple id (told s)
told_simple id s k = record {
  right = k.right;
  quiet = record { waiting = k.quiet.waiting; retries = k.quiet.retries; failed = k.quiet.failed; skipped = k.quiet.skipped; excluded = k.quiet.excluded; tombstones = k.quiet.tombstones; lost = k.quiet.lost; stopped = k.quiet.stopped; deferred = k.quiet.deferred; asks_rebuild = refl };
  plain = k.plain;
}

pub full_steps : (t : Tree) (ok : Path → Bool) (n : ℕ) (s u : RecursorState) → Stands t ok s → RecursorSteps t ok n s u → Stands t ok u × Steps t ok n (plain s) (plain u)
full_steps t ok zero s u k e = (subst (λ x. Stands t ok x) (sym e) k, ap plain e)
full_steps t ok (suc n) s u k (e, work, sees, releases, rest) =
    let d = first_tells t ok s.roots s.queue e k.simple.plain (let h = k.holds in h.kept.items) k.listed sees in
    let m : Makes (identity_at t) (stepped e s) (walk_stepped (first_saw s.queue e) (plain s)) (s.shown ++ first_shows s.queue e) = step_makes (identity_at t) (tells_tree t) e s k.simple d.0 releases in
    let f : Saw = first_saw s.queue e in
    let work' : is_work (plain s) ≡ true = sym (is_work_plain (identity_at t) s k.simple) ∙ work in
    let one : Steps t ok 1 (plain s) (walk_stepped f (plain s)) = (f, work', d.1, refl) in
    let h : Holds t ok (walk_stepped f (plain s)) = holds_steps t ok 1 (plain s) (walk_stepped f (plain s)) k.holds one in
    let l : AllListed t (walk_stepped f (plain s)).queue = step_listed t ok (plain s).queue f (plain s) d.1 k.listed in
    let same : plain (told (stepped e s)) ≡ walk_stepped f (plain s) = m.same in
    let next : Stands t ok (told (stepped e s)) = record {
      simple = told_simple (identity_at t) (stepped e s) m.simple;
      holds = subst (λ x. Holds t ok x) (sym same) h;
      listed = subst (λ x. AllListed t x.queue) (sym same) l;
    } in
    let r = full_steps t ok n (told (stepped e s)) u next rest in
    (r.0, (f, work', d.1, subst (λ x. Steps t ok n x (plain u)) same r.1))

pub call_stands : (t : Tree) (ok : Path → Bool) (rs : List Root) (n : ℕ) (cs : List Call) (s : RecursorState) → Simple (identity_at t) s → Reached t cs (plain s) → Stands t ok (reconciled rs n s)
call_stands t ok rs n cs s k reached =
    let m : Makes (identity_at t) (reconciled rs n s) (walk_reconciled rs (plain s)) s.shown = reconcile_makes (identity_at t) rs n s k in
    let g = reached_guards t cs (plain s) reached in
    record {
      simple = m.simple;
      holds = subst (λ x. Holds t ok x) (sym m.same) (holds_reconciled t ok rs (plain s) g.0 g.1);
      listed = subst (λ x. AllListed t x.queue) (sym m.same) (more_listed t _ _ (resets_listed t (kept_guards rs (map plain_guard s.guards))) (visits_listed t rs));
    }

-- what the whole recursor reaches, the reduced machine reaches
pub full_reached : (t : Tree) (cs : List Call) (u : RecursorState) → RecursorReached t cs u → Simple (identity_at t) u × Reached t cs (plain u)
full_reached t [] u e =
    let m = fresh_makes (identity_at t) in
    (subst (λ x. Simple (identity_at t) x) (sym e) m.simple, ap plain e)
full_reached t (c ∷ cs) u (n, s, before, steps) =
    let a = full_reached t cs s before in
    let m : Makes (identity_at t) (reconciled c.roots n s) (walk_reconciled c.roots (plain s)) s.shown = reconcile_makes (identity_at t) c.roots n s a.0 in
    let b = full_steps t c.ok c.steps (reconciled c.roots n s) u (call_stands t c.ok c.roots n cs s a.0 a.1) steps in
    let k = b.0 in
    (k.simple, (plain s, a.1, subst (λ x. Steps t c.ok c.steps x (plain u)) m.same b.1))

-- so it settles

pub full_walk : (t : Tree) (c : Call) (cs : List Call) (u : RecursorState) → RecursorReached t (c ∷ cs) u → has_work u.queue u.sweep_due ≡ false → (p : Path) → ((o : Owner) × In o u.owners × (o.path ≡ p)) ↔ In p (walk t c.roots c.ok)
full_walk t c cs u r rest =
    let a = full_reached t (c ∷ cs) u r in
    reached_walk t c cs (plain u) a.1 (sym (is_work_plain (identity_at t) u a.0) ∙ rest)

pub in_map : {X Y : Type 0} → (f : X → Y) (x : X) (xs : List X) → In x xs → In (f x) (map f xs)
in_map f x [] h = absurd h
in_map f x (y ∷ xs) (inl e) = inl (ap f e)
in_map f x (y ∷ xs) (inr h) = inr (in_map f x xs h)

map_in : {X Y : Type 0} → (f : X → Y) (y : Y) (xs : List X) → In y (map f xs) → (x : X) × In x xs × (f x ≡ y)
map_in f y [] h = absurd h
map_in f y (x ∷ xs) (inl e) = (x, inl refl, e)
map_in f y (x ∷ xs) (inr h) = let k = map_in f y xs h in (k.0, inr k.1, k.2)

pub full_guards : (t : Tree) (c : Call) (cs : List Call) (u : RecursorState) → RecursorReached t (c ∷ cs) u → has_work u.queue u.sweep_due ≡ false → (p : Path) → ((g : GuardWatch) × In g u.guards × (g.path ≡ p)) ↔ In p (guards t c.roots)
full_guards t c cs u r rest p =
    let a = full_reached t (c ∷ cs) u r in
    let b = reached_guarded t c cs (plain u) a.1 (sym (is_work_plain (identity_at t) u a.0) ∙ rest) p in (
      (λ (g, h, e). b.0 (plain_guard g, in_map plain_guard g u.guards h, e)),
      (λ h.
          let d = b.1 h in
          let k = map_in plain_guard d.0 u.guards d.1 in
          (k.0, k.1, ap (λ x. x.path) k.2 ∙ d.2)),
    )

pub full_regs : (t : Tree) (c : Call) (cs : List Call) (u : RecursorState) → RecursorReached t (c ∷ cs) u → has_work u.queue u.sweep_due ≡ false
    → AllOnce (map known_path u.registrations) × ((p : Path) → In p (map known_path u.registrations) ↔ (In p (walk t c.roots c.ok) ⊎ In p (guards t c.roots)))
full_regs t c cs u r rest =
    let a = full_reached t (c ∷ cs) u r in
    reached_regs t c cs (plain u) a.1 (sym (is_work_plain (identity_at t) u a.0) ∙ rest)

pub full_few : (t : Tree) (c : Call) (cs : List Call) (o : ℕ) (n : ℕ) (s u : RecursorState) → RecursorReached t cs s → RecursorSteps t c.ok c.steps (reconciled c.roots n s) u
    → c.steps ≤ settle (length (kept_guards c.roots (map plain_guard s.guards))) (length c.roots) (length t) o
full_few t c cs o n s u before steps =
    let a = full_reached t cs s before in
    let m : Makes (identity_at t) (reconciled c.roots n s) (walk_reconciled c.roots (plain s)) s.shown = reconcile_makes (identity_at t) c.roots n s a.0 in
    let b = full_steps t c.ok c.steps (reconciled c.roots n s) u (call_stands t c.ok c.roots n cs s a.0 a.1) steps in
    reached_few t c cs o (plain s) (plain u) a.1 (subst (λ x. Steps t c.ok c.steps x (plain u)) m.same b.1)

pub full_calm : (t : Tree) (cs : List Call) (u : RecursorState) → RecursorReached t cs u → needs_retry u ≡ false
full_calm t cs u r =
    let a = full_reached t cs u r in
    let k = a.0 in
    let q = k.quiet in
    rw (q.retries, q.skipped, q.stopped, q.deferred) refl
