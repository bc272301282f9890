-- Which errors the steps show.
use Rattle.std.proofs.Common.{◌≡◌, ℕ, suc, zero, Bool, true, false, List, [], ◌∷◌, ◌++◌, refl, ap, sym, ◌∙◌, inl, inr, subst}
use Rattle.std.specs.Prelude.{◌⊎◌, map}
use Rattle.std.proofs.lemmas.Bool.{cases_Bool}
use Rattle.wx_tree.specs.Lists.{In}
use Rattle.wx_tree.specs.Paths.{Path}
use Rattle.wx_tree.specs.Trees.{Tree, is_safe}
use Rattle.wx_tree.specs.declared.root.Root.{Root}
use Rattle.wx_tree.proofs.ListLemmas.{In-cases, In-left, In-right}
use Rattle.wx_recursor.specs.Calls.{has_work, reconciled}
use Rattle.wx_recursor.specs.Seen.{SeesFirst, identity_at, is_gap, root_found}
use Rattle.wx_recursor.specs.States.{Evidence, RecursorState}
use Rattle.wx_recursor.specs.Steps.{stepped, told}
use Rattle.wx_recursor.specs.declared.answers.Found.{Found}
use Rattle.wx_recursor.specs.declared.errors.ScanFault.TheVariants.{NotFound}
use Rattle.wx_recursor.specs.declared.errors.ShownError.{ShownError}
use Rattle.wx_recursor.specs.declared.errors.ShownError.TheVariants.{PathScan}
use Rattle.wx_recursor.specs.declared.work.Item.{Item}
use Rattle.wx_recursor.specs.declared.work.Item.TheVariants.{Candidate, Guard, Scan, Visit}
use Rattle.wx_recursor.specs.declared.work.Work.{Work}
use Rattle.wx_recursor.specs.declared.work.Work.TheVariants.{Plain, Probe}
use Rattle.wx_walk.specs.Machine.{State, did, kept_guards, reconciled as walk_reconciled, resets, rest_of, stepped as walk_stepped, stepped_at as walk_stepped_at, visits}
use Rattle.wx_walk.specs.Reached.{Call}
use Rattle.wx_walk.specs.declared.plain.Saw.{Saw}
use Rattle.wx_walk.specs.declared.plain.Saw.TheVariants.{Held, Leaf, Listed, Lost, Reset, Unsafe}
use Rattle.wx_walk.proofs.Kept.{Fits}
use Rattle.wx_walk.proofs.Moves.{visits_there}
use Rattle.wx_walk.proofs.Settled.{roots_at}
use Rattle.wx_settle.specs.Plain.{plain, plain_guard, plain_queue}
use Rattle.wx_settle.specs.Runs.{RecursorReached, RecursorShows, RecursorSteps}
use Rattle.wx_settle.proofs.Calls.{reconcile_makes}
use Rattle.wx_settle.proofs.Reach.{Stands, call_stands, first_tells, full_reached, full_steps}
use Rattle.wx_settle.proofs.Right.{tells_tree}
use Rattle.wx_settle.proofs.Simple.{first_saw, first_shows, is_plain, visit_shows}
use Rattle.wx_settle.proofs.Steps.{Makes, step_makes}

-- a root that counts as absent
pub record Absent (t : Tree) (r : Root) : Type 0 where
  pub unsafe : is_safe t r.path ≡ false
  pub gap : is_gap t r.path ≡ true

abbrev pub ShowsAbsentRoot : Tree → List Root → ShownError → Type 0
ShowsAbsentRoot t rs x = (r : Root) × In r rs × Absent t r × (x ≡ PathScan r.path NotFound)

-- what is queued stays queued until its turn
did_keeps : (i j : Item) (f : Saw) (s : State) → In j s.queue → In j (did i f s).queue
did_keeps (Guard r) j Lost s h = h
did_keeps (Guard r) j (Unsafe g) s h = h
did_keeps (Guard r) j (Reset g root_is_safe) s h = In-left j s.queue _ h
did_keeps (Guard r) j Leaf s h = h
did_keeps (Guard r) j Held s h = h
did_keeps (Guard r) j (Listed cs) s h = h
did_keeps (Visit r) j Lost s h = h
did_keeps (Visit r) j (Unsafe g) s h = In-left j s.queue _ h
did_keeps (Visit r) j (Reset g root_is_safe) s h = h
did_keeps (Visit r) j Leaf s h = In-left j s.queue _ h
did_keeps (Visit r) j Held s h = In-left j s.queue _ h
did_keeps (Visit r) j (Listed cs) s h = h
did_keeps (Scan r p) j Lost s h = h
did_keeps (Scan r p) j (Unsafe g) s h = h
did_keeps (Scan r p) j (Reset g root_is_safe) s h = h
did_keeps (Scan r p) j Leaf s h = h
did_keeps (Scan r p) j Held s h = h
did_keeps (Scan r p) j (Listed cs) s h = In-left j s.queue _ h
did_keeps (Candidate r p) j Lost s h = In-left j s.queue _ h
did_keeps (Candidate r p) j (Unsafe g) s h = h
did_keeps (Candidate r p) j (Reset g root_is_safe) s h = h
did_keeps (Candidate r p) j Leaf s h = h
did_keeps (Candidate r p) j Held s h = In-left j s.queue _ h
did_keeps (Candidate r p) j (Listed cs) s h = h

-- what a look at a root shows

visit_only : (t : Tree) (rs : List Root) (r : Root) (f : Found) (x : ShownError) → In r rs → f ≡ root_found t r.path → In x (visit_shows r f) → ShowsAbsentRoot t rs x
visit_only t rs r f x root e h =
    elim (cases_Bool (is_safe t r.path)) [
      | inl a ↦ absurd (rw (e, a) at h)
      | inr a ↦ elim (cases_Bool (is_gap t r.path)) [
        | inl b ↦ elim (let k : In x (PathScan r.path NotFound ∷ []) = rw (e, a, b) at h in k) [
          | inl c ↦ (r, root, record { unsafe = a; gap = b }, sym c)
          | inr c ↦ absurd c
        ]
        | inr b ↦ absurd (rw (e, a, b) at h)
      ]
    ]

visit_each : (t : Tree) (r : Root) (f : Found) → f ≡ root_found t r.path → Absent t r → In (PathScan r.path NotFound) (visit_shows r f)
visit_each t r f e a = rw (e, a.unsafe, a.gap) (inl refl)

first_only : (t : Tree) (ok : Path → Bool) (rs : List Root) (q : List Work) (e : Evidence) (x : ShownError) → ((i : Item) → In i (plain_queue q) → Fits t ok rs i) → SeesFirst t ok q e → In x (first_shows q e) → ShowsAbsentRoot t rs x
first_only t ok rs [] e x fits s h = absurd h
first_only t ok rs (Plain (Guard r) ∷ q) e x fits s h = absurd h
first_only t ok rs (Plain (Visit r) ∷ q) e x fits s h = visit_only t rs r e.found x (fits (Visit r) (inl refl)) s.found h
first_only t ok rs (Plain (Scan r p) ∷ q) e x fits s h = absurd h
first_only t ok rs (Plain (Candidate r p) ∷ q) e x fits s h = absurd h
first_only t ok rs (Probe p os ∷ q) e x fits s h = absurd h

-- a queued root is looked at now, or later
visit_is : (u r : Root) → Visit u ≡ Visit r → u ≡ r
visit_is u r e = cc

first_each : (t : Tree) (ok : Path → Bool) (r : Root) (q : List Work) (e : Evidence) (f : Saw) (s : State) → is_plain q ≡ true → SeesFirst t ok q e → Absent t r → In (Visit r) (plain_queue q)
    → In (PathScan r.path NotFound) (first_shows q e) ⊎ In (Visit r) (walk_stepped_at (plain_queue q) f s).queue
first_each t ok r [] e f s p' sees a h = absurd h
first_each t ok r (Plain (Guard u) ∷ q) e f s p' sees a (inl h) = cc
first_each t ok r (Plain (Guard u) ∷ q) e f s p' sees a (inr h) = inr (did_keeps (Guard u) (Visit r) f (rest_of s (plain_queue q)) h)
first_each t ok r (Plain (Visit u) ∷ q) e f s p' sees a (inl h) =
    let k : u ≡ r = visit_is u r h in
    inl (subst (λ x. In (PathScan x.path NotFound) (visit_shows u e.found)) k (visit_each t u e.found sees.found (subst (λ x. Absent t x) (sym k) a)))
first_each t ok r (Plain (Visit u) ∷ q) e f s p' sees a (inr h) = inr (did_keeps (Visit u) (Visit r) f (rest_of s (plain_queue q)) h)
first_each t ok r (Plain (Scan u p) ∷ q) e f s p' sees a (inl h) = cc
first_each t ok r (Plain (Scan u p) ∷ q) e f s p' sees a (inr h) = inr (did_keeps (Scan u p) (Visit r) f (rest_of s (plain_queue q)) h)
first_each t ok r (Plain (Candidate u p) ∷ q) e f s p' sees a (inl h) = cc
first_each t ok r (Plain (Candidate u p) ∷ q) e f s p' sees a (inr h) = inr (did_keeps (Candidate u p) (Visit r) f (rest_of s (plain_queue q)) h)
first_each t ok r (Probe p os ∷ q) e f s p' sees a h = cc

-- what the steps show
pub record Tells (t : Tree) (rs : List Root) (s u : RecursorState) (es : List ShownError) (asks_rebuild : Bool) : Type 0 where
  pub calm : asks_rebuild ≡ false
  pub only : (x : ShownError) → In x es → ShowsAbsentRoot t rs x
  pub each : (r : Root) → Absent t r → In (Visit r) (plain_queue s.queue) → In (PathScan r.path NotFound) es ⊎ In (Visit r) (plain_queue u.queue)

pub steps_show : (t : Tree) (ok : Path → Bool) (n : ℕ) (rs : List Root) (s u : RecursorState) (es : List ShownError) (asks_rebuild : Bool) → s.roots ≡ rs → s.shown ≡ [] → Stands t ok s → RecursorShows t ok n s u es asks_rebuild → Tells t rs s u es asks_rebuild
steps_show t ok zero rs s u es asks_rebuild same quiet k (a, b, c) = record {
  calm = c;
  only = λ x h. absurd (subst (λ y. In x y) b h);
  each = λ r absent h. inr (subst (λ y. In (Visit r) (plain_queue y.queue)) (sym a) h);
}
steps_show t ok (suc n) rs s u es asks_rebuild same quiet k (e, ds, later, work, sees, releases, shown, asked, rest) =
    let fits : (i : Item) → In i (plain_queue s.queue) → Fits t ok s.roots i = let h = k.holds in h.kept.items in
    let d = first_tells t ok s.roots s.queue e k.simple.plain fits k.listed sees in
    let m : Makes (identity_at t) (stepped e s) (walk_stepped (first_saw s.queue e) (plain s)) (s.shown ++ first_shows s.queue e) = step_makes (identity_at t) (tells_tree t) e s k.simple d.0 releases in
    let v : RecursorState = told (stepped e s) in
    let next : Stands t ok v = (let x = full_steps t ok 1 s v k (e, work, sees, releases, refl) in x.0) in
    let roots : v.roots ≡ rs = ap (λ x. x.roots) m.same ∙ roots_at (plain_queue s.queue) (first_saw s.queue e) (plain s) ∙ same in
    let r : Tells t rs v u ds later = steps_show t ok n rs v u ds later roots refl next rest in
    let now : es ≡ first_shows s.queue e ++ ds = shown ∙ ap (λ x. x ++ ds) (m.shown ∙ ap (λ x. x ++ first_shows s.queue e) quiet) in
    let queue : plain_queue v.queue ≡ (walk_stepped (first_saw s.queue e) (plain s)).queue = ap (λ x. x.queue) m.same in
    let calm_now : (stepped e s).asks_rebuild ≡ false = (let q = m.simple in q.quiet.asks_rebuild) in
    record {
      calm = asked ∙ rw (calm_now, r.calm) refl;
      only = λ x h. elim (In-cases x (first_shows s.queue e) ds (subst (λ y. In x y) now h)) [
        | inl a ↦ subst (λ y. ShowsAbsentRoot t y x) same (first_only t ok s.roots s.queue e x fits sees a)
        | inr b ↦ r.only x b
      ];
      each = λ root absent h. elim (first_each t ok root s.queue e (first_saw s.queue e) (plain s) k.simple.plain sees absent h) [
        | inl a ↦ inl (subst (λ y. In (PathScan root.path NotFound) y) (sym now) (In-left _ (first_shows s.queue e) ds a))
        | inr b ↦ elim (r.each root absent (subst (λ y. In (Visit root) y) (sym queue) b)) [
          | inl c ↦ inl (subst (λ y. In (PathScan root.path NotFound) y) (sym now) (In-right _ (first_shows s.queue e) ds c))
          | inr c ↦ inr c
        ]
      ];
    }

shown_told : (t : Tree) (ok : Path → Bool) (n : ℕ) (s u : RecursorState) → s.shown ≡ [] → RecursorSteps t ok n s u → u.shown ≡ []
shown_told t ok zero s u quiet e = ap (λ x. x.shown) e ∙ quiet
shown_told t ok (suc n) s u quiet (e, work, sees, releases, rest) = shown_told t ok n (told (stepped e s)) u refl rest

pub reached_quiet : (t : Tree) (cs : List Call) (u : RecursorState) → RecursorReached t cs u → u.shown ≡ []
reached_quiet t [] u e = ap (λ x. x.shown) e
reached_quiet t (c ∷ cs) u (n, s, before, steps) = shown_told t c.ok c.steps (reconciled c.roots n s) u (reached_quiet t cs s before) steps

no_work : (q : List Item) (sweep_due : Bool) (j : Item) → In j q → q ≡ [] → ⊥
no_work q sweep_due j h e = subst (λ x. In j x) e h

idle_queue : (q : List Work) (sweep_due : Bool) → has_work q sweep_due ≡ false → plain_queue q ≡ []
idle_queue [] sweep_due e = refl
idle_queue (w ∷ q) sweep_due e = cc

-- in an epoch without faults only absent roots are shown, each of them is, and no rebuild is asked for
pub call_shows : (t : Tree) (c : Call) (cs : List Call) (n : ℕ) (s u : RecursorState) (es : List ShownError) (asks_rebuild : Bool) → RecursorReached t cs s → RecursorShows t c.ok c.steps (reconciled c.roots n s) u es asks_rebuild
    → (asks_rebuild ≡ false) × ((x : ShownError) → In x es → ShowsAbsentRoot t c.roots x) × (has_work u.queue u.sweep_due ≡ false → (r : Root) → In r c.roots → Absent t r → In (PathScan r.path NotFound) es)
call_shows t c cs n s u es asks_rebuild before steps =
    let a = full_reached t cs s before in
    let m : Makes (identity_at t) (reconciled c.roots n s) (walk_reconciled c.roots (plain s)) s.shown = reconcile_makes (identity_at t) c.roots n s a.0 in
    let k : Stands t c.ok (reconciled c.roots n s) = call_stands t c.ok c.roots n cs s a.0 a.1 in
    let r : Tells t c.roots (reconciled c.roots n s) u es asks_rebuild = steps_show t c.ok c.steps c.roots (reconciled c.roots n s) u es asks_rebuild refl (reached_quiet t cs s before) k steps in
    let queue : plain_queue (reconciled c.roots n s).queue ≡ resets (kept_guards c.roots (map plain_guard s.guards)) ++ visits c.roots = ap (λ x. x.queue) m.same in (
      r.calm,
      r.only,
      λ rest root is_root absent.
          elim (r.each root absent (subst (λ y. In (Visit root) y) (sym queue) (In-right (Visit root) (resets (kept_guards c.roots (map plain_guard s.guards))) (visits c.roots) (visits_there c.roots root is_root)))) [
            | inl x ↦ x
            | inr x ↦ absurd (no_work (plain_queue u.queue) u.sweep_due (Visit root) x (idle_queue u.queue u.sweep_due rest))
          ],
    )
