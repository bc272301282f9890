-- What is owned, guarded and registered after calls and steps.
use Rattle.std.proofs.Common.{◌≡◌, ℕ, suc, zero, ◌≤◌, Bool, true, false, cond, List, [], ◌∷◌, length, refl, ap, sym, ◌∙◌, inl, inr, subst}
use Rattle.std.specs.Prelude.{◌||◌, ◌⊎◌, ◌↔◌, Option, Some, None}
use Rattle.std.proofs.lemmas.Bool.{cases_Bool, or_cases, or_left, or_right}
use Rattle.wx_tree.specs.Lists.{AllOnce, In}
use Rattle.wx_tree.specs.Paths.{Path, same}
use Rattle.wx_tree.specs.Trees.{Tree, guard_of, guards, is_safe, listed, settle, walk}
use Rattle.wx_tree.specs.declared.root.Root.{Root}
use Rattle.wx_tree.proofs.ListLemmas.{In-cases, In-filter, In-left, In-right}
use Rattle.wx_tree.proofs.PathLemmas.{same-refl, same-true}
use Rattle.wx_recursor.specs.Owners.{has_owner, sweep}
use Rattle.wx_recursor.specs.declared.owner.Owner.{Owner}
use Rattle.wx_recursor.specs.declared.work.Item.{Item}
use Rattle.wx_recursor.specs.declared.work.Item.TheVariants.{Candidate, Guard, Scan, Visit}
use Rattle.wx_walk.specs.Machine.{State, did, has_guard, is_work, kept_guards, reconciled, resets, rest_of, stepped, stepped_at, visits}
use Rattle.wx_walk.specs.Reached.{Call, FindsFirst, Reached, Steps}
use Rattle.wx_walk.specs.declared.plain.Guarded.{Guarded}
use Rattle.wx_walk.specs.declared.plain.Saw.{Saw}
use Rattle.wx_walk.specs.declared.plain.Saw.TheVariants.{Held, Leaf, Listed, Lost, Reset, Unsafe}
use Rattle.wx_walk.proofs.Bound.{settles}
use Rattle.wx_walk.proofs.Guards.{Guards, GuardsOf, guard, guards_did}
use Rattle.wx_walk.proofs.Kept.{Fits, Keeps, Kept}
use Rattle.wx_walk.proofs.Moves.{kept_at, kept_reconciled, kept_root, kept_there, visits_there}
use Rattle.wx_walk.proofs.Registered.{RegsOf, regs_at, regs_reconciled}
use Rattle.wx_walk.proofs.Settled.{idle, owned_exactly, roots_stay}

-- all that is kept
pub record Holds (t : Tree) (ok : Path → Bool) (s : State) : Type 0 where
  pub kept : Keeps t ok s
  pub guarded : GuardsOf t s
  pub registrations : RegsOf s
  pub served : s.sweep_due ≡ false → (p : Path) → In p s.registrations → (has_owner p s.owners || has_guard p s.guards) ≡ true

due_did : (i : Item) (f : Saw) (s : State) → (did i f s).sweep_due ≡ s.sweep_due
due_did (Guard r) Lost s = refl
due_did (Guard r) (Unsafe g) s = refl
due_did (Guard r) (Reset g root_is_safe) s = refl
due_did (Guard r) Leaf s = refl
due_did (Guard r) Held s = refl
due_did (Guard r) (Listed cs) s = refl
due_did (Visit r) Lost s = refl
due_did (Visit r) (Unsafe g) s = refl
due_did (Visit r) (Reset g root_is_safe) s = refl
due_did (Visit r) Leaf s = refl
due_did (Visit r) Held s = refl
due_did (Visit r) (Listed cs) s = refl
due_did (Scan r p) Lost s = refl
due_did (Scan r p) (Unsafe g) s = refl
due_did (Scan r p) (Reset g root_is_safe) s = refl
due_did (Scan r p) Leaf s = refl
due_did (Scan r p) Held s = refl
due_did (Scan r p) (Listed cs) s = refl
due_did (Candidate r p) Lost s = refl
due_did (Candidate r p) (Unsafe g) s = refl
due_did (Candidate r p) (Reset g root_is_safe) s = refl
due_did (Candidate r p) Leaf s = refl
due_did (Candidate r p) Held s = refl
due_did (Candidate r p) (Listed cs) s = refl

served_at : (t : Tree) (ok : Path → Bool) (q : List Item) (f : Saw) (s : State) → Kept t ok s.roots q s.owners s.sweep_due → (stepped_at q f s).sweep_due ≡ false → (p : Path) → In p (stepped_at q f s).registrations → (has_owner p (stepped_at q f s).owners || has_guard p (stepped_at q f s).guards) ≡ true
served_at t ok [] f s k sweep_due p h = let a = In-filter (λ p. has_owner p (sweep s.owners) || has_guard p s.guards) p s.registrations h in a.1
served_at t ok (i ∷ q) f s k sweep_due p h = absurd (let a = k.swept (sym (due_did i f (rest_of s q)) ∙ sweep_due) in let e : (i ∷ q) ≡ [] = a.0 in cc)

guards_at : (t : Tree) (ok : Path → Bool) (q : List Item) (f : Saw) (s : State) → FindsFirst t ok q f → Kept t ok s.roots q s.owners s.sweep_due → Guards t s.roots q s.guards → GuardsOf t (stepped_at q f s)
guards_at t ok [] f s h k g = record { right = g.right; visited = g.visited }
guards_at t ok (i ∷ q) f s h k g =
    guards_did t ok i q f s h
    (λ r e. let a = k.items i (inl refl) in subst (λ x. Fits t ok s.roots x) e a)
    (λ r e. let a = k.items i (inl refl) in subst (λ x. Fits t ok s.roots x) e a) g

pub holds_steps : (t : Tree) (ok : Path → Bool) (n : ℕ) (s u : State) → Holds t ok s → Steps t ok n s u → Holds t ok u
holds_steps t ok zero s u k e = subst (λ x. Holds t ok x) (sym e) k
holds_steps t ok (suc n) s u k (f, work, h, steps) =
    holds_steps t ok n (stepped f s) u
    (record { kept = kept_at t ok s.queue f s h k.kept; guarded = guards_at t ok s.queue f s h k.kept k.guarded; registrations = regs_at s.queue f s k.registrations; served = served_at t ok s.queue f s k.kept })
    steps

pub holds_reconciled : (t : Tree) (ok : Path → Bool) (rs : List Root) (s : State) → GuardsOf t s → RegsOf s → Holds t ok (reconciled rs s)
holds_reconciled t ok rs s g r = record {
  kept = kept_reconciled t ok rs s (λ x h. let a = g.right x h in a.1);
  guarded = record {
    right = λ x h. let a = g.right x (kept_there rs s.guards x h) in (kept_root rs s.guards x h, a.1, a.2);
    visited = λ u p h w e. inl (In-right (Visit u) (resets (kept_guards rs s.guards)) (visits rs) (visits_there rs u h));
  };
  registrations = regs_reconciled rs s r;
  served = λ e. cc;
}

pub reached_guards : (t : Tree) (cs : List Call) (s : State) → Reached t cs s → GuardsOf t s × RegsOf s
reached_guards t [] s e = subst (λ x. GuardsOf t x × RegsOf x) (sym e) (record { right = λ g h. absurd h; visited = λ r p h u e. absurd h }, record { once = tt; owned = λ p h. cc; guarded = λ p h. cc })
reached_guards t (c ∷ cs) s (b, before, steps) =
    let k = reached_guards t cs b before in
    let h = holds_steps t c.ok c.steps (reconciled c.roots b) s (holds_reconciled t c.ok c.roots b k.0 k.1) steps in
    (h.guarded, h.registrations)

-- after the last call few steps follow
pub reached_few : (t : Tree) (c : Call) (cs : List Call) (o : ℕ) (b s : State) → Reached t cs b → Steps t c.ok c.steps (reconciled c.roots b) s → c.steps ≤ settle (length (kept_guards c.roots b.guards)) (length c.roots) (length t) o
reached_few t c cs o b s before steps =
    let k = reached_guards t cs b before in
    settles t c.ok c.roots o c.steps b s (λ g h. let a = k.0 in let r = a.right g (kept_there c.roots b.guards g h) in r.1) steps

pub reached_walk : (t : Tree) (c : Call) (cs : List Call) (s : State) → Reached t (c ∷ cs) s → is_work s ≡ false → (p : Path) → ((o : Owner) × In o s.owners × (o.path ≡ p)) ↔ In p (walk t c.roots c.ok)
reached_walk t c cs s (b, before, steps) rest p =
    let k = reached_guards t cs b before in
    let h = holds_steps t c.ok c.steps (reconciled c.roots b) s (holds_reconciled t c.ok c.roots b k.0 k.1) steps in
    let e : s.roots ≡ c.roots = roots_stay t c.ok c.steps (reconciled c.roots b) s steps in
    subst (λ x. ((o : Owner) × In o s.owners × (o.path ≡ p)) ↔ In p (walk t x c.ok)) e (owned_exactly t c.ok s h.kept rest p)

guards_in : (t : Tree) (rs : List Root) (r : Root) (p : Path) → In r rs → is_safe t r.path ≡ false → guard_of t r.path ≡ Some p → In p (guards t rs)
guards_in t [] r p h u e = h
guards_in t (s ∷ rs) r p (inl f) u e = In-left p _ (guards t rs) (rw (f, u, e) (inl refl))
guards_in t (s ∷ rs) r p (inr h) u e = In-right p (cond (is_safe t s.path) [] (listed (guard_of t s.path))) (guards t rs) (guards_in t rs r p h u e)

one_is : (o : Option (Path)) (p : Path) → In p (listed o) → o ≡ Some p
one_is None p h = absurd h
one_is (Some q) p (inl e) = rw e refl
one_is (Some q) p (inr h) = absurd h

in_guards : (t : Tree) (rs : List Root) (p : Path) → In p (guards t rs) → (r : Root) × In r rs × (is_safe t r.path ≡ false) × (guard_of t r.path ≡ Some p)
in_guards t [] p h = absurd h
in_guards t (s ∷ rs) p h =
    elim (In-cases p (cond (is_safe t s.path) [] (listed (guard_of t s.path))) (guards t rs) h) [
      | inl a ↦ elim (cases_Bool (is_safe t s.path)) [
        | inl b ↦ absurd (rw b at a)
        | inr b ↦ (s, inl refl, b, one_is (guard_of t s.path) p (rw b at a))
      ]
      | inr a ↦ let k = in_guards t rs p a in (k.0, inr k.1, k.2, k.3)
    ]

guards_exactly : (t : Tree) (s : State) → GuardsOf t s → s.queue ≡ [] → (p : Path) → ((g : Guarded) × In g s.guards × (g.path ≡ p)) ↔ In p (guards t s.roots)
guards_exactly t s k e p = (
  (λ (g, h, f). let a = k.right g h in guards_in t s.roots g.root p a.0 a.1 (a.2 ∙ ap Some f)),
  (λ h.
      let a = in_guards t s.roots p h in
      (guard a.0 p, elim (k.visited a.0 p a.1 a.2 a.3) [ inl b ↦ absurd (rw e at b) | inr b ↦ b ], refl)),
)

pub reached_guarded : (t : Tree) (c : Call) (cs : List Call) (s : State) → Reached t (c ∷ cs) s → is_work s ≡ false → (p : Path) → ((g : Guarded) × In g s.guards × (g.path ≡ p)) ↔ In p (guards t c.roots)
reached_guarded t c cs s (b, before, steps) rest p =
    let k = reached_guards t cs b before in
    let h = holds_steps t c.ok c.steps (reconciled c.roots b) s (holds_reconciled t c.ok c.roots b k.0 k.1) steps in
    let e : s.roots ≡ c.roots = roots_stay t c.ok c.steps (reconciled c.roots b) s steps in
    let d = idle s.queue s.sweep_due rest in
    let q = h.kept.swept d in
    subst (λ x. ((g : Guarded) × In g s.guards × (g.path ≡ p)) ↔ In p (guards t x)) e (guards_exactly t s h.guarded q.0 p)

has_own-from : (o : Owner) (os : List Owner) → In o os → has_owner o.path os ≡ true
has_own-from o [] h = absurd h
has_own-from o (x ∷ os) (inl e) = or_left (same x.path o.path) (has_owner o.path os) (rw e (same-refl o.path))
has_own-from o (x ∷ os) (inr h) = or_right (same x.path o.path) (has_owner o.path os) (has_own-from o os h)

has_own-is : (p : Path) (os : List Owner) → has_owner p os ≡ true → (o : Owner) × In o os × (o.path ≡ p)
has_own-is p [] h = cc
has_own-is p (x ∷ os) h = elim (or_cases (same x.path p) (has_owner p os) h) [
  | inl a ↦ (x, inl refl, same-true x.path p a)
  | inr a ↦ let k = has_own-is p os a in (k.0, inr k.1, k.2)
]

has_guard-from : (o : Guarded) (os : List Guarded) → In o os → has_guard o.path os ≡ true
has_guard-from o [] h = absurd h
has_guard-from o (x ∷ os) (inl e) = or_left (same x.path o.path) (has_guard o.path os) (rw e (same-refl o.path))
has_guard-from o (x ∷ os) (inr h) = or_right (same x.path o.path) (has_guard o.path os) (has_guard-from o os h)

has_guard-is : (p : Path) (os : List Guarded) → has_guard p os ≡ true → (o : Guarded) × In o os × (o.path ≡ p)
has_guard-is p [] h = cc
has_guard-is p (x ∷ os) h = elim (or_cases (same x.path p) (has_guard p os) h) [
  | inl a ↦ (x, inl refl, same-true x.path p a)
  | inr a ↦ let k = has_guard-is p os a in (k.0, inr k.1, k.2)
]

pub reached_regs : (t : Tree) (c : Call) (cs : List Call) (s : State) → Reached t (c ∷ cs) s → is_work s ≡ false → AllOnce s.registrations × ((p : Path) → In p s.registrations ↔ (In p (walk t c.roots c.ok) ⊎ In p (guards t c.roots)))
reached_regs t c cs s reached rest =
    let b = reached.0 in
    let k = reached_guards t cs b reached.1 in
    let h = holds_steps t c.ok c.steps (reconciled c.roots b) s (holds_reconciled t c.ok c.roots b k.0 k.1) reached.2 in
    let r = h.registrations in (
      r.once,
      λ p.
          let w = reached_walk t c cs s reached rest p in
          let g = reached_guarded t c cs s reached rest p in (
            (λ a. elim (or_cases (has_owner p s.owners) (has_guard p s.guards) (h.served (idle s.queue s.sweep_due rest) p a)) [
              | inl x ↦ inl (w.0 (has_own-is p s.owners x))
              | inr x ↦ inr (g.0 (has_guard-is p s.guards x))
            ]),
            (λ a. elim a [
              | inl x ↦ let y = w.1 x in subst (λ z. In z s.registrations) y.2 (r.owned y.0.path (has_own-from y.0 s.owners y.1))
              | inr x ↦ let y = g.1 x in subst (λ z. In z s.registrations) y.2 (r.guarded y.0.path (has_guard-from y.0 s.guards y.1))
            ]),
          ),
    )
