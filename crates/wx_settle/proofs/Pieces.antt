-- The parts of a step in which nothing fails are those of the plain machine.
use Rattle.std.proofs.Common.{◌≡◌, Bool, true, false, cond, List, [], ◌∷◌, ◌++◌, refl, ap, sym, ◌∙◌, inl, inr, subst}
use Rattle.std.specs.Prelude.{◌||◌, ◌⊎◌, Option, Some, None, map}
use Rattle.std.proofs.lemmas.Bool.{cases_Bool}
use Rattle.std.proofs.lemmas.List.{append_assoc, map-append}
use Rattle.wx_watch.specs.declared.notify_fault.NotifyFault.{NotifyFault}
use Rattle.wx_tree.specs.Lists.{In}
use Rattle.wx_tree.specs.Paths.{Path, same}
use Rattle.wx_tree.specs.declared.root.Root.{Root}
use Rattle.wx_tree.proofs.ListLemmas.{In-cases, In-filter}
use Rattle.wx_tree.proofs.PathLemmas.{same-refl}
use Rattle.wx_recursor.specs.Holding.{is_lost, still_known}
use Rattle.wx_recursor.specs.Identities.{guard_known, has_identity, has_known, identity_of, know, known_path, named, refusal, without}
use Rattle.wx_recursor.specs.Owners.{has_owner, has_path, own}
use Rattle.wx_recursor.specs.Owning.{added, added_result, answered, answered_result, exclude, is_held_back, is_known_otherwise, registered}
use Rattle.wx_recursor.specs.Seen.{NoneRefused}
use Rattle.wx_recursor.specs.States.{Evidence, RecursorState}
use Rattle.wx_recursor.specs.Steps.{asked_for_lost, has_new, idle_registrations, lost_paths, released, serving_registrations, trimmed, unwatch_each}
use Rattle.wx_recursor.specs.declared.answers.AddResult.{AddResult}
use Rattle.wx_recursor.specs.declared.answers.AddResult.TheVariants.{Stands}
use Rattle.wx_recursor.specs.declared.answers.Watched.{Watched}
use Rattle.wx_recursor.specs.declared.answers.Watched.TheVariants.{Failed, Kept}
use Rattle.wx_recursor.specs.declared.known.Identity.{Identity}
use Rattle.wx_recursor.specs.declared.known.Known.{Known}
use Rattle.wx_recursor.specs.declared.owner.GuardWatch.{GuardWatch}
use Rattle.wx_recursor.specs.declared.owner.Owner.{Owner}
use Rattle.wx_recursor.specs.declared.work.Item.{Item}
use Rattle.wx_recursor.specs.declared.work.Work.{Work}
use Rattle.wx_recursor.specs.declared.work.Work.TheVariants.{Plain, Probe}
use Rattle.wx_recursor.proofs.OwnerLemmas.{own_has}
use Rattle.wx_walk.specs.Machine.{State, release, watch}
use Rattle.wx_walk.specs.declared.plain.Guarded.{Guarded}
use Rattle.wx_settle.specs.Plain.{item_of, plain, plain_guard, plain_queue}
use Rattle.wx_settle.proofs.Right.{AllRight, Tells, guards_right, has_identity-path, identity_right, none_lost, not_other, serving_release, still_identity, still_right}
use Rattle.wx_settle.proofs.Simple.{IsKept, QuietOf, RightOf, Simple, is_plain}

pub plain_append : (q u : List Work) → plain_queue (q ++ u) ≡ plain_queue q ++ plain_queue u
plain_append [] u = refl
plain_append (w ∷ q) u = ap (λ xs. item_of w ++ xs) (plain_append q u) ∙ sym (append_assoc (item_of w) (plain_queue q) (plain_queue u))

pub plain_map : (is : List Item) → plain_queue (map Plain is) ≡ is
plain_map [] = refl
plain_map (i ∷ is) = ap (λ xs. i ∷ xs) (plain_map is)

pub is_plain_append : (q u : List Work) → is_plain q ≡ true → is_plain u ≡ true → is_plain (q ++ u) ≡ true
is_plain_append [] u h k = k
is_plain_append (Plain i ∷ q) u h k = is_plain_append q u h k
is_plain_append (Probe p os ∷ q) u h k = cc

pub is_plain_map : (is : List Item) → is_plain (map Plain is) ≡ true
is_plain_map [] = refl
is_plain_map (i ∷ is) = is_plain_map is

-- what is known after a path more
pub know_right : (id : Path → Identity) (p : Path) (ks : List Known) → AllRight id ks → AllRight id (know p (id p) ks)
know_right id p ks right = go (has_known p (id p) ks)
  where
    go : (b : Bool) → AllRight id (cond b ks (ks ++ named p (id p) ∷ []))
    go true k h = right k h
    go false k h = elim (In-cases k ks (named p (id p) ∷ []) h) [
      | inl a ↦ right k a
      | inr b ↦ elim b [ inl e ↦ subst (λ x. x.identity ≡ id x.path) e refl | inr c ↦ absurd c ]
    ]

identity_stays : (q : Path) (ks us : List Known) (i : Identity) → identity_of q ks ≡ Some i → identity_of q (ks ++ us) ≡ Some i
identity_stays q [] us i e = cc
identity_stays q (k ∷ ks) us i e =
    elim (cases_Bool (same k.path q)) [
      | inl a ↦ rw a (rw a at e)
      | inr a ↦ rw a (identity_stays q ks us i (rw a at e))
    ]

pub know_stays : (p q : Path) (i j : Identity) (ks : List Known) → identity_of q ks ≡ Some j → identity_of q (know p i ks) ≡ Some j
know_stays p q i j ks e = elim (has_known p i ks) as (λ b. identity_of q (cond b ks (ks ++ named p i ∷ [])) ≡ Some j) [ true ↦ e | false ↦ identity_stays q ks (named p i ∷ []) j e ]

-- a path is under its own identity, or not known
known_own : (id : Path → Identity) (p : Path) (ks : List Known) → AllRight id ks → (identity_of p ks ≡ None) ⊎ (identity_of p ks ≡ Some (id p))
known_own id p ks right = go (identity_of p ks) refl
  where
    go : (o : Option Identity) → identity_of p ks ≡ o → (identity_of p ks ≡ None) ⊎ (identity_of p ks ≡ Some (id p))
    go None e = inl e
    go (Some i) e = inr (e ∙ ap Some (identity_right id p ks i right e))

has_known_there : (p : Path) (i : Identity) (ks : List Known) → has_known p i ks ≡ true → identity_of p ks ≡ None → ⊥
has_known_there p i [] h e = cc
has_known_there p i (k ∷ ks) h e =
    elim (cases_Bool (same k.path p)) [
      | inl a ↦ (let f : Some k.identity ≡ None = rw a at e in cc)
      | inr a ↦ has_known_there p i ks (rw a at h) (rw a at e)
    ]

identity_end : (p : Path) (i : Identity) (ks : List Known) → identity_of p ks ≡ None → identity_of p (ks ++ named p i ∷ []) ≡ Some i
identity_end p i [] e = rw (same-refl p) refl
identity_end p i (k ∷ ks) e =
    elim (cases_Bool (same k.path p)) [
      | inl a ↦ (let f : Some k.identity ≡ None = rw a at e in cc)
      | inr a ↦ rw a (identity_end p i ks (rw a at e))
    ]

pub know_itself : (id : Path → Identity) (p : Path) (ks : List Known) → AllRight id ks → identity_of p (know p (id p) ks) ≡ Some (id p)
know_itself id p ks right =
    elim (known_own id p ks right) [
      | inr e ↦ know_stays p p (id p) (id p) ks e
      | inl e ↦ elim (cases_Bool (has_known p (id p) ks)) [
        | inl h ↦ absurd (has_known_there p (id p) ks h e)
        | inr h ↦ rw h (identity_end p (id p) ks e)
      ]
    ]

pub know_all : (id : Path → Identity) (r : Root) (p : Path) (os : List Owner) (ks : List Known) → AllRight id ks → ((q : Path) → has_owner q os ≡ true → identity_of q ks ≡ Some (id q)) → (q : Path) → has_owner q (own r p os) ≡ true → identity_of q (know p (id p) ks) ≡ Some (id q)
know_all id r p os ks right all q h =
    elim (own_has r p q os h) [
      | inl a ↦ know_stays p q (id p) (id q) ks (all q a)
      | inr e ↦ subst (λ x. identity_of x (know p (id p) ks) ≡ Some (id x)) e (know_itself id p ks right)
    ]

-- registrations

abbrev pub put_reg : Path → Identity → List Known → List Known
put_reg p i registrations = cond (has_identity i registrations) registrations (registrations ++ named p i ∷ [])

pub put_reg_right : (id : Path → Identity) (p : Path) (registrations : List Known) → AllRight id registrations → AllRight id (put_reg p (id p) registrations)
put_reg_right id p registrations right = go (has_identity (id p) registrations)
  where
    go : (b : Bool) → AllRight id (cond b registrations (registrations ++ named p (id p) ∷ []))
    go true k h = right k h
    go false k h = elim (In-cases k registrations (named p (id p) ∷ []) h) [
      | inl a ↦ right k a
      | inr b ↦ elim b [ inl e ↦ subst (λ x. x.identity ≡ id x.path) e refl | inr c ↦ absurd c ]
    ]

pub put_reg_plain : (id : Path → Identity) → Tells id → (p : Path) (registrations : List Known) → AllRight id registrations → map known_path (put_reg p (id p) registrations) ≡ watch p (map known_path registrations)
put_reg_plain id tells p registrations right =
    let e : has_identity (id p) registrations ≡ has_path p (map known_path registrations) = has_identity-path id tells p registrations right in
    elim (cases_Bool (has_path p (map known_path registrations))) [
      | inl h ↦ rw (e, h) refl
      | inr h ↦ rw (e, h) (map-append known_path registrations (named p (id p) ∷ []))
    ]

-- the one call of watch

abbrev pub registers : Path → Identity → RecursorState → RecursorState
registers p i s = record s { registrations = put_reg p i s.registrations; waiting = cond (has_identity i s.registrations) s.waiting (without i s.waiting) }

choose_state : (a b c : Bool) (x s y z : RecursorState) → a ≡ false → c ≡ false → cond a x (cond b s (cond c y z)) ≡ cond b s z
choose_state a true c x s y z e f = rw e refl
choose_state a false c x s y z e f = rw (e, f) refl

choose_ends : (a b c : Bool) (x y z : AddResult) → a ≡ false → c ≡ false → z ≡ Stands → cond a x (cond b Stands (cond c y z)) ≡ Stands
choose_ends a true c x y z e f g = rw e refl
choose_ends a false c x y z e f g = rw (e, f) g

cond_registered : (b : Bool) (s : RecursorState) (p : Path) (i : Identity) → cond b s (registered p i s) ≡ record s { registrations = cond b s.registrations (s.registrations ++ named p i ∷ []); waiting = cond b s.waiting (without i s.waiting) }
cond_registered true s p i = refl
cond_registered false s p i = refl

answered_is : (p : Path) (i : Identity) (w : Watched) (u : Option NotifyFault) (s : RecursorState) → IsKept p i w → answered p i w u s ≡ registered p i s
answered_is p i (Kept look) u s h = rw h refl
answered_is p i (Failed f) u s h = absurd h

answered_stands : (p : Path) (i : Identity) (w : Watched) (s : RecursorState) → IsKept p i w → answered_result p i w s ≡ Stands
answered_stands p i (Kept look) s h = rw h refl
answered_stands p i (Failed f) s h = absurd h

elsewhere_none : (id : Path → Identity) → Tells id → (p : Path) (s : RecursorState) → RightOf id s → QuietOf s → is_known_otherwise p (id p) s ≡ false
elsewhere_none id tells p s k q =
    rw (not_other id tells p s.known k.known, not_other id tells p (map guard_known s.guards) (guards_right id s.guards k.guards), not_other id tells p s.registrations k.registrations, q.waiting) refl

barred_none : (p : Path) (s : RecursorState) → QuietOf s → is_held_back p s ≡ false
barred_none p s q = rw (q.stopped, q.skipped) refl

pub added_is : (id : Path → Identity) → Tells id → (p : Path) (e : Evidence) (s : RecursorState) → RightOf id s → QuietOf s → IsKept p (id p) e.watched → added p (id p) e.watched e.undone s ≡ registers p (id p) s
added_is id tells p e s k q w =
    choose_state (is_known_otherwise p (id p) s) (has_identity (id p) s.registrations) (is_held_back p s) (exclude p s) s s (answered p (id p) e.watched e.undone s) (elsewhere_none id tells p s k q) (barred_none p s q)
    ∙ ap (λ x. cond (has_identity (id p) s.registrations) s x) (answered_is p (id p) e.watched e.undone s w)
    ∙ cond_registered (has_identity (id p) s.registrations) s p (id p)

pub added_stands : (id : Path → Identity) → Tells id → (p : Path) (e : Evidence) (s : RecursorState) → RightOf id s → QuietOf s → IsKept p (id p) e.watched → added_result p (id p) e.watched s ≡ Stands
added_stands id tells p e s k q w =
    choose_ends (is_known_otherwise p (id p) s) (has_identity (id p) s.registrations) (is_held_back p s) _ _ (answered_result p (id p) e.watched s) (elsewhere_none id tells p s k q) (barred_none p s q) (answered_stands p (id p) e.watched s w)

no_waiting : (b : Bool) (i : Identity) (ws : List Known) → ws ≡ [] → cond b ws (without i ws) ≡ []
no_waiting true i ws e = e
no_waiting false i ws e = rw e refl

pub registers_quiet : (p : Path) (i : Identity) (s : RecursorState) → QuietOf s → QuietOf (registers p i s)
registers_quiet p i s q = record {
  waiting = no_waiting (has_identity i s.registrations) i s.waiting q.waiting;
  retries = q.retries;
  failed = q.failed;
  skipped = q.skipped;
  excluded = q.excluded;
  tombstones = q.tombstones;
  lost = q.lost;
  stopped = q.stopped;
  deferred = q.deferred;
  asks_rebuild = q.asks_rebuild;
}

-- the release

free_none : (gs : List Known) (us : List (Option NotifyFault)) (s : RecursorState) → NoneRefused us → unwatch_each gs us s ≡ s
free_none [] us s done = refl
free_none (g ∷ gs) [] s done = refl
free_none (g ∷ gs) (u ∷ us) s done =
    let e : refusal u ≡ None = done u (inl refl) in
    rw e (free_none gs us s (λ v h. done v (inr h)))

lost_none : (id : Path → Identity) → Tells id → (ks : List Known) (gs : List GuardWatch) (registrations : List Known) → AllRight id ks → ((g : GuardWatch) → In g gs → g.identity ≡ id g.path) → AllRight id registrations → lost_paths ks gs registrations ≡ []
lost_none id tells ks gs [] right guards regs_right = refl
lost_none id tells ks gs (k ∷ registrations) right guards regs_right =
    let a : is_lost ks gs k ≡ false = none_lost id tells ks gs k right guards (regs_right k (inl refl)) in
    let b = lost_none id tells ks gs registrations right guards (λ x h. regs_right x (inr h)) in
    rw (a, b) refl

-- what is left after a release of which nothing is to be told
abbrev pub left : RecursorState → RecursorState
left s = record (trimmed (still_known s.owners s.known) s) { lost = [] }

pub released_is : (id : Path → Identity) → Tells id → (us : List (Option NotifyFault)) (s : RecursorState) → RightOf id s → NoneRefused us → released us s ≡ left s
released_is id tells us s k done =
    let ks : List Known = still_known s.owners s.known in
    let a : unwatch_each (idle_registrations ks s.guards s.registrations) us s ≡ s = free_none (idle_registrations ks s.guards s.registrations) us s done in
    let right : AllRight id ks = still_right id s.owners s.known k.known in
    let b : lost_paths ks s.guards (serving_registrations ks s.guards s.registrations) ≡ [] =
    lost_none id tells ks s.guards (serving_registrations ks s.guards s.registrations) right k.guards (λ x h. let c = In-filter _ x s.registrations h in k.registrations x c.0) in
    ap (λ x. asked_for_lost (trimmed ks x)) a ∙ ap (λ ls. record (trimmed ks s) { lost = ls; asks_rebuild = has_new ls s.lost || s.asks_rebuild }) b

abbrev pub release_plain : State → State
release_plain s = record s { registrations = release s.owners s.guards s.registrations }

serving_none : (ks : List Known) (gs : List GuardWatch) (ws : List Known) → ws ≡ [] → serving_registrations ks gs ws ≡ []
serving_none ks gs ws e = rw e refl

pub trimmed_simple : (id : Path → Identity) (s : RecursorState) → Simple id s → Simple id (left s)
trimmed_simple id s k = record {
  right = record {
    known = still_right id s.owners s.known k.right.known;
    all = λ p h. still_identity p s.owners s.known h ∙ k.right.all p h;
    registrations = λ x h. let c = In-filter _ x s.registrations h in k.right.registrations x c.0;
    guards = k.right.guards;
  };
  quiet = record {
    waiting = serving_none (still_known s.owners s.known) s.guards s.waiting k.quiet.waiting;
    retries = k.quiet.retries;
    failed = k.quiet.failed;
    skipped = k.quiet.skipped;
    excluded = k.quiet.excluded;
    tombstones = k.quiet.tombstones;
    lost = refl;
    stopped = k.quiet.stopped;
    deferred = k.quiet.deferred;
    asks_rebuild = k.quiet.asks_rebuild;
  };
  plain = k.plain;
}

pub trimmed_plain : (id : Path → Identity) → Tells id → (s : RecursorState) → RightOf id s → plain (left s) ≡ release_plain (plain s)
trimmed_plain id tells s k =
    ap (λ ws. the_state s.roots (plain_queue s.queue) s.owners (map plain_guard s.guards) ws s.sweep_due)
    (serving_release id tells s.owners s.known s.guards s.registrations k.known k.all k.guards k.registrations)
  where
    the_state : List Root → List Item → List Owner → List Guarded → List Path → Bool → State
    the_state a b c d e f = record { roots = a; queue = b; owners = c; guards = d; registrations = e; sweep_due = f }
