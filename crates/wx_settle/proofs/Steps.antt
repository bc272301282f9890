-- A step in which nothing fails is one of the plain machine.
use Rattle.std.proofs.Common.{◌≡◌, Bool, true, false, cond, List, [], ◌∷◌, ◌++◌, refl, ap, sym, ◌∙◌, inl, inr, subst}
use Rattle.std.specs.Prelude.{◌&&◌, not, Option, Some, None, filter, map}
use Rattle.std.proofs.lemmas.List.{append-nil, map-append}
use Rattle.wx_tree.specs.Lists.{In}
use Rattle.wx_tree.specs.Paths.{Path, has_entry, holds}
use Rattle.wx_tree.specs.Roots.{same_root}
use Rattle.wx_tree.specs.declared.root.Root.{Root}
use Rattle.wx_tree.proofs.ListLemmas.{In-cases, In-filter}
use Rattle.wx_recursor.specs.Guarding.{guard_placed, guard_set, guarded, guarded_at, guards_of_others, looked_again, unguarded}
use Rattle.wx_recursor.specs.Holding.{enqueue, has_met, lose, scan_once, show, take_over}
use Rattle.wx_recursor.specs.Identities.{is_of_directory}
use Rattle.wx_recursor.specs.Owners.{candidates, disown, own, sweep}
use Rattle.wx_recursor.specs.Owning.{added, added_result, owned, taken}
use Rattle.wx_recursor.specs.Seen.{NoneRefused}
use Rattle.wx_recursor.specs.States.{Evidence, RecursorState}
use Rattle.wx_recursor.specs.Steps.{acted_item, has_guard_watch, refound, released, scanned, stepped, stepped_at, swept, tried, visited}
use Rattle.wx_recursor.specs.declared.answers.AddResult.TheVariants.{Stands}
use Rattle.wx_recursor.specs.declared.answers.Found.{Found}
use Rattle.wx_recursor.specs.declared.answers.Found.TheVariants.{Barred, Entries, Fault, Here, Missing, Refused, Rejected}
use Rattle.wx_recursor.specs.declared.answers.GuardFound.{GuardFound}
use Rattle.wx_recursor.specs.declared.answers.GuardFound.TheVariants.{At, Faulty, Nowhere}
use Rattle.wx_recursor.specs.declared.errors.ScanFault.TheVariants.{NotFound}
use Rattle.wx_recursor.specs.declared.errors.ShownError.{ShownError}
use Rattle.wx_recursor.specs.declared.errors.ShownError.TheVariants.{PathScan}
use Rattle.wx_recursor.specs.declared.known.Identity.{Identity}
use Rattle.wx_recursor.specs.declared.owner.GuardWatch.{GuardWatch}
use Rattle.wx_recursor.specs.declared.owner.Owner.{Owner}
use Rattle.wx_recursor.specs.declared.work.Item.{Item}
use Rattle.wx_recursor.specs.declared.work.Item.TheVariants.{Candidate, Guard, Scan, Visit}
use Rattle.wx_recursor.specs.declared.work.Work.{Work}
use Rattle.wx_recursor.specs.declared.work.Work.TheVariants.{Plain, Probe}
use Rattle.wx_recursor.proofs.OwnerLemmas.{filter_has}
use Rattle.wx_walk.specs.Machine.{State, did, scan_entries, scan_new, set_guard, stepped as walk_stepped, stepped_at as walk_stepped_at, try_candidate, unguard, visit, watch, watch_guard}
use Rattle.wx_walk.specs.declared.plain.Guarded.{Guarded}
use Rattle.wx_walk.specs.declared.plain.Saw.TheVariants.{Held, Leaf, Listed, Lost, Unsafe}
use Rattle.wx_settle.specs.Plain.{plain, plain_guard, plain_queue}
use Rattle.wx_settle.proofs.Pieces.{added_is, added_stands, is_plain_append, is_plain_map, know_all, know_right, left, plain_append, plain_map, put_reg_plain, put_reg_right, registers, registers_quiet, release_plain, released_is, trimmed_plain, trimmed_simple}
use Rattle.wx_settle.proofs.Right.{Tells, met_seen, unserved_plain}
use Rattle.wx_settle.proofs.Simple.{IsClear, IsClearFirst, IsClearRoot, IsClearScan, IsClearSpot, IsClearTry, IsKept, Simple, first_saw, first_shows, is_plain, item_saw, item_shows, scan_saw, spot_path, try_saw, visit_saw, visit_shows}

-- plain states by their parts
abbrev pub the_state : List Root → List Item → List Owner → List Guarded → List Path → Bool → State
the_state a b c d e f = record { roots = a; queue = b; owners = c; guards = d; registrations = e; sweep_due = f }

pub states : (a : List Root) (b b' : List Item) (c : List Owner) (d d' : List Guarded) (e e' : List Path) (f : Bool) → b ≡ b' → d ≡ d' → e ≡ e' → the_state a b c d e f ≡ the_state a b' c d' e' f
states a b b' c d d' e e' f h k l = ap (λ x. the_state a x c d e f) h ∙ ap (λ x. the_state a b' c x e f) k ∙ ap (λ x. the_state a b' c d' x f) l

-- the plain parts of owning and of a guard
abbrev pub own_plain : Root → Path → Bool → State → State
own_plain r p scans s = record s { queue = s.queue ++ cond scans (scan_new r p s.owners) []; owners = own r p s.owners; registrations = watch p s.registrations }

abbrev pub guard_plain : Root → Option (Path) → Bool → State → State
guard_plain r g root_is_safe s = record s { queue = s.queue ++ cond root_is_safe (Visit r ∷ []) []; guards = set_guard r g s.guards; registrations = watch_guard g s.registrations }

abbrev pub lose_plain : Root → Path → State → State
lose_plain r p s = record s { owners = disown r p s.owners }

-- this is the new state, and it is simple again
pub record Makes (id : Path → Identity) (u : RecursorState) (x : State) (es : List ShownError) : Type 0 where
  pub simple : Simple id u
  pub same : plain u ≡ x
  pub shown : u.shown ≡ es

scan_plain : (a b c : Bool) (r : Root) (p : Path) → a ≡ b → plain_queue (cond c (cond a [] (Plain (Scan r p) ∷ [])) []) ≡ cond c (cond b [] (Scan r p ∷ [])) []
scan_plain true b true r p e = rw (← e) refl
scan_plain false b true r p e = rw (← e) refl
scan_plain a b false r p e = refl

scan_is_plain : (a c : Bool) (r : Root) (p : Path) → is_plain (cond c (cond a [] (Plain (Scan r p) ∷ [])) []) ≡ true
scan_is_plain true true r p = refl
scan_is_plain false true r p = refl
scan_is_plain a false r p = refl

takes : (id : Path → Identity) → Tells id → (r : Root) (p : Path) (scans : Bool) (s : RecursorState) → Simple id s
    → Makes id (enqueue (cond scans (scan_once r p (id p) (registers p (id p) s)) []) (take_over r p (id p) (registers p (id p) s))) (own_plain r p scans (plain s)) s.shown
takes id tells r p scans s k = record {
  simple = record {
    right = record {
      known = know_right id p s.known k.right.known;
      all = know_all id r p s.owners s.known k.right.known k.right.all;
      registrations = put_reg_right id p s.registrations k.right.registrations;
      guards = k.right.guards;
    };
    quiet = registers_quiet p (id p) s k.quiet;
    plain = is_plain_append s.queue _ k.plain (scan_is_plain (has_met r (id p) s.known s.owners) scans r p);
  };
  same = states s.roots _ _ (own r p s.owners) _ _ _ _ s.sweep_due
      (plain_append s.queue _ ∙ ap (λ x. plain_queue s.queue ++ x) (scan_plain _ _ scans r p (met_seen id tells r p s.known s.owners k.right.all)))
      refl
      (put_reg_plain id tells p s.registrations k.right.registrations);
  shown = refl;
}

pub owned_makes : (id : Path → Identity) → Tells id → (r : Root) (p : Path) (scans : Bool) (item : Work) (e : Evidence) (s : RecursorState) → Simple id s → IsKept p (id p) e.watched
    → Makes id (owned r p (id p) scans item e.watched e.undone s) (own_plain r p scans (plain s)) s.shown
owned_makes id tells r p scans item e s k w =
    let a : added p (id p) e.watched e.undone s ≡ registers p (id p) s = added_is id tells p e s k.right k.quiet w in
    let b : added_result p (id p) e.watched s ≡ Stands = added_stands id tells p e s k.right k.quiet w in
    let c : owned r p (id p) scans item e.watched e.undone s ≡ taken r p (id p) scans item Stands (registers p (id p) s) =
    ap (λ x. taken r p (id p) scans item x (added p (id p) e.watched e.undone s)) b ∙ ap (λ x. taken r p (id p) scans item Stands x) a in
    subst (λ u. Makes id u (own_plain r p scans (plain s)) s.shown) (sym c) (takes id tells r p scans s k)

-- guards

again_plain : (root_is_safe : Bool) (r : Root) → plain_queue (cond root_is_safe (Plain (Visit r) ∷ []) []) ≡ cond root_is_safe (Visit r ∷ []) []
again_plain true r = refl
again_plain false r = refl

again_is_plain : (root_is_safe : Bool) (r : Root) → is_plain (cond root_is_safe (Plain (Visit r) ∷ []) []) ≡ true
again_is_plain true r = refl
again_is_plain false r = refl

unserved_right : (id : Path → Identity) (r : Root) (gs : List GuardWatch) → ((g : GuardWatch) → In g gs → g.identity ≡ id g.path) → (g : GuardWatch) → In g (guards_of_others r gs) → g.identity ≡ id g.path
unserved_right id r gs right g h = let a = In-filter (λ g. not (same_root r g.root)) g gs h in right g a.0

abbrev the_guard : Root → Path → Identity → GuardWatch
the_guard r p i = record { root = r; path = p; identity = i }

no_tombs : (f : Path → Bool) (ts : List Path) → ts ≡ [] → filter f ts ≡ []
no_tombs f ts e = rw e refl

no_tombs_if : (b : Bool) (f : Path → Bool) (ts : List Path) → ts ≡ [] → cond b (filter f ts) ts ≡ []
no_tombs_if true f ts e = no_tombs f ts e
no_tombs_if false f ts e = e

guards_put : (id : Path → Identity) (r : Root) (p : Path) (gs : List GuardWatch) → ((g : GuardWatch) → In g gs → g.identity ≡ id g.path) → (g : GuardWatch) → In g (guards_of_others r gs ++ the_guard r p (id p) ∷ []) → g.identity ≡ id g.path
guards_put id r p gs right g h =
    elim (In-cases g (guards_of_others r gs) (the_guard r p (id p) ∷ []) h) [
      | inl a ↦ unserved_right id r gs right g a
      | inr b ↦ elim b [ inl e ↦ subst (λ x. x.identity ≡ id x.path) e refl | inr c ↦ absurd c ]
    ]

serves_makes : (id : Path → Identity) → Tells id → (r : Root) (p : Path) (root_is_safe : Bool) (s : RecursorState) → Simple id s
    → Makes id (looked_again r root_is_safe (guard_set r p (id p) (registers p (id p) s))) (guard_plain r (Some p) root_is_safe (plain s)) s.shown
serves_makes id tells r p root_is_safe s k = record {
  simple = record {
    right = record {
      known = k.right.known;
      all = k.right.all;
      registrations = put_reg_right id p s.registrations k.right.registrations;
      guards = guards_put id r p s.guards k.right.guards;
    };
    quiet =
        let q = registers_quiet p (id p) s k.quiet in
        record { waiting = q.waiting; retries = q.retries; failed = q.failed; skipped = q.skipped; excluded = q.excluded; tombstones = no_tombs _ s.tombstones q.tombstones; lost = q.lost; stopped = q.stopped; deferred = q.deferred; asks_rebuild = q.asks_rebuild };
    plain = is_plain_append s.queue _ k.plain (again_is_plain root_is_safe r);
  };
  same = states s.roots _ _ s.owners _ _ _ _ s.sweep_due
      (plain_append s.queue _ ∙ ap (λ x. plain_queue s.queue ++ x) (again_plain root_is_safe r))
      (map-append plain_guard (guards_of_others r s.guards) (the_guard r p (id p) ∷ []) ∙ ap (λ x. x ++ record { root = r; path = p } ∷ []) (unserved_plain r s.guards))
      (put_reg_plain id tells p s.registrations k.right.registrations);
  shown = refl;
}

bares : (id : Path → Identity) (r : Root) (root_is_safe : Bool) (s : RecursorState) → Simple id s → Makes id (looked_again r root_is_safe (unguarded r s)) (guard_plain r None root_is_safe (plain s)) s.shown
bares id r root_is_safe s k = record {
  simple = record {
    right = record { known = k.right.known; all = k.right.all; registrations = k.right.registrations; guards = unserved_right id r s.guards k.right.guards };
    quiet = k.quiet;
    plain = is_plain_append s.queue _ k.plain (again_is_plain root_is_safe r);
  };
  same = states s.roots _ _ s.owners _ _ _ _ s.sweep_due
      (plain_append s.queue _ ∙ ap (λ x. plain_queue s.queue ++ x) (again_plain root_is_safe r))
      (unserved_plain r s.guards)
      refl;
  shown = refl;
}

guarded_makes_at : (id : Path → Identity) → Tells id → (r : Root) (g : GuardFound) (e : Evidence) (s : RecursorState) → Simple id s → IsClearSpot id g e.watched
    → Makes id (guarded_at r g e s) (guard_plain r (spot_path g) e.root_is_safe (plain s)) s.shown
guarded_makes_at id tells r Nowhere e s k c = bares id r e.root_is_safe s k
guarded_makes_at id tells r (Faulty p n) e s k c = absurd c
guarded_makes_at id tells r (At p i) e s k (own_id, w) =
    let w' : IsKept p (id p) e.watched = subst (λ x. IsKept p x e.watched) own_id w in
    let a : added p (id p) e.watched e.undone s ≡ registers p (id p) s = added_is id tells p e s k.right k.quiet w' in
    let b : added_result p (id p) e.watched s ≡ Stands = added_stands id tells p e s k.right k.quiet w' in
    let c : guard_placed r p (id p) e.root_is_safe (added_result p (id p) e.watched s) (added p (id p) e.watched e.undone s) ≡ guard_placed r p (id p) e.root_is_safe Stands (registers p (id p) s) =
    ap (λ x. guard_placed r p (id p) e.root_is_safe x (added p (id p) e.watched e.undone s)) b ∙ ap (λ x. guard_placed r p (id p) e.root_is_safe Stands x) a in
    subst (λ j. Makes id (guarded_at r (At p j) e s) (guard_plain r (Some p) e.root_is_safe (plain s)) s.shown) (sym own_id)
    (subst (λ u. Makes id u (guard_plain r (Some p) e.root_is_safe (plain s)) s.shown) (sym c) (serves_makes id tells r p e.root_is_safe s k))

pub guarded_makes : (id : Path → Identity) → Tells id → (r : Root) (e : Evidence) (s : RecursorState) → Simple id s → IsClearSpot id e.guard_found e.watched
    → Makes id (guarded r e s) (guard_plain r (spot_path e.guard_found) e.root_is_safe (plain s)) s.shown
guarded_makes id tells r e s k c = guarded_makes_at id tells r e.guard_found e s k c

-- losing

pub lose_simple : (id : Path → Identity) (r : Root) (p : Path) (s : RecursorState) → Simple id s → Simple id (lose r p s)
lose_simple id r p s k = record {
  right = record { known = k.right.known; all = λ q h. k.right.all q (filter_has (λ o. not (same_root r o.root && holds p o.path)) q s.owners h); registrations = k.right.registrations; guards = k.right.guards };
  quiet = k.quiet;
  plain = k.plain;
}

say_simple : (id : Path → Identity) (x : ShownError) (s : RecursorState) → Simple id s → Simple id (show x s)
say_simple id x s k = record { right = k.right; quiet = k.quiet; plain = k.plain }

bared_simple : (id : Path → Identity) (r : Root) (s : RecursorState) → Simple id s → Simple id (unguarded r (refound r s))
bared_simple id r s k = record {
  right = record { known = k.right.known; all = k.right.all; registrations = k.right.registrations; guards = unserved_right id r s.guards k.right.guards };
  quiet =
      let q = k.quiet in
      record { waiting = q.waiting; retries = q.retries; failed = q.failed; skipped = q.skipped; excluded = q.excluded; tombstones = no_tombs_if (has_guard_watch r s.guards) _ s.tombstones q.tombstones; lost = q.lost; stopped = q.stopped; deferred = q.deferred; asks_rebuild = q.asks_rebuild };
  plain = k.plain;
}

-- what an item makes is what the reduced machine makes, before what serves nothing goes
pub record Does (id : Path → Identity) (u : RecursorState) (x : State) (es : List ShownError) : Type 0 where
  pub simple : Simple id u
  pub same : x ≡ release_plain (plain u)
  pub shown : u.shown ≡ es

from_makes : (id : Path → Identity) (u : RecursorState) (x : State) (es : List ShownError) → Makes id u x es → Does id u (release_plain x) es
from_makes id u x es m = record { simple = m.simple; same = ap release_plain (sym m.same); shown = m.shown }

visit_held : (b : Bool) (r : Root) (s : State) → visit r (cond b Held Leaf) s ≡ release_plain (own_plain r r.path b (record s { guards = unguard r s.guards }))
visit_held true r s = refl
visit_held false r s = refl

bared_plain : (r : Root) (s : RecursorState) → plain (unguarded r (refound r s)) ≡ record (plain s) { guards = unguard r (map plain_guard s.guards) }
bared_plain r s = states s.roots _ _ s.owners _ _ _ _ s.sweep_due refl (unserved_plain r s.guards) refl

no_more : (s : State) → record s { queue = s.queue ++ [] } ≡ s
no_more s = states s.roots _ _ s.owners _ _ _ _ s.sweep_due (append-nil s.queue) refl refl

same_shown : (id : Path → Identity) (u : RecursorState) (x : State) (es : List ShownError) → Does id u x es → Does id u x (es ++ [])
same_shown id u x es d = record { simple = d.simple; same = d.same; shown = d.shown ∙ sym (append-nil es) }

-- an unsafe root with no second look
visit_unsafe : (r : Root) (g : Option (Path)) (s : State) → visit r (Unsafe g) s ≡ release_plain (guard_plain r g false (lose_plain r r.path s))
visit_unsafe r g s = refl

unsafe_does : (id : Path → Identity) (r : Root) (e : Evidence) (u : RecursorState) (s : State) (es : List ShownError) → Makes id u (guard_plain r (spot_path e.guard_found) e.root_is_safe (lose_plain r r.path s)) es → e.root_is_safe ≡ false → Does id u (visit r (Unsafe (spot_path e.guard_found)) s) es
unsafe_does id r e u s es m calm =
    let n : Makes id u (guard_plain r (spot_path e.guard_found) false (lose_plain r r.path s)) es = subst (λ b. Makes id u (guard_plain r (spot_path e.guard_found) b (lose_plain r r.path s)) es) calm m in
    from_makes id u _ _ n

visit_does : (id : Path → Identity) → Tells id → (r : Root) (f : Found) (e : Evidence) (s : RecursorState) → Simple id s → IsClearRoot id r f e → Does id (visited r f e s) (visit r (visit_saw r f e.guard_found) (plain s)) (s.shown ++ visit_shows r f)
visit_does id tells r Missing e s k d =
    unsafe_does id r e _ (plain s) _ (guarded_makes id tells r e (lose r r.path (show (PathScan r.path NotFound) s)) (lose_simple id r r.path _ (say_simple id _ s k)) d.0) d.1
visit_does id tells r Barred e s k d =
    same_shown id _ _ s.shown (unsafe_does id r e _ (plain s) _ (guarded_makes id tells r e (lose r r.path s) (lose_simple id r r.path s k) d.0) d.1)
visit_does id tells r Rejected e s k d = absurd d
visit_does id tells r (Fault p n) e s k d = absurd d
visit_does id tells r (Refused n) e s k d = absurd d
visit_does id tells r (Here i) e s k d =
    let u : RecursorState = unguarded r (refound r s) in
    let scans : Bool = r.recursive && is_of_directory i in
    let m : Makes id (owned r r.path i scans (Plain (Visit r)) e.watched e.undone u) (own_plain r r.path scans (plain u)) s.shown =
    subst (λ j. Makes id (owned r r.path j scans (Plain (Visit r)) e.watched e.undone u) (own_plain r r.path scans (plain u)) s.shown) (sym d.0)
    (owned_makes id tells r r.path scans (Plain (Visit r)) e u (bared_simple id r s k) (subst (λ j. IsKept r.path j e.watched) d.0 d.1)) in
    let n = from_makes id _ _ _ m in
    record { simple = n.simple; same = visit_held scans r (plain s) ∙ ap (λ x. release_plain (own_plain r r.path scans x)) (sym (bared_plain r s)) ∙ n.same; shown = n.shown ∙ sym (append-nil s.shown) }
visit_does id tells r (Entries cs) e s k d = absurd d

-- a scan
filter_all : {X : Type 0} → (f : X → Bool) (xs : List X) → ((x : X) → In x xs → f x ≡ true) → filter f xs ≡ xs
filter_all f [] all = refl
filter_all f (x ∷ xs) all = rw (all x (inl refl)) (ap (λ ys. x ∷ ys) (filter_all f xs (λ y h. all y (inr h))))

scan_does : (id : Path → Identity) (r : Root) (p : Path) (f : Found) (s : RecursorState) → Simple id s → IsClearScan p f → Does id (scanned r p f s) (scan_entries r (scan_saw f) (plain s)) (s.shown ++ [])
scan_does id r p Missing s k d = absurd d
scan_does id r p Barred s k d = absurd d
scan_does id r p Rejected s k d = absurd d
scan_does id r p (Fault q n) s k d = absurd d
scan_does id r p (Refused n) s k d = absurd d
scan_does id r p (Here i) s k d = absurd d
scan_does id r p (Entries cs) s k d =
    let e : filter (has_entry p) cs ≡ cs = filter_all (has_entry p) cs d in
    subst (λ xs. Does id (enqueue (map Plain (candidates r xs)) s) (scan_entries r (Listed cs) (plain s)) (s.shown ++ [])) (sym e) record {
      simple = record { right = k.right; quiet = k.quiet; plain = is_plain_append s.queue _ k.plain (is_plain_map (candidates r cs)) };
      same = ap release_plain (sym (states s.roots _ _ s.owners _ _ _ _ s.sweep_due (plain_append s.queue (map Plain (candidates r cs)) ∙ ap (λ x. plain_queue s.queue ++ x) (plain_map (candidates r cs))) refl refl));
      shown = sym (append-nil s.shown);
    }

-- a candidate
lost_does : (id : Path → Identity) (r : Root) (p : Path) (s : RecursorState) → Simple id s → Does id (lose r p s) (try_candidate r p Lost (plain s)) (s.shown ++ [])
lost_does id r p s k = record {
  simple = lose_simple id r p s k;
  same = ap release_plain (states s.roots _ _ (disown r p s.owners) _ _ _ _ s.sweep_due (append-nil (plain_queue s.queue)) refl refl);
  shown = sym (append-nil s.shown);
}

try_does : (id : Path → Identity) → Tells id → (r : Root) (p : Path) (f : Found) (e : Evidence) (s : RecursorState) → Simple id s → IsClearTry id p f e.watched → Does id (tried r p f e s) (try_candidate r p (try_saw f) (plain s)) (s.shown ++ [])
try_does id tells r p Missing e s k d = absurd d
try_does id tells r p Barred e s k d = lost_does id r p s k
try_does id tells r p Rejected e s k d = lost_does id r p s k
try_does id tells r p (Fault q n) e s k d = absurd d
try_does id tells r p (Refused n) e s k d = absurd d
try_does id tells r p (Here i) e s k d =
    same_shown id _ _ s.shown (from_makes id (owned r p i true (Plain (Candidate r p)) e.watched e.undone s) (own_plain r p true (plain s)) s.shown
    (subst (λ j. Makes id (owned r p j true (Plain (Candidate r p)) e.watched e.undone s) (own_plain r p true (plain s)) s.shown) (sym d.0)
    (owned_makes id tells r p true (Plain (Candidate r p)) e s k (subst (λ j. IsKept p j e.watched) d.0 d.1))))
try_does id tells r p (Entries cs) e s k d = absurd d

item_does : (id : Path → Identity) → Tells id → (i : Item) (e : Evidence) (s : RecursorState) → Simple id s → IsClear id i e → Does id (acted_item i e s) (did i (item_saw i e) (plain s)) (s.shown ++ item_shows i e)
item_does id tells (Guard r) e s k c = same_shown id _ _ s.shown (from_makes id _ _ _ (guarded_makes id tells r e s k c))
item_does id tells (Visit r) e s k c = visit_does id tells r e.found e s k c
item_does id tells (Scan r p) e s k c = scan_does id r p e.found s k c
item_does id tells (Candidate r p) e s k c = try_does id tells r p e.found e s k c

sweep_simple : (id : Path → Identity) (s : RecursorState) → Simple id s → Simple id (swept s)
sweep_simple id s k = record {
  right = record { known = k.right.known; all = λ q h. k.right.all q (filter_has (λ o. o.seen) q s.owners h); registrations = k.right.registrations; guards = k.right.guards };
  quiet = k.quiet;
  plain = k.plain;
}

first_does : (id : Path → Identity) → Tells id → (q : List Work) (e : Evidence) (s : RecursorState) → s.queue ≡ q → Simple id s → IsClearFirst id q e → Does id (stepped_at q e s) (walk_stepped_at (plain_queue q) (first_saw q e) (plain s)) (s.shown ++ first_shows q e)
first_does id tells [] e s h k c = record {
  simple = sweep_simple id s k;
  same = ap release_plain (states s.roots _ _ (sweep s.owners) _ _ _ _ false (sym (ap plain_queue h)) refl refl);
  shown = sym (append-nil s.shown);
}
first_does id tells (Plain i ∷ q) e s h k c =
    let at : is_plain (Plain i ∷ q) ≡ true = subst (λ x. is_plain x ≡ true) h k.plain in
    item_does id tells i e (record s { queue = q }) (record { right = k.right; quiet = k.quiet; plain = at }) c
first_does id tells (Probe p os ∷ q) e s h k c = absurd c

-- a step without faults is a step of the reduced machine, and the state is simple again
pub step_makes : (id : Path → Identity) → Tells id → (e : Evidence) (s : RecursorState) → Simple id s → IsClearFirst id s.queue e → NoneRefused e.releases
    → Makes id (stepped e s) (walk_stepped (first_saw s.queue e) (plain s)) (s.shown ++ first_shows s.queue e)
step_makes id tells e s k c done =
    let u : RecursorState = stepped_at s.queue e s in
    let d : Does id u (walk_stepped (first_saw s.queue e) (plain s)) (s.shown ++ first_shows s.queue e) = first_does id tells s.queue e s refl k c in
    let a : released e.releases u ≡ left u = released_is id tells e.releases u d.simple.right done in
    record {
      simple = subst (λ x. Simple id x) (sym a) (trimmed_simple id u d.simple);
      same = ap plain a ∙ trimmed_plain id tells u d.simple.right ∙ sym d.same;
      shown = ap (λ x. x.shown) a ∙ d.shown;
    }
