-- Each call keeps that each owner covers its path.
use Rattle.std.proofs.Common.{◌≡◌, ℕ, Bool, true, false, cond, List, [], ◌∷◌, ◌++◌, refl, ap, sym, ◌∙◌, inl, inr, subst}
use Rattle.std.specs.Prelude.{◌&&◌, ◌||◌, not, Option, Some, None, filter}
use Rattle.std.proofs.lemmas.Bool.{cases_Bool, and_parts, and_from, or_cases, or_left, or_right}
use Rattle.wx_watch.specs.declared.notify_fault.NotifyFault.{NotifyFault}
use Rattle.wx_tree.specs.Lists.{In}
use Rattle.wx_tree.specs.Paths.{Path, has_entry, holds, holds_below, same}
use Rattle.wx_tree.specs.Roots.{same_root}
use Rattle.wx_tree.specs.declared.root.Root.{Root}
use Rattle.wx_tree.proofs.ListLemmas.{In-cases, In-filter}
use Rattle.wx_tree.proofs.PathLemmas.{holds-refl, same-refl, same-true, same_root-true}
use Rattle.wx_recursor.specs.Calls.{aliases, cleared_below, created, created_one, for_each, guards_below, guards_of_roots_below, kept_guard_watches, owners_above, owners_at, queued_guards, queued_retries, queued_roots, reconciled, removed, removed_one, renamed, retried, roots_below, stirred, tombstones_lifted, unsure, unsure_one}
use Rattle.wx_recursor.specs.Guarding.{guard_placed, guard_set, guarded_at, unguarded}
use Rattle.wx_recursor.specs.Holding.{enqueue, guards_at, has_met, has_retry, keep_retry, lose, scan_once, show, still_known, take_over}
use Rattle.wx_recursor.specs.Identities.{has_identity, is_of_directory, is_path_gone, refusal}
use Rattle.wx_recursor.specs.Owners.{candidates, has_path, has_root, is_owner, own, unseen}
use Rattle.wx_recursor.specs.Owning.{failed_watch, stop, added, added_result, answered, changed, is_held_back, is_known_otherwise, is_resource_fault, is_still, owned, refused, taken, unwatched}
use Rattle.wx_recursor.specs.Rebuilds.{path_gone, waits_by_alias, replayed_one, is_replay_over, replayed_all, prepared, replayed}
use Rattle.wx_recursor.specs.Sound.{AreCovered, FitsItem, FitsWork, covers, parts}
use Rattle.wx_recursor.specs.States.{Evidence, RecursorState}
use Rattle.wx_recursor.specs.Steps.{acted, acted_item, candidates_of, idle_registrations, owns_parent, plain_items, probed, refound, retry_all, scanned, seekers, stepped, stepped_at, tried, unwatch_each, visited}
use Rattle.wx_recursor.specs.declared.answers.AddResult.{AddResult}
use Rattle.wx_recursor.specs.declared.answers.AddResult.TheVariants.{LeftOut, Stands, TryAgain, Vanished}
use Rattle.wx_recursor.specs.declared.answers.Found.{Found}
use Rattle.wx_recursor.specs.declared.answers.Found.TheVariants.{Barred, Entries, Fault, Here, Missing, Refused, Rejected}
use Rattle.wx_recursor.specs.declared.answers.GuardFound.{GuardFound}
use Rattle.wx_recursor.specs.declared.answers.GuardFound.TheVariants.{At, Faulty, Nowhere}
use Rattle.wx_recursor.specs.declared.answers.Watched.{Watched}
use Rattle.wx_recursor.specs.declared.answers.Watched.TheVariants.{Failed, Kept}
use Rattle.wx_recursor.specs.declared.errors.ScanFault.TheVariants.{Io, NotFound}
use Rattle.wx_recursor.specs.declared.errors.ShownError.TheVariants.{Filter, PathAdd, PathScan}
use Rattle.wx_recursor.specs.declared.known.Identity.{Identity}
use Rattle.wx_recursor.specs.declared.known.Known.{Known}
use Rattle.wx_recursor.specs.declared.owner.GuardWatch.{GuardWatch}
use Rattle.wx_recursor.specs.declared.owner.Owner.{Owner}
use Rattle.wx_recursor.specs.declared.work.Item.{Item}
use Rattle.wx_recursor.specs.declared.work.Item.TheVariants.{Candidate, Guard, Scan, Visit}
use Rattle.wx_recursor.specs.declared.work.Retry.{Retry}
use Rattle.wx_recursor.specs.declared.work.Work.{Work}
use Rattle.wx_recursor.specs.declared.work.Work.TheVariants.{Plain, Probe}
use Rattle.wx_recursor.proofs.OwnerLemmas.{saw}

cond_parts : (b : Bool) (x y s : RecursorState) → parts x ≡ parts s → parts y ≡ parts s → parts (cond b x y) ≡ parts s
cond_parts true x y s e f = e
cond_parts false x y s e f = f

parts_refused : (p : Path) (f : NotifyFault) (s : RecursorState) → parts (refused p f s) ≡ parts s
parts_refused p f s = cond_parts (is_path_gone f) _ _ s refl (cond_parts (is_resource_fault f) _ _ s (cond_parts s.stopped _ _ s refl refl) (cond_parts (has_path p s.failed) _ _ s refl refl))

parts_unwatched : (p : Path) (u : Option NotifyFault) (s : RecursorState) → parts (unwatched p u s) ≡ parts s
parts_unwatched p None s = refl
parts_unwatched p (Some f) s = refl

parts_answered : (p : Path) (i : Identity) (w : Watched) (u : Option NotifyFault) (s : RecursorState) → parts (answered p i w u s) ≡ parts s
parts_answered p i (Failed f) u s = parts_refused p f s
parts_answered p i (Kept look) u s = cond_parts (is_still p i look) _ _ s refl (parts_unwatched p (refusal u) (show (PathScan p (changed i look)) s))

parts_added : (p : Path) (i : Identity) (w : Watched) (u : Option NotifyFault) (s : RecursorState) → parts (added p i w u s) ≡ parts s
parts_added p i w u s = cond_parts (is_known_otherwise p i s) _ _ s refl (cond_parts (has_identity i s.registrations) _ _ s refl (cond_parts (is_held_back p s) _ _ s refl (parts_answered p i w u s)))

parts_free : (gs : List Known) (us : List (Option NotifyFault)) (s : RecursorState) → parts (unwatch_each gs us s) ≡ parts s
parts_free [] us s = refl
parts_free (g ∷ gs) [] s = refl
parts_free (g ∷ gs) (u ∷ us) s = parts_free gs us (unwatched g.path (refusal u) s) ∙ parts_unwatched g.path (refusal u) s

abbrev pub CoveredOf : RecursorState → Type 0
CoveredOf s = AreCovered (parts s)

-- more in the queue, fewer owners
covers_later : (q : List Work) (s : RecursorState) → CoveredOf s → ((w : Work) → In w q → FitsWork w) → CoveredOf (enqueue q s)
covers_later q s k more = record { owners = k.owners; queue = λ w m. elim (In-cases w s.queue q m) [ inl a ↦ k.queue w a | inr b ↦ more w b ]; retries = k.retries }

covers_fewer : (f : Owner → Bool) (s : RecursorState) → CoveredOf s → CoveredOf (record s { owners = filter f s.owners })
covers_fewer f s k = record { owners = λ o m. let a = In-filter f o s.owners m in k.owners o a.0; queue = k.queue; retries = k.retries }

covers_lose : (r : Root) (p : Path) (s : RecursorState) → CoveredOf s → CoveredOf (lose r p s)
covers_lose r p s k = covers_fewer (λ o. not (same_root r o.root && holds p o.path)) s k

covers_retry : (r : Root) (p : Path) (s : RecursorState) → covers r p ≡ true → CoveredOf s → CoveredOf (keep_retry r p s)
covers_retry r p s h k =
    elim (has_retry r p s.retries) as (λ b. CoveredOf (cond b s (record s { retries = s.retries ++ record { root = r; path = p } ∷ [] }))) [
      | true ↦ k
      | false ↦ record { owners = k.owners; queue = k.queue; retries = λ x m. elim (In-cases x s.retries (record { root = r; path = p } ∷ []) m) [ inl a ↦ k.retries x a | inr b ↦ elim b [ inl e ↦ subst (λ y. covers y.root y.path ≡ true) e h | inr c ↦ absurd c ] ] }
    ]

reaches_itself : (r : Root) → covers r r.path ≡ true
reaches_itself r = or_left (same r.path r.path) (r.recursive && holds r.path r.path) (same-refl r.path)

reaches_entry : (r : Root) (p c : Path) → covers r p ≡ true → r.recursive ≡ true → has_entry p c ≡ true → covers r c ≡ true
reaches_entry r p [] h rec e = cc
reaches_entry r p (x ∷ c) h rec e =
    let f : p ≡ c = same-true p c e in
    let g : holds r.path c ≡ true = elim (or_cases (same r.path p) (r.recursive && holds r.path p) h) [
      | inl a ↦ (let b : r.path ≡ p = same-true r.path p a in subst (λ y. holds r.path y ≡ true) (b ∙ f) (holds-refl r.path))
      | inr a ↦ (let b = and_parts r.recursive (holds r.path p) a in subst (λ y. holds r.path y ≡ true) f b.1)
    ] in
    or_right (same r.path (x ∷ c)) (r.recursive && holds r.path (x ∷ c)) (and_from r.recursive (holds r.path (x ∷ c)) rec (or_right (same r.path (x ∷ c)) (holds r.path c) g))

own_covers : (r : Root) (p : Path) (os : List Owner) → covers r p ≡ true → ((o : Owner) → In o os → covers o.root o.path ≡ true) → (o : Owner) → In o (own r p os) → covers o.root o.path ≡ true
own_covers r p [] h k o (inl e) = subst (λ y. covers y.root y.path ≡ true) e h
own_covers r p [] h k o (inr m) = absurd m
own_covers r p (x ∷ os) h k o m = go (own_covers r p os h (λ y n. k y (inr n)) o) (is_owner r p x) m
  where
    go : (In o (own r p os) → covers o.root o.path ≡ true) → (b : Bool) → In o (cond b (saw r p ∷ os) (x ∷ own r p os)) → covers o.root o.path ≡ true
    go more true (inl e) = subst (λ y. covers y.root y.path ≡ true) e h
    go more true (inr m) = k o (inr m)
    go more false (inl e) = k o (inl e)
    go more false (inr m) = more m

scan_fits : (b c : Bool) (r : Root) (p : Path) → covers r p ≡ true → (c ≡ true → r.recursive ≡ true) → (w : Work) → In w (cond c (cond b [] (Plain (Scan r p) ∷ [])) []) → FitsWork w
scan_fits true true r p h rec w m = absurd m
scan_fits false true r p h rec w (inl e) = subst (λ y. FitsWork y) e (h, rec refl)
scan_fits false true r p h rec w (inr m) = absurd m
scan_fits b false r p h rec w m = absurd m

item_or : (b : Bool) (v : Work) (q : List Work) (w : Work) → FitsWork v → (In w q → FitsWork w) → In w (cond b (v ∷ q) q) → FitsWork w
item_or true v q w f k (inl e) = subst (λ y. FitsWork y) e f
item_or true v q w f k (inr m) = k m
item_or false v q w f k m = k m

guards_fit : (p : Path) (rs : List Root) (w : Work) → In w (guards_at p rs) → FitsWork w
guards_fit p [] w m = absurd m
guards_fit p (r ∷ rs) w m = item_or (same r.path p) (Plain (Guard r)) (guards_at p rs) w tt (guards_fit p rs w) m

covers_taken : (r : Root) (p : Path) (i : Identity) (scans : Bool) (item : Work) (e : AddResult) (s : RecursorState) → covers r p ≡ true → (scans ≡ true → r.recursive ≡ true) → FitsWork item → CoveredOf s → CoveredOf (taken r p i scans item e s)
covers_taken r p i scans item Stands s h rec fits k =
    covers_later (cond scans (scan_once r p i s) []) (take_over r p i s) (record { owners = own_covers r p s.owners h k.owners; queue = k.queue; retries = k.retries }) (scan_fits (has_met r i s.known s.owners) scans r p h rec)
covers_taken r p i scans item Vanished s h rec fits k = covers_later (guards_at p s.roots) (lose r p s) (covers_lose r p s k) (guards_fit p s.roots)
covers_taken r p i scans item TryAgain s h rec fits k = covers_later (item ∷ []) s k (λ w m. elim m [ inl e ↦ subst (λ y. FitsWork y) e fits | inr n ↦ absurd n ])
covers_taken r p i scans item LeftOut s h rec fits k = k

covers_owned : (r : Root) (p : Path) (i : Identity) (scans : Bool) (item : Work) (w : Watched) (u : Option NotifyFault) (s : RecursorState) → covers r p ≡ true → (scans ≡ true → r.recursive ≡ true) → FitsWork item → CoveredOf s → CoveredOf (owned r p i scans item w u s)
covers_owned r p i scans item w u s h rec fits k = covers_taken r p i scans item (added_result p i w s) (added p i w u s) h rec fits (subst (λ c. AreCovered c) (sym (parts_added p i w u s)) k)

again_fits : (b : Bool) (r : Root) (w : Work) → In w (cond b (Plain (Visit r) ∷ []) []) → FitsWork w
again_fits true r w (inl e) = subst (λ y. FitsWork y) e tt
again_fits true r w (inr m) = absurd m
again_fits false r w m = absurd m

covers_placed : (r : Root) (p : Path) (i : Identity) (root_is_safe : Bool) (e : AddResult) (s : RecursorState) → CoveredOf s → CoveredOf (guard_placed r p i root_is_safe e s)
covers_placed r p i root_is_safe Stands s k = covers_later (cond root_is_safe (Plain (Visit r) ∷ []) []) (guard_set r p i s) (record { owners = k.owners; queue = k.queue; retries = k.retries }) (again_fits root_is_safe r)
covers_placed r p i root_is_safe Vanished s k = covers_retry r r.path s (reaches_itself r) k
covers_placed r p i root_is_safe TryAgain s k = covers_later (Plain (Guard r) ∷ []) s k (λ w m. elim m [ inl e ↦ subst (λ y. FitsWork y) e tt | inr n ↦ absurd n ])
covers_placed r p i root_is_safe LeftOut s k = k

covers_guarded : (r : Root) (g : GuardFound) (e : Evidence) (s : RecursorState) → CoveredOf s → CoveredOf (guarded_at r g e s)
covers_guarded r Nowhere e s k = covers_later (cond e.root_is_safe (Plain (Visit r) ∷ []) []) (unguarded r s) (record { owners = k.owners; queue = k.queue; retries = k.retries }) (again_fits e.root_is_safe r)
covers_guarded r (Faulty p c) e s k = covers_retry r r.path (show (PathScan p (Io c)) s) (reaches_itself r) k
covers_guarded r (At p i) e s k = covers_placed r p i e.root_is_safe (added_result p i e.watched s) (added p i e.watched e.undone s) (subst (λ c. AreCovered c) (sym (parts_added p i e.watched e.undone s)) k)

covers_visited : (r : Root) (f : Found) (e : Evidence) (s : RecursorState) → CoveredOf s → CoveredOf (visited r f e s)
covers_visited r Missing e s k = covers_guarded r e.guard_found e (lose r r.path (show (PathScan r.path NotFound) s)) (covers_lose r r.path (show (PathScan r.path NotFound) s) k)
covers_visited r Barred e s k = covers_guarded r e.guard_found e (lose r r.path s) (covers_lose r r.path s k)
covers_visited r Rejected e s k = k
covers_visited r (Fault p c) e s k = covers_guarded r e.guard_found e (keep_retry r r.path (show (PathScan p (Io c)) s)) (covers_retry r r.path (show (PathScan p (Io c)) s) (reaches_itself r) k)
covers_visited r (Refused c) e s k = k
covers_visited r (Here i) e s k =
    covers_owned r r.path i (r.recursive && is_of_directory i) (Plain (Visit r)) e.watched e.undone (unguarded r (refound r s)) (reaches_itself r) (λ h. let a = and_parts r.recursive (is_of_directory i) h in a.0) tt (record { owners = k.owners; queue = k.queue; retries = k.retries })
covers_visited r (Entries cs) e s k = k

candidates_fit : (r : Root) (p : Path) (cs : List Path) → covers r p ≡ true → r.recursive ≡ true → (w : Work) → In w (plain_items (candidates r (filter (has_entry p) cs))) → FitsWork w
candidates_fit r p [] h rec w m = absurd m
candidates_fit r p (c ∷ cs) h rec w m =
    elim (cases_Bool (has_entry p c)) [
      | inl a ↦ elim (let x : In w (Plain (Candidate r c) ∷ plain_items (candidates r (filter (has_entry p) cs))) = rw a at m in x) [
        | inl e ↦ subst (λ y. FitsWork y) e (reaches_entry r p c h rec a, rec)
        | inr n ↦ candidates_fit r p cs h rec w n
      ]
      | inr a ↦ candidates_fit r p cs h rec w (rw a at m)
    ]

covers_scanned : (r : Root) (p : Path) (f : Found) (s : RecursorState) → covers r p ≡ true → r.recursive ≡ true → CoveredOf s → CoveredOf (scanned r p f s)
covers_scanned r p Missing s h rec k = covers_fewer (λ o. not (same_root r o.root && holds_below p o.path)) (show (PathScan p NotFound) s) k
covers_scanned r p Barred s h rec k = k
covers_scanned r p Rejected s h rec k = k
covers_scanned r p (Fault q c) s h rec k = covers_retry r p (show (PathScan q (Io c)) s) h k
covers_scanned r p (Refused c) s h rec k = k
covers_scanned r p (Here i) s h rec k = k
covers_scanned r p (Entries cs) s h rec k = covers_later (plain_items (candidates r (filter (has_entry p) cs))) s k (candidates_fit r p cs h rec)

covers_tried : (r : Root) (p : Path) (f : Found) (e : Evidence) (s : RecursorState) → covers r p ≡ true → r.recursive ≡ true → CoveredOf s → CoveredOf (tried r p f e s)
covers_tried r p Missing e s h rec k = covers_later (guards_at p s.roots) (lose r p (show (PathScan p NotFound) s)) (covers_lose r p (show (PathScan p NotFound) s) k) (guards_fit p s.roots)
covers_tried r p Barred e s h rec k = covers_lose r p s k
covers_tried r p Rejected e s h rec k = covers_lose r p s k
covers_tried r p (Fault q c) e s h rec k = covers_retry r p (show (PathScan q (Io c)) s) h k
covers_tried r p (Refused c) e s h rec k = covers_retry r p (show (Filter c) s) h k
covers_tried r p (Here i) e s h rec k = covers_owned r p i true (Plain (Candidate r p)) e.watched e.undone s h (λ x. rec) (h, rec) k
covers_tried r p (Entries cs) e s h rec k = k

-- the roots that seek a path

above_reaches : (r : Root) (p : Path) (os : List Owner) → ((o : Owner) → In o os → covers o.root o.path ≡ true) → r.recursive ≡ true → owns_parent r p os ≡ true → covers r p ≡ true
above_reaches r [] os k rec h = cc
above_reaches r (x ∷ p) [] k rec h = cc
above_reaches r (x ∷ p) (o ∷ os) k rec h =
    elim (or_cases (is_owner r p o) (owns_parent r (x ∷ p) os) h) [
      | inl a ↦
          let b = and_parts (same_root r o.root) (same p o.path) a in
          let e : r ≡ o.root = same_root-true r o.root b.0 in
          let f : p ≡ o.path = same-true p o.path b.1 in
          let g : covers r p ≡ true = subst (λ y. covers r y ≡ true) (sym f) (subst (λ y. covers y o.path ≡ true) (sym e) (k o (inl refl))) in
          reaches_entry r p (x ∷ p) g rec (same-refl p)
      | inr a ↦ above_reaches r (x ∷ p) os (λ y m. k y (inr m)) rec a
    ]

pub has_root_in : (r : Root) (rs : List Root) → has_root r rs ≡ true → In r rs
has_root_in r [] h = cc
has_root_in r (s ∷ rs) h = elim (or_cases (same_root s r) (has_root r rs) h) [ inl a ↦ inl (same_root-true s r a) | inr b ↦ inr (has_root_in r rs b) ]

candidates_each : (p : Path) (rs : List Root) → ((r : Root) → In r rs → (covers r p ≡ true) × (r.recursive ≡ true)) → (w : Work) → In w (candidates_of p rs) → FitsWork w
candidates_each p [] k w m = absurd m
candidates_each p (r ∷ rs) k w (inl e) = subst (λ y. FitsWork y) e (k r (inl refl))
candidates_each p (r ∷ rs) k w (inr m) = candidates_each p rs (λ x n. k x (inr n)) w m

seekers_fit : (p : Path) (owners rs : List Root) (os : List Owner) → ((o : Owner) → In o os → covers o.root o.path ≡ true) → ((r : Root) → In r owners → covers r p ≡ true) → (r : Root) → In r (seekers p owners rs os) → (covers r p ≡ true) × (r.recursive ≡ true)
seekers_fit p owners rs os k owned r m =
    let a = In-filter (λ r. r.recursive && (owns_parent r p os || has_root r owners)) r rs m in
    let b = and_parts r.recursive (owns_parent r p os || has_root r owners) a.1 in
    (elim (or_cases (owns_parent r p os) (has_root r owners) b.1) [ inl c ↦ above_reaches r p os k b.0 c | inr c ↦ owned r (has_root_in r owners c) ], b.0)

covers_retries : (p : Path) (rs : List Root) (s : RecursorState) → ((r : Root) → In r rs → covers r p ≡ true) → CoveredOf s → CoveredOf (retry_all p rs s)
covers_retries p [] s h k = k
covers_retries p (r ∷ rs) s h k = covers_retries p rs (keep_retry r p s) (λ x m. h x (inr m)) (covers_retry r p s (h r (inl refl)) k)

cond_fits : (b : Bool) (q : List Work) → ((w : Work) → In w q → FitsWork w) → (w : Work) → In w (cond b q []) → FitsWork w
cond_fits true q k w m = k w m
cond_fits false q k w m = absurd m

covers_probed : (p : Path) (os : List Root) (f : Found) (s : RecursorState) → ((r : Root) → In r os → covers r p ≡ true) → CoveredOf s → CoveredOf (probed p os f s)
covers_probed p os Missing s h k = k
covers_probed p os Barred s h k = k
covers_probed p os Rejected s h k = k
covers_probed p os (Fault q c) s h k = covers_retries p (seekers p os s.roots s.owners) (show (PathScan q (Io c)) s) (λ r m. let a = seekers_fit p os s.roots s.owners k.owners h r m in a.0) k
covers_probed p os (Refused c) s h k = k
covers_probed p os (Here i) s h k = covers_later (cond (is_of_directory i) (candidates_of p (seekers p os s.roots s.owners)) []) s k (cond_fits (is_of_directory i) _ (candidates_each p _ (seekers_fit p os s.roots s.owners k.owners h)))
covers_probed p os (Entries cs) s h k = k

covers_item : (i : Item) (e : Evidence) (s : RecursorState) → FitsItem i → CoveredOf s → CoveredOf (acted_item i e s)
covers_item (Guard r) e s fits k = covers_guarded r e.guard_found e s k
covers_item (Visit r) e s fits k = covers_visited r e.found e s k
covers_item (Scan r p) e s fits k = covers_scanned r p e.found s fits.0 fits.1 k
covers_item (Candidate r p) e s fits k = covers_tried r p e.found e s fits.0 fits.1 k

covers_first : (q : List Work) (e : Evidence) (s : RecursorState) → s.queue ≡ q → CoveredOf s → CoveredOf (stepped_at q e s)
covers_first [] e s h k = covers_fewer (λ o. o.seen) s k
covers_first (w ∷ q) e s h k =
    let fits : FitsWork w = k.queue w (subst (λ y. In w y) (sym h) (inl refl)) in
    let rest : CoveredOf (record s { queue = q }) = record { owners = k.owners; queue = λ x m. k.queue x (subst (λ y. In x y) (sym h) (inr m)); retries = k.retries } in
    covers_work w e (record s { queue = q }) fits rest
  where
    covers_work : (w : Work) (e : Evidence) (s : RecursorState) → FitsWork w → CoveredOf s → CoveredOf (acted w e s)
    covers_work (Plain i) e s fits k = covers_item i e s fits k
    covers_work (Probe p os) e s fits k = covers_probed p os e.found s fits k

-- whatever the calls of a step answer, each owner covers its path
pub step_covers : (e : Evidence) (s : RecursorState) → CoveredOf s → CoveredOf (stepped e s)
step_covers e s k =
    let u : RecursorState = stepped_at s.queue e s in
    subst (λ c. AreCovered c) (sym (parts_free (idle_registrations (still_known u.owners u.known) u.guards u.registrations) e.releases u)) (covers_first s.queue e s refl k)

-- the calls between

queued_guards_fit : (gs : List GuardWatch) (w : Work) → In w (queued_guards gs) → FitsWork w
queued_guards_fit [] w m = absurd m
queued_guards_fit (g ∷ gs) w (inl e) = subst (λ y. FitsWork y) e tt
queued_guards_fit (g ∷ gs) w (inr m) = queued_guards_fit gs w m

queued_roots_fit : (rs : List Root) (w : Work) → In w (queued_roots rs) → FitsWork w
queued_roots_fit [] w m = absurd m
queued_roots_fit (r ∷ rs) w (inl e) = subst (λ y. FitsWork y) e tt
queued_roots_fit (r ∷ rs) w (inr m) = queued_roots_fit rs w m

retried_fits : (x : Retry) → covers x.root x.path ≡ true → FitsWork (retried x)
retried_fits x h =
    elim (cases_Bool (same x.root.path x.path)) [
      | inl a ↦ rw a tt
      | inr a ↦ (let b : (x.root.recursive && holds x.root.path x.path) ≡ true = rw a at h in let c = and_parts x.root.recursive (holds x.root.path x.path) b in rw a (h, c.0))
    ]

queued_retries_fit : (rs : List Root) (xs : List Retry) → ((x : Retry) → In x xs → covers x.root x.path ≡ true) → (w : Work) → In w (queued_retries rs xs) → FitsWork w
queued_retries_fit rs [] k w m = absurd m
queued_retries_fit rs (x ∷ xs) k w m = item_or (has_root x.root rs) (retried x) (queued_retries rs xs) w (retried_fits x (k x (inl refl))) (queued_retries_fit rs xs (λ y n. k y (inr n)) w) m

pub unseen_from : (o : Owner) (os : List Owner) → In o (unseen os) → (x : Owner) × In x os × (x.root ≡ o.root) × (x.path ≡ o.path)
unseen_from o [] m = absurd m
unseen_from o (x ∷ os) (inl e) = (x, inl refl, ap (λ y. y.root) e, ap (λ y. y.path) e)
unseen_from o (x ∷ os) (inr m) = let a = unseen_from o os m in (a.0, inr a.1, a.2, a.3)

pub reconcile_covers : (rs : List Root) (n : ℕ) (s : RecursorState) → CoveredOf s → CoveredOf (reconciled rs n s)
reconcile_covers rs n s k = record {
  owners = λ o m. (let a = unseen_from o s.owners m in subst (λ p. covers o.root p ≡ true) a.3 (subst (λ r. covers r a.0.path ≡ true) a.2 (k.owners a.0 a.1)));
  queue = λ w m. elim (In-cases w (queued_guards (kept_guard_watches rs s.guards)) (queued_retries rs s.retries ++ queued_roots rs) m) [
    | inl a ↦ queued_guards_fit (kept_guard_watches rs s.guards) w a
    | inr a ↦ elim (In-cases w (queued_retries rs s.retries) (queued_roots rs) a) [ inl b ↦ queued_retries_fit rs s.retries k.retries w b | inr b ↦ queued_roots_fit rs w b ]
  ];
  retries = λ x m. absurd m;
}

guards_below_fit : (p : Path) (gs : List GuardWatch) (w : Work) → In w (guards_below p gs) → FitsWork w
guards_below_fit p [] w m = absurd m
guards_below_fit p (g ∷ gs) w m = item_or (holds p g.root.path) (Plain (Guard g.root)) (guards_below p gs) w tt (guards_below_fit p gs w) m

resets_below_fit : (p : Path) (rs : List Root) (w : Work) → In w (guards_of_roots_below p rs) → FitsWork w
resets_below_fit p [] w m = absurd m
resets_below_fit p (r ∷ rs) w m = item_or (holds p r.path) (Plain (Guard r)) (guards_of_roots_below p rs) w tt (resets_below_fit p rs w) m

roots_below_fit : (p : Path) (rs : List Root) (w : Work) → In w (roots_below p rs) → FitsWork w
roots_below_fit p [] w m = absurd m
roots_below_fit p (r ∷ rs) w m = item_or (holds p r.path) (Plain (Visit r)) (roots_below p rs) w tt (roots_below_fit p rs w) m

covers_dropped : (p : Path) (s : RecursorState) → CoveredOf s → CoveredOf (cleared_below p s)
covers_dropped p s k = (let a = covers_fewer (λ o. not (holds p o.path)) s k in record { owners = a.owners; queue = k.queue; retries = k.retries })

covers_stirred : (p : Path) (s : RecursorState) → CoveredOf s → CoveredOf (stirred p s)
covers_stirred p s k = covers_later (guards_below p s.guards ++ roots_below p s.roots) (cleared_below p (tombstones_lifted p s)) (covers_dropped p (tombstones_lifted p s) (record { owners = k.owners; queue = k.queue; retries = k.retries }))
    (λ w m. elim (In-cases w (guards_below p s.guards) (roots_below p s.roots) m) [ inl a ↦ guards_below_fit p s.guards w a | inr a ↦ roots_below_fit p s.roots w a ])

covers_created : (p : Path) (s : RecursorState) → CoveredOf s → CoveredOf (created_one p s)
covers_created p s k = covers_later (candidates_of p (owners_above p s)) (stirred p s) (covers_stirred p s k)
    (candidates_each p (owners_above p s) (λ r m.
    let a = In-filter (λ r. r.recursive && owns_parent r p s.owners) r s.roots m in
    let b = and_parts r.recursive (owns_parent r p s.owners) a.1 in
    (above_reaches r p s.owners k.owners b.0 b.1, b.0)))

covers_removed : (p : Path) (s : RecursorState) → CoveredOf s → CoveredOf (removed_one p s)
covers_removed p s k = (let u : RecursorState = record s { tombstones = s.tombstones ++ p ∷ [] } in covers_later (guards_of_roots_below p s.roots) (cleared_below p u) (covers_dropped p u (record { owners = k.owners; queue = k.queue; retries = k.retries })) (resets_below_fit p s.roots))

owners_reach : (p : Path) (os : List Owner) → ((o : Owner) → In o os → covers o.root o.path ≡ true) → (r : Root) → In r (owners_at p os) → covers r p ≡ true
owners_reach p [] k r m = absurd m
owners_reach p (o ∷ os) k r m =
    elim (cases_Bool (same o.path p)) [
      | inl a ↦ elim (let x : In r (o.root ∷ owners_at p os) = rw a at m in x) [
        | inl e ↦ subst (λ y. covers r y ≡ true) (same-true o.path p a) (subst (λ y. covers y o.path ≡ true) e (k o (inl refl)))
        | inr n ↦ owners_reach p os (λ y q. k y (inr q)) r n
      ]
      | inr a ↦ owners_reach p os (λ y q. k y (inr q)) r (rw a at m)
    ]

covers_unsure : (p : Path) (s : RecursorState) → CoveredOf s → CoveredOf (unsure_one p s)
covers_unsure p s k = covers_later (Probe p (owners_at p s.owners) ∷ []) (stirred p s) (covers_stirred p s k) (λ w m. elim m [ inl e ↦ subst (λ y. FitsWork y) e (owners_reach p s.owners k.owners) | inr n ↦ absurd n ])

each_covers : (f : Path → RecursorState → RecursorState) (ps : List Path) (s : RecursorState) → ((p : Path) (x : RecursorState) → CoveredOf x → CoveredOf (f p x)) → CoveredOf s → CoveredOf (for_each f ps s)
each_covers f [] s keep k = k
each_covers f (p ∷ ps) s keep k = each_covers f ps (f p s) keep (keep p s k)

pub created_covers : (p : Path) (s : RecursorState) → CoveredOf s → CoveredOf (created p s)
created_covers p s k = each_covers created_one (aliases p s) s covers_created k

pub removed_covers : (p : Path) (s : RecursorState) → CoveredOf s → CoveredOf (removed p s)
removed_covers p s k = each_covers removed_one (aliases p s) s covers_removed k

pub unsure_covers : (p : Path) (s : RecursorState) → CoveredOf s → CoveredOf (unsure p s)
unsure_covers p s k = each_covers unsure_one (aliases p s) s covers_unsure k

pub renamed_covers : (p q : Path) (s : RecursorState) → CoveredOf s → CoveredOf (renamed p q s)
renamed_covers p q s k = each_covers created_one (aliases q s) (for_each removed_one (aliases p s ++ aliases q s) s) covers_created (each_covers removed_one (aliases p s ++ aliases q s) s covers_removed k)

-- a rebuild

pub prepared_covers : (s : RecursorState) → CoveredOf s → CoveredOf (prepared s)
prepared_covers s k = record { owners = λ o m. (let a = In-filter _ o s.owners m in k.owners o a.0); queue = k.queue; retries = k.retries }

covers_gone : (g : Known) (s : RecursorState) → CoveredOf s → CoveredOf (waits_by_alias g (path_gone g.path s))
covers_gone g s k =
    let f : Owner → Bool = λ o. not (holds g.path o.path) in
    let a = covers_fewer f s k in
    record {
      owners = a.owners;
      queue = λ w m. elim (In-cases w s.queue (guards_of_roots_below g.path s.roots) m) [ inl b ↦ k.queue w b | inr b ↦ resets_below_fit g.path s.roots w b ];
      retries = k.retries;
    }

covers_either : (b : Bool) (x y : RecursorState) → CoveredOf x → CoveredOf y → CoveredOf (cond b x y)
covers_either true x y k l = k
covers_either false x y k l = l

covers_replayed : (g : Known) (w : Watched) (s : RecursorState) → CoveredOf s → CoveredOf (replayed_one g w s)
covers_replayed g (Kept look) s k = record { owners = k.owners; queue = k.queue; retries = k.retries }
covers_replayed g (Failed f) s k =
    let stopped : CoveredOf (stop f s) = subst (λ c. AreCovered c) (sym (cond_parts s.stopped _ _ s refl refl)) k in
    let failed : CoveredOf (failed_watch g.path f s) = subst (λ c. AreCovered c) (sym (cond_parts (has_path g.path s.failed) _ _ s refl refl)) k in
    covers_either (is_path_gone f) _ _
    (covers_gone g (show (PathAdd g.path f) s) (record { owners = k.owners; queue = k.queue; retries = k.retries }))
    (covers_either (is_resource_fault f) _ _
    (record { owners = stopped.owners; queue = stopped.queue; retries = stopped.retries })
    (covers_either (has_path g.path s.failed) _ _
    failed
    (record { owners = failed.owners; queue = failed.queue; retries = failed.retries })))

covers_all_replayed : (gs : List Known) (ws : List Watched) (s : RecursorState) → CoveredOf s → CoveredOf (replayed_all gs ws s)
covers_all_replayed [] ws s k = k
covers_all_replayed (g ∷ gs) [] s k = record { owners = k.owners; queue = k.queue; retries = k.retries }
covers_all_replayed (g ∷ gs) (w ∷ ws) s k =
    covers_either (is_replay_over s) _ _
    (record { owners = k.owners; queue = k.queue; retries = k.retries })
    (covers_all_replayed gs ws (replayed_one g w s) (covers_replayed g w s k))

pub replayed_covers : (ws : List Watched) (s : RecursorState) → CoveredOf s → CoveredOf (replayed ws s)
replayed_covers ws s k =
    let u : RecursorState = replayed_all s.waiting ws (record s { waiting = [] }) in
    let a : CoveredOf u = covers_all_replayed s.waiting ws (record s { waiting = [] }) (record { owners = k.owners; queue = k.queue; retries = k.retries }) in
    record { owners = λ o m. (let b = In-filter _ o u.owners m in a.owners o b.0); queue = a.queue; retries = a.retries }
