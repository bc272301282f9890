-- Each call keeps that each root was given by some reconcile.
use Rattle.std.proofs.Common.{◌≡◌, ℕ, Bool, true, false, cond, List, [], ◌∷◌, ◌++◌, refl, sym, ◌∙◌, inl, inr, subst}
use Rattle.std.specs.Prelude.{◌&&◌, ◌||◌, not, Option, Some, None, filter}
use Rattle.std.proofs.lemmas.Bool.{cases_Bool}
use Rattle.wx_watch.specs.declared.notify_fault.NotifyFault.{NotifyFault}
use Rattle.wx_tree.specs.Lists.{In}
use Rattle.wx_tree.specs.Paths.{Path, has_entry, holds, holds_below, same}
use Rattle.wx_tree.specs.Roots.{same_root}
use Rattle.wx_tree.specs.declared.root.Root.{Root}
use Rattle.wx_tree.proofs.ListLemmas.{In-cases, In-filter, In-left, In-right}
use Rattle.wx_recursor.specs.declared.answers.AddResult.{AddResult}
use Rattle.wx_recursor.specs.declared.answers.AddResult.TheVariants.{LeftOut, Stands, TryAgain, Vanished}
use Rattle.wx_recursor.specs.declared.answers.Found.{Found}
use Rattle.wx_recursor.specs.declared.answers.Found.TheVariants.{Barred, Entries, Fault, Here, Missing, Refused, Rejected}
use Rattle.wx_recursor.specs.declared.answers.GuardFound.{GuardFound}
use Rattle.wx_recursor.specs.declared.answers.GuardFound.TheVariants.{At, Faulty, Nowhere}
use Rattle.wx_recursor.specs.declared.answers.Watched.{Watched}
use Rattle.wx_recursor.specs.declared.answers.Watched.TheVariants.{Failed, Kept}
use Rattle.wx_recursor.specs.declared.errors.ScanFault.TheVariants.{Io, NotFound}
use Rattle.wx_recursor.specs.declared.errors.ShownError.TheVariants.{Filter, PathAdd, PathScan}
use Rattle.wx_recursor.specs.declared.known.Identity.{Identity}
use Rattle.wx_recursor.specs.declared.known.Known.{Known}
use Rattle.wx_recursor.specs.declared.owner.GuardWatch.{GuardWatch}
use Rattle.wx_recursor.specs.declared.owner.Owner.{Owner}
use Rattle.wx_recursor.specs.declared.work.Item.{Item}
use Rattle.wx_recursor.specs.declared.work.Item.TheVariants.{Candidate, Guard, Scan, Visit}
use Rattle.wx_recursor.specs.declared.work.Retry.{Retry}
use Rattle.wx_recursor.specs.declared.work.Work.{Work}
use Rattle.wx_recursor.specs.declared.work.Work.TheVariants.{Plain, Probe}
use Rattle.wx_recursor.specs.States.{Evidence, RecursorState}
use Rattle.wx_recursor.specs.Identities.{has_identity, is_of_directory, is_path_gone, refusal}
use Rattle.wx_recursor.specs.Owners.{candidates, has_path, has_root, is_owner, own}
use Rattle.wx_recursor.specs.Holding.{enqueue, guards_at, has_met, has_retry, keep_retry, lose, scan_once, show, still_known, take_over}
use Rattle.wx_recursor.specs.Owning.{added, added_result, answered, changed, failed_watch, is_held_back, is_known_otherwise, is_resource_fault, is_still, owned, refused, stop, taken, unwatched}
use Rattle.wx_recursor.specs.Guarding.{guard_placed, guard_set, guarded_at, guards_of_others, unguarded}
use Rattle.wx_recursor.specs.Steps.{acted, acted_item, candidates_of, idle_registrations, owns_parent, plain_items, probed, refound, retry_all, scanned, seekers, stepped, stepped_at, tried, unwatch_each, visited}
use Rattle.wx_recursor.specs.Calls.{aliases, cleared_below, created, created_one, for_each, guards_below, guards_of_roots_below, kept_guard_watches, owners_above, owners_at, queued_guards, queued_retries, queued_roots, reconciled, removed, removed_one, renamed, rescanned, retried, roots_below, stirred, tombstones_lifted, unsure, unsure_one}
use Rattle.wx_recursor.specs.Rebuilds.{guards_to_replay, is_left_out, is_replay_over, path_gone, prepared, replayed, replayed_all, replayed_one, waits_by_alias}
use Rattle.wx_recursor.specs.Sound.{AreGiven, IsItemOf, IsWorkOf, rooted}
use Rattle.wx_recursor.proofs.Coverage.{unseen_from}
use Rattle.wx_recursor.proofs.OwnerLemmas.{saw}

cond_rooted : (b : Bool) (x y s : RecursorState) → rooted x ≡ rooted s → rooted y ≡ rooted s → rooted (cond b x y) ≡ rooted s
cond_rooted true x y s e f = e
cond_rooted false x y s e f = f

rooted_refused : (p : Path) (f : NotifyFault) (s : RecursorState) → rooted (refused p f s) ≡ rooted s
rooted_refused p f s = cond_rooted (is_path_gone f) _ _ s refl (cond_rooted (is_resource_fault f) _ _ s (cond_rooted s.stopped _ _ s refl refl) (cond_rooted (has_path p s.failed) _ _ s refl refl))

rooted_unwatched : (p : Path) (u : Option NotifyFault) (s : RecursorState) → rooted (unwatched p u s) ≡ rooted s
rooted_unwatched p None s = refl
rooted_unwatched p (Some f) s = refl

rooted_answered : (p : Path) (i : Identity) (w : Watched) (u : Option NotifyFault) (s : RecursorState) → rooted (answered p i w u s) ≡ rooted s
rooted_answered p i (Failed f) u s = rooted_refused p f s
rooted_answered p i (Kept look) u s = cond_rooted (is_still p i look) _ _ s refl (rooted_unwatched p (refusal u) (show (PathScan p (changed i look)) s))

rooted_added : (p : Path) (i : Identity) (w : Watched) (u : Option NotifyFault) (s : RecursorState) → rooted (added p i w u s) ≡ rooted s
rooted_added p i w u s = cond_rooted (is_known_otherwise p i s) _ _ s refl (cond_rooted (has_identity i s.registrations) _ _ s refl (cond_rooted (is_held_back p s) _ _ s refl (rooted_answered p i w u s)))

rooted_unwatch : (gs : List Known) (us : List (Option NotifyFault)) (s : RecursorState) → rooted (unwatch_each gs us s) ≡ rooted s
rooted_unwatch [] us s = refl
rooted_unwatch (g ∷ gs) [] s = refl
rooted_unwatch (g ∷ gs) (u ∷ us) s = rooted_unwatch gs us (unwatched g.path (refusal u) s) ∙ rooted_unwatched g.path (refusal u) s

abbrev pub GivenOf : List Root → RecursorState → Type 0
GivenOf v s = AreGiven v (rooted s)

-- more in the queue, fewer owners

given_later : (v : List Root) (q : List Work) (s : RecursorState) → GivenOf v s → ((w : Work) → In w q → IsWorkOf v w) → GivenOf v (enqueue q s)
given_later v q s k more = record { roots = k.roots; owners = k.owners; guards = k.guards; queue = λ w m. elim (In-cases w s.queue q m) [ inl a ↦ k.queue w a | inr b ↦ more w b ]; retries = k.retries }

given_fewer : (v : List Root) (f : Owner → Bool) (s : RecursorState) → GivenOf v s → GivenOf v (record s { owners = filter f s.owners })
given_fewer v f s k = record { roots = k.roots; owners = λ o m. (let a = In-filter f o s.owners m in k.owners o a.0); guards = k.guards; queue = k.queue; retries = k.retries }

given_lose : (v : List Root) (r : Root) (p : Path) (s : RecursorState) → GivenOf v s → GivenOf v (lose r p s)
given_lose v r p s k = given_fewer v (λ o. not (same_root r o.root && holds p o.path)) s k

given_retry : (v : List Root) (r : Root) (p : Path) (s : RecursorState) → In r v → GivenOf v s → GivenOf v (keep_retry r p s)
given_retry v r p s h k =
    elim (has_retry r p s.retries) as (λ b. GivenOf v (cond b s (record s { retries = s.retries ++ record { root = r; path = p } ∷ [] }))) [
      | true ↦ k
      | false ↦ record { roots = k.roots; owners = k.owners; guards = k.guards; queue = k.queue; retries = λ x m. elim (In-cases x s.retries (record { root = r; path = p } ∷ []) m) [ inl a ↦ k.retries x a | inr b ↦ elim b [ inl e ↦ subst (λ y. In y.root v) e h | inr c ↦ absurd c ] ] }
    ]

own_given : (v : List Root) (r : Root) (p : Path) (os : List Owner) → In r v → ((o : Owner) → In o os → In o.root v) → (o : Owner) → In o (own r p os) → In o.root v
own_given v r p [] h k o (inl e) = subst (λ y. In y.root v) e h
own_given v r p [] h k o (inr m) = absurd m
own_given v r p (x ∷ os) h k o m = go (own_given v r p os h (λ y n. k y (inr n)) o) (is_owner r p x) m
  where
    go : (In o (own r p os) → In o.root v) → (b : Bool) → In o (cond b (saw r p ∷ os) (x ∷ own r p os)) → In o.root v
    go more true (inl e) = subst (λ y. In y.root v) e h
    go more true (inr m) = k o (inr m)
    go more false (inl e) = k o (inl e)
    go more false (inr m) = more m

one_given : (v : List Root) (x w : Work) → IsWorkOf v x → In w (x ∷ []) → IsWorkOf v w
one_given v x w h (inl e) = subst (λ y. IsWorkOf v y) e h
one_given v x w h (inr m) = absurd m

perhaps_given : (b : Bool) (v : List Root) (q : List Work) (w : Work) → (In w q → IsWorkOf v w) → In w (cond b q []) → IsWorkOf v w
perhaps_given true v q w k m = k m
perhaps_given false v q w k m = absurd m

scan_given : (b c : Bool) (v : List Root) (r : Root) (p : Path) → In r v → (w : Work) → In w (cond c (cond b [] (Plain (Scan r p) ∷ [])) []) → IsWorkOf v w
scan_given true true v r p h w m = absurd m
scan_given false true v r p h w m = one_given v (Plain (Scan r p)) w h m
scan_given b false v r p h w m = absurd m

work_or : (b : Bool) (v : List Root) (x : Work) (q : List Work) (w : Work) → IsWorkOf v x → (In w q → IsWorkOf v w) → In w (cond b (x ∷ q) q) → IsWorkOf v w
work_or true v x q w f k (inl e) = subst (λ y. IsWorkOf v y) e f
work_or true v x q w f k (inr m) = k m
work_or false v x q w f k m = k m

guards_at_given : (v : List Root) (p : Path) (rs : List Root) → ((r : Root) → In r rs → In r v) → (w : Work) → In w (guards_at p rs) → IsWorkOf v w
guards_at_given v p [] h w m = absurd m
guards_at_given v p (r ∷ rs) h w m = work_or (same r.path p) v (Plain (Guard r)) (guards_at p rs) w (h r (inl refl)) (guards_at_given v p rs (λ x n. h x (inr n)) w) m

given_taken : (v : List Root) (r : Root) (p : Path) (i : Identity) (scans : Bool) (item : Work) (e : AddResult) (s : RecursorState) → In r v → IsWorkOf v item → GivenOf v s → GivenOf v (taken r p i scans item e s)
given_taken v r p i scans item Stands s h fits k =
    given_later v (cond scans (scan_once r p i s) []) (take_over r p i s) (record { roots = k.roots; owners = own_given v r p s.owners h k.owners; guards = k.guards; queue = k.queue; retries = k.retries }) (scan_given (has_met r i s.known s.owners) scans v r p h)
given_taken v r p i scans item Vanished s h fits k = given_later v (guards_at p s.roots) (lose r p s) (given_lose v r p s k) (guards_at_given v p s.roots k.roots)
given_taken v r p i scans item TryAgain s h fits k = given_later v (item ∷ []) s k (λ w m. one_given v item w fits m)
given_taken v r p i scans item LeftOut s h fits k = k

given_owned : (v : List Root) (r : Root) (p : Path) (i : Identity) (scans : Bool) (item : Work) (w : Watched) (u : Option NotifyFault) (s : RecursorState) → In r v → IsWorkOf v item → GivenOf v s → GivenOf v (owned r p i scans item w u s)
given_owned v r p i scans item w u s h fits k = given_taken v r p i scans item (added_result p i w s) (added p i w u s) h fits (subst (λ c. AreGiven v c) (sym (rooted_added p i w u s)) k)

-- guards

pub others_given : (v : List Root) (r : Root) (gs : List GuardWatch) → ((g : GuardWatch) → In g gs → In g.root v) → (g : GuardWatch) → In g (guards_of_others r gs) → In g.root v
others_given v r gs k g m = let a = In-filter (λ (g : GuardWatch). not (same_root r g.root)) g gs m in k g a.0

given_unguarded : (v : List Root) (r : Root) (s : RecursorState) → GivenOf v s → GivenOf v (unguarded r s)
given_unguarded v r s k = record { roots = k.roots; owners = k.owners; guards = others_given v r s.guards k.guards; queue = k.queue; retries = k.retries }

given_set : (v : List Root) (r : Root) (p : Path) (i : Identity) (s : RecursorState) → In r v → GivenOf v s → GivenOf v (guard_set r p i s)
given_set v r p i s h k = record {
  roots = k.roots;
  owners = k.owners;
  guards = λ g m. elim (In-cases g (guards_of_others r s.guards) (record { root = r; path = p; identity = i } ∷ []) m) [
    | inl a ↦ others_given v r s.guards k.guards g a
    | inr b ↦ elim b [ inl e ↦ subst (λ y. In y.root v) e h | inr c ↦ absurd c ]
  ];
  queue = k.queue;
  retries = k.retries;
}

again_given : (b : Bool) (v : List Root) (r : Root) → In r v → (w : Work) → In w (cond b (Plain (Visit r) ∷ []) []) → IsWorkOf v w
again_given b v r h w m = perhaps_given b v (Plain (Visit r) ∷ []) w (one_given v (Plain (Visit r)) w h) m

given_placed : (v : List Root) (r : Root) (p : Path) (i : Identity) (safe : Bool) (e : AddResult) (s : RecursorState) → In r v → GivenOf v s → GivenOf v (guard_placed r p i safe e s)
given_placed v r p i safe Stands s h k = given_later v (cond safe (Plain (Visit r) ∷ []) []) (guard_set r p i s) (given_set v r p i s h k) (again_given safe v r h)
given_placed v r p i safe Vanished s h k = given_retry v r r.path s h k
given_placed v r p i safe TryAgain s h k = given_later v (Plain (Guard r) ∷ []) s k (λ w m. one_given v (Plain (Guard r)) w h m)
given_placed v r p i safe LeftOut s h k = k

given_guarded : (v : List Root) (r : Root) (g : GuardFound) (e : Evidence) (s : RecursorState) → In r v → GivenOf v s → GivenOf v (guarded_at r g e s)
given_guarded v r Nowhere e s h k = given_later v (cond e.root_is_safe (Plain (Visit r) ∷ []) []) (unguarded r s) (given_unguarded v r s k) (again_given e.root_is_safe v r h)
given_guarded v r (Faulty p c) e s h k = given_retry v r r.path (show (PathScan p (Io c)) s) h k
given_guarded v r (At p i) e s h k = given_placed v r p i e.root_is_safe (added_result p i e.watched s) (added p i e.watched e.undone s) h (subst (λ c. AreGiven v c) (sym (rooted_added p i e.watched e.undone s)) k)

-- items

given_visited : (v : List Root) (r : Root) (f : Found) (e : Evidence) (s : RecursorState) → In r v → GivenOf v s → GivenOf v (visited r f e s)
given_visited v r Missing e s h k = given_guarded v r e.guard_found e (lose r r.path (show (PathScan r.path NotFound) s)) h (given_lose v r r.path (show (PathScan r.path NotFound) s) k)
given_visited v r Barred e s h k = given_guarded v r e.guard_found e (lose r r.path s) h (given_lose v r r.path s k)
given_visited v r Rejected e s h k = k
given_visited v r (Fault p c) e s h k = given_guarded v r e.guard_found e (keep_retry r r.path (show (PathScan p (Io c)) s)) h (given_retry v r r.path (show (PathScan p (Io c)) s) h k)
given_visited v r (Refused c) e s h k = k
given_visited v r (Here i) e s h k = given_owned v r r.path i (r.recursive && is_of_directory i) (Plain (Visit r)) e.watched e.undone (unguarded r (refound r s)) h h (given_unguarded v r (refound r s) k)
given_visited v r (Entries cs) e s h k = k

candidates_given : (v : List Root) (r : Root) (cs : List Path) → In r v → (w : Work) → In w (plain_items (candidates r cs)) → IsWorkOf v w
candidates_given v r [] h w m = absurd m
candidates_given v r (c ∷ cs) h w (inl e) = subst (λ y. IsWorkOf v y) e h
candidates_given v r (c ∷ cs) h w (inr m) = candidates_given v r cs h w m

given_scanned : (v : List Root) (r : Root) (p : Path) (f : Found) (s : RecursorState) → In r v → GivenOf v s → GivenOf v (scanned r p f s)
given_scanned v r p Missing s h k = given_fewer v (λ o. not (same_root r o.root && holds_below p o.path)) (show (PathScan p NotFound) s) k
given_scanned v r p Barred s h k = k
given_scanned v r p Rejected s h k = k
given_scanned v r p (Fault q c) s h k = given_retry v r p (show (PathScan q (Io c)) s) h k
given_scanned v r p (Refused c) s h k = k
given_scanned v r p (Here i) s h k = k
given_scanned v r p (Entries cs) s h k = given_later v (plain_items (candidates r (filter (has_entry p) cs))) s k (candidates_given v r (filter (has_entry p) cs) h)

given_tried : (v : List Root) (r : Root) (p : Path) (f : Found) (e : Evidence) (s : RecursorState) → In r v → GivenOf v s → GivenOf v (tried r p f e s)
given_tried v r p Missing e s h k = given_later v (guards_at p s.roots) (lose r p (show (PathScan p NotFound) s)) (given_lose v r p (show (PathScan p NotFound) s) k) (guards_at_given v p s.roots k.roots)
given_tried v r p Barred e s h k = given_lose v r p s k
given_tried v r p Rejected e s h k = given_lose v r p s k
given_tried v r p (Fault q c) e s h k = given_retry v r p (show (PathScan q (Io c)) s) h k
given_tried v r p (Refused c) e s h k = given_retry v r p (show (Filter c) s) h k
given_tried v r p (Here i) e s h k = given_owned v r p i true (Plain (Candidate r p)) e.watched e.undone s h h k
given_tried v r p (Entries cs) e s h k = k

each_candidate_given : (v : List Root) (p : Path) (rs : List Root) → ((r : Root) → In r rs → In r v) → (w : Work) → In w (candidates_of p rs) → IsWorkOf v w
each_candidate_given v p [] h w m = absurd m
each_candidate_given v p (r ∷ rs) h w (inl e) = subst (λ y. IsWorkOf v y) e (h r (inl refl))
each_candidate_given v p (r ∷ rs) h w (inr m) = each_candidate_given v p rs (λ x n. h x (inr n)) w m

pub seekers_given : (v : List Root) (p : Path) (owners rs : List Root) (os : List Owner) → ((r : Root) → In r rs → In r v) → (r : Root) → In r (seekers p owners rs os) → In r v
seekers_given v p owners rs os h r m = let a = In-filter (λ r. r.recursive && (owns_parent r p os || has_root r owners)) r rs m in h r a.0

retries_given : (v : List Root) (p : Path) (rs : List Root) (s : RecursorState) → ((r : Root) → In r rs → In r v) → GivenOf v s → GivenOf v (retry_all p rs s)
retries_given v p [] s h k = k
retries_given v p (r ∷ rs) s h k = retries_given v p rs (keep_retry r p s) (λ x m. h x (inr m)) (given_retry v r p s (h r (inl refl)) k)

given_probed : (v : List Root) (p : Path) (os : List Root) (f : Found) (s : RecursorState) → GivenOf v s → GivenOf v (probed p os f s)
given_probed v p os Missing s k = k
given_probed v p os Barred s k = k
given_probed v p os Rejected s k = k
given_probed v p os (Fault q c) s k = retries_given v p (seekers p os s.roots s.owners) (show (PathScan q (Io c)) s) (seekers_given v p os s.roots s.owners k.roots) k
given_probed v p os (Refused c) s k = k
given_probed v p os (Here i) s k =
    let q : List Work = candidates_of p (seekers p os s.roots s.owners) in
    given_later v (cond (is_of_directory i) q []) s k (λ w m. perhaps_given (is_of_directory i) v q w (each_candidate_given v p (seekers p os s.roots s.owners) (seekers_given v p os s.roots s.owners k.roots) w) m)
given_probed v p os (Entries cs) s k = k

given_item : (v : List Root) (i : Item) (e : Evidence) (s : RecursorState) → IsItemOf v i → GivenOf v s → GivenOf v (acted_item i e s)
given_item v (Guard r) e s h k = given_guarded v r e.guard_found e s h k
given_item v (Visit r) e s h k = given_visited v r e.found e s h k
given_item v (Scan r p) e s h k = given_scanned v r p e.found s h k
given_item v (Candidate r p) e s h k = given_tried v r p e.found e s h k

given_work : (v : List Root) (w : Work) (e : Evidence) (s : RecursorState) → IsWorkOf v w → GivenOf v s → GivenOf v (acted w e s)
given_work v (Plain i) e s h k = given_item v i e s h k
given_work v (Probe p os) e s h k = given_probed v p os e.found s k

given_first : (v : List Root) (q : List Work) (e : Evidence) (s : RecursorState) → s.queue ≡ q → GivenOf v s → GivenOf v (stepped_at q e s)
given_first v [] e s h k = given_fewer v (λ o. o.seen) s k
given_first v (w ∷ q) e s h k =
    let all : (x : Work) → In x (w ∷ q) → IsWorkOf v x = subst (λ y. (x : Work) → In x y → IsWorkOf v x) h k.queue in
    given_work v w e (record s { queue = q }) (all w (inl refl)) (record { roots = k.roots; owners = k.owners; guards = k.guards; queue = λ x m. all x (inr m); retries = k.retries })

pub step_given : (v : List Root) (e : Evidence) (s : RecursorState) → GivenOf v s → GivenOf v (stepped e s)
step_given v e s k =
    let u : RecursorState = stepped_at s.queue e s in
    subst (λ c. AreGiven v c) (sym (rooted_unwatch (idle_registrations (still_known u.owners u.known) u.guards u.registrations) e.releases u)) (given_first v s.queue e s refl k)

-- the calls between

queued_guards_given : (v : List Root) (gs : List GuardWatch) → ((g : GuardWatch) → In g gs → In g.root v) → (w : Work) → In w (queued_guards gs) → IsWorkOf v w
queued_guards_given v [] h w m = absurd m
queued_guards_given v (g ∷ gs) h w (inl e) = subst (λ y. IsWorkOf v y) e (h g (inl refl))
queued_guards_given v (g ∷ gs) h w (inr m) = queued_guards_given v gs (λ x n. h x (inr n)) w m

queued_roots_given : (v : List Root) (rs : List Root) → ((r : Root) → In r rs → In r v) → (w : Work) → In w (queued_roots rs) → IsWorkOf v w
queued_roots_given v [] h w m = absurd m
queued_roots_given v (r ∷ rs) h w (inl e) = subst (λ y. IsWorkOf v y) e (h r (inl refl))
queued_roots_given v (r ∷ rs) h w (inr m) = queued_roots_given v rs (λ x n. h x (inr n)) w m

retried_given : (v : List Root) (x : Retry) → In x.root v → IsWorkOf v (retried x)
retried_given v x h = elim (same x.root.path x.path) as (λ b. IsWorkOf v (cond b (Plain (Visit x.root)) (Plain (Candidate x.root x.path)))) [ true ↦ h | false ↦ h ]

queued_retries_given : (v : List Root) (rs : List Root) (xs : List Retry) → ((x : Retry) → In x xs → In x.root v) → (w : Work) → In w (queued_retries rs xs) → IsWorkOf v w
queued_retries_given v rs [] h w m = absurd m
queued_retries_given v rs (x ∷ xs) h w m = work_or (has_root x.root rs) v (retried x) (queued_retries rs xs) w (retried_given v x (h x (inl refl))) (queued_retries_given v rs xs (λ y n. h y (inr n)) w) m

pub reconcile_given : (rs : List Root) (n : ℕ) (v : List Root) (s : RecursorState) → GivenOf v s → GivenOf (rs ++ v) (reconciled rs n s)
reconcile_given rs n v s k =
    let new : (r : Root) → In r rs → In r (rs ++ v) = λ r m. In-left r rs v m in
    let old : (r : Root) → In r v → In r (rs ++ v) = λ r m. In-right r rs v m in
    let guards : (g : GuardWatch) → In g (kept_guard_watches rs s.guards) → In g.root (rs ++ v) = λ g m. (let a = In-filter (λ (g : GuardWatch). has_root g.root rs) g s.guards m in old g.root (k.guards g a.0)) in
    record {
      roots = new;
      owners = λ o m. (let a = unseen_from o s.owners m in subst (λ r. In r (rs ++ v)) a.2 (old a.0.root (k.owners a.0 a.1)));
      guards = guards;
      queue = λ w m. elim (In-cases w (queued_guards (kept_guard_watches rs s.guards)) (queued_retries rs s.retries ++ queued_roots rs) m) [
        | inl a ↦ queued_guards_given (rs ++ v) (kept_guard_watches rs s.guards) guards w a
        | inr a ↦ elim (In-cases w (queued_retries rs s.retries) (queued_roots rs) a) [
          | inl b ↦ queued_retries_given (rs ++ v) rs s.retries (λ x n. old x.root (k.retries x n)) w b
          | inr b ↦ queued_roots_given (rs ++ v) rs new w b
        ]
      ];
      retries = λ x m. absurd m;
    }

work_wider : (v u : List Root) → ((r : Root) → In r v → In r u) → (w : Work) → IsWorkOf v w → IsWorkOf u w
work_wider v u sub (Plain (Guard r)) h = sub r h
work_wider v u sub (Plain (Visit r)) h = sub r h
work_wider v u sub (Plain (Scan r p)) h = sub r h
work_wider v u sub (Plain (Candidate r p)) h = sub r h
work_wider v u sub (Probe p os) h = λ r m. sub r (h r m)

given_wider : (v u : List Root) (s : RecursorState) → ((r : Root) → In r v → In r u) → GivenOf v s → GivenOf u s
given_wider v u s sub k = record {
  roots = λ r m. sub r (k.roots r m);
  owners = λ o m. sub o.root (k.owners o m);
  guards = λ g m. sub g.root (k.guards g m);
  queue = λ w m. work_wider v u sub w (k.queue w m);
  retries = λ x m. sub x.root (k.retries x m);
}

-- the roots that stand were given before
pub rescan_given : (v : List Root) (s : RecursorState) → GivenOf v s → GivenOf v (rescanned s)
rescan_given v s k = given_wider (s.roots ++ v) v (reconciled s.roots s.filter s) (λ r m. elim (In-cases r s.roots v m) [ inl a ↦ k.roots r a | inr b ↦ b ]) (reconcile_given s.roots s.filter v s k)

guards_below_given : (v : List Root) (p : Path) (gs : List GuardWatch) → ((g : GuardWatch) → In g gs → In g.root v) → (w : Work) → In w (guards_below p gs) → IsWorkOf v w
guards_below_given v p [] h w m = absurd m
guards_below_given v p (g ∷ gs) h w m = work_or (holds p g.root.path) v (Plain (Guard g.root)) (guards_below p gs) w (h g (inl refl)) (guards_below_given v p gs (λ x n. h x (inr n)) w) m

resets_given : (v : List Root) (p : Path) (rs : List Root) → ((r : Root) → In r rs → In r v) → (w : Work) → In w (guards_of_roots_below p rs) → IsWorkOf v w
resets_given v p [] h w m = absurd m
resets_given v p (r ∷ rs) h w m = work_or (holds p r.path) v (Plain (Guard r)) (guards_of_roots_below p rs) w (h r (inl refl)) (resets_given v p rs (λ x n. h x (inr n)) w) m

roots_below_given : (v : List Root) (p : Path) (rs : List Root) → ((r : Root) → In r rs → In r v) → (w : Work) → In w (roots_below p rs) → IsWorkOf v w
roots_below_given v p [] h w m = absurd m
roots_below_given v p (r ∷ rs) h w m = work_or (holds p r.path) v (Plain (Visit r)) (roots_below p rs) w (h r (inl refl)) (roots_below_given v p rs (λ x n. h x (inr n)) w) m

given_stirred : (v : List Root) (p : Path) (s : RecursorState) → GivenOf v s → GivenOf v (stirred p s)
given_stirred v p s k = given_later v (guards_below p s.guards ++ roots_below p s.roots) (cleared_below p (tombstones_lifted p s)) (given_fewer v (λ o. not (holds p o.path)) s k)
    (λ w m. elim (In-cases w (guards_below p s.guards) (roots_below p s.roots) m) [ inl a ↦ guards_below_given v p s.guards k.guards w a | inr a ↦ roots_below_given v p s.roots k.roots w a ])

given_created : (v : List Root) (p : Path) (s : RecursorState) → GivenOf v s → GivenOf v (created_one p s)
given_created v p s k = given_later v (candidates_of p (owners_above p s)) (stirred p s) (given_stirred v p s k)
    (each_candidate_given v p (owners_above p s) (λ r m. let a = In-filter (λ r. r.recursive && owns_parent r p s.owners) r s.roots m in k.roots r a.0))

given_removed : (v : List Root) (p : Path) (s : RecursorState) → GivenOf v s → GivenOf v (removed_one p s)
given_removed v p s k = given_later v (guards_of_roots_below p s.roots) (cleared_below p (record s { tombstones = s.tombstones ++ p ∷ [] })) (given_fewer v (λ o. not (holds p o.path)) s k) (resets_given v p s.roots k.roots)

owners_given : (v : List Root) (p : Path) (os : List Owner) → ((o : Owner) → In o os → In o.root v) → (r : Root) → In r (owners_at p os) → In r v
owners_given v p [] h r m = absurd m
owners_given v p (o ∷ os) h r m =
    elim (cases_Bool (same o.path p)) [
      | inl a ↦ elim (let x : In r (o.root ∷ owners_at p os) = rw a at m in x) [
        | inl e ↦ subst (λ y. In y v) e (h o (inl refl))
        | inr n ↦ owners_given v p os (λ y q. h y (inr q)) r n
      ]
      | inr a ↦ owners_given v p os (λ y q. h y (inr q)) r (rw a at m)
    ]

given_unsure : (v : List Root) (p : Path) (s : RecursorState) → GivenOf v s → GivenOf v (unsure_one p s)
given_unsure v p s k = given_later v (Probe p (owners_at p s.owners) ∷ []) (stirred p s) (given_stirred v p s k) (λ w m. one_given v (Probe p (owners_at p s.owners)) w (owners_given v p s.owners k.owners) m)

each_given : (v : List Root) (f : Path → RecursorState → RecursorState) (ps : List Path) (s : RecursorState) → ((p : Path) (x : RecursorState) → GivenOf v x → GivenOf v (f p x)) → GivenOf v s → GivenOf v (for_each f ps s)
each_given v f [] s keep k = k
each_given v f (p ∷ ps) s keep k = each_given v f ps (f p s) keep (keep p s k)

pub created_given : (v : List Root) (p : Path) (s : RecursorState) → GivenOf v s → GivenOf v (created p s)
created_given v p s k = each_given v created_one (aliases p s) s (given_created v) k

pub removed_given : (v : List Root) (p : Path) (s : RecursorState) → GivenOf v s → GivenOf v (removed p s)
removed_given v p s k = each_given v removed_one (aliases p s) s (given_removed v) k

pub unsure_given : (v : List Root) (p : Path) (s : RecursorState) → GivenOf v s → GivenOf v (unsure p s)
unsure_given v p s k = each_given v unsure_one (aliases p s) s (given_unsure v) k

pub renamed_given : (v : List Root) (p q : Path) (s : RecursorState) → GivenOf v s → GivenOf v (renamed p q s)
renamed_given v p q s k = each_given v created_one (aliases q s) (for_each removed_one (aliases p s ++ aliases q s) s) (given_created v) (each_given v removed_one (aliases p s ++ aliases q s) s (given_removed v) k)

-- a rebuild

pub prepared_given : (v : List Root) (s : RecursorState) → GivenOf v s → GivenOf v (prepared s)
prepared_given v s k = record {
  roots = k.roots;
  owners = λ o m. (let a = In-filter _ o s.owners m in k.owners o a.0);
  guards = λ g m. (let a = In-filter _ g (guards_to_replay s) m in let b = In-filter (λ (g : GuardWatch). not (is_left_out s g.path)) g s.guards a.0 in k.guards g b.0);
  queue = k.queue;
  retries = k.retries;
}

given_gone : (v : List Root) (g : Known) (s : RecursorState) → GivenOf v s → GivenOf v (waits_by_alias g (path_gone g.path s))
given_gone v g s k = record {
  roots = k.roots;
  owners = λ o m. (let a = In-filter (λ (o : Owner). not (holds g.path o.path)) o s.owners m in k.owners o a.0);
  guards = λ x m. (let a = In-filter (λ (x : GuardWatch). not (same x.path g.path)) x s.guards m in k.guards x a.0);
  queue = λ w m. elim (In-cases w s.queue (guards_of_roots_below g.path s.roots) m) [ inl b ↦ k.queue w b | inr b ↦ resets_given v g.path s.roots k.roots w b ];
  retries = k.retries;
}

given_either : (v : List Root) (b : Bool) (x y : RecursorState) → GivenOf v x → GivenOf v y → GivenOf v (cond b x y)
given_either v true x y k l = k
given_either v false x y k l = l

given_replayed : (v : List Root) (g : Known) (w : Watched) (s : RecursorState) → GivenOf v s → GivenOf v (replayed_one g w s)
given_replayed v g (Kept look) s k = k
given_replayed v g (Failed f) s k =
    let stopped : GivenOf v (stop f s) = subst (λ c. AreGiven v c) (sym (cond_rooted s.stopped _ _ s refl refl)) k in
    let failed : GivenOf v (failed_watch g.path f s) = subst (λ c. AreGiven v c) (sym (cond_rooted (has_path g.path s.failed) _ _ s refl refl)) k in
    given_either v (is_path_gone f) _ _ (given_gone v g (show (PathAdd g.path f) s) k) (given_either v (is_resource_fault f) _ _ stopped (given_either v (has_path g.path s.failed) _ _ failed failed))

given_all_replayed : (v : List Root) (gs : List Known) (ws : List Watched) (s : RecursorState) → GivenOf v s → GivenOf v (replayed_all gs ws s)
given_all_replayed v [] ws s k = k
given_all_replayed v (g ∷ gs) [] s k = k
given_all_replayed v (g ∷ gs) (w ∷ ws) s k = given_either v (is_replay_over s) _ _ k (given_all_replayed v gs ws (replayed_one g w s) (given_replayed v g w s k))

pub replayed_given : (v : List Root) (ws : List Watched) (s : RecursorState) → GivenOf v s → GivenOf v (replayed ws s)
replayed_given v ws s k =
    let u : RecursorState = replayed_all s.waiting ws (record s { waiting = [] }) in
    let a : GivenOf v u = given_all_replayed v s.waiting ws (record s { waiting = [] }) k in
    record {
      roots = a.roots;
      owners = λ o m. (let b = In-filter _ o u.owners m in a.owners o b.0);
      guards = λ g m. (let b = In-filter _ g u.guards m in a.guards g b.0);
      queue = a.queue;
      retries = a.retries;
    }
