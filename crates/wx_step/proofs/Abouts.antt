-- Each call keeps that what is queued and guarded is about the roots of the last reconcile.
use Rattle.std.proofs.Common.{◌≡◌, ℕ, Bool, true, false, cond, List, [], ◌∷◌, ◌++◌, refl, sym, ◌∙◌, inl, inr, subst}
use Rattle.std.specs.Prelude.{◌&&◌, not, Option, Some, None, filter}
use Rattle.std.proofs.lemmas.Bool.{and_parts, or_cases}
use Rattle.wx_watch.specs.declared.notify_fault.NotifyFault.{NotifyFault}
use Rattle.wx_tree.specs.Lists.{In}
use Rattle.wx_tree.specs.Paths.{Path, has_entry, holds, holds_below, same}
use Rattle.wx_tree.specs.Roots.{same_root}
use Rattle.wx_tree.specs.declared.root.Root.{Root}
use Rattle.wx_tree.proofs.ListLemmas.{In-cases, In-filter}
use Rattle.wx_tree.proofs.PathLemmas.{holds-refl, same-true}
use Rattle.wx_recursor.specs.declared.answers.AddResult.{AddResult}
use Rattle.wx_recursor.specs.declared.answers.AddResult.TheVariants.{LeftOut, Stands, TryAgain, Vanished}
use Rattle.wx_recursor.specs.declared.answers.Found.{Found}
use Rattle.wx_recursor.specs.declared.answers.Found.TheVariants.{Barred, Entries, Fault, Here, Missing, Refused, Rejected}
use Rattle.wx_recursor.specs.declared.answers.GuardFound.{GuardFound}
use Rattle.wx_recursor.specs.declared.answers.GuardFound.TheVariants.{At, Faulty, Nowhere}
use Rattle.wx_recursor.specs.declared.answers.Watched.{Watched}
use Rattle.wx_recursor.specs.declared.answers.Watched.TheVariants.{Failed, Kept}
use Rattle.wx_recursor.specs.declared.errors.ScanFault.TheVariants.{Io, NotFound}
use Rattle.wx_recursor.specs.declared.errors.ShownError.TheVariants.{Filter, PathAdd, PathScan}
use Rattle.wx_recursor.specs.declared.known.Identity.{Identity}
use Rattle.wx_recursor.specs.declared.known.Known.{Known}
use Rattle.wx_recursor.specs.declared.owner.GuardWatch.{GuardWatch}
use Rattle.wx_recursor.specs.declared.owner.Owner.{Owner}
use Rattle.wx_recursor.specs.declared.work.Item.{Item}
use Rattle.wx_recursor.specs.declared.work.Item.TheVariants.{Candidate, Guard, Scan, Visit}
use Rattle.wx_recursor.specs.declared.work.Retry.{Retry}
use Rattle.wx_recursor.specs.declared.work.Work.{Work}
use Rattle.wx_recursor.specs.declared.work.Work.TheVariants.{Plain, Probe}
use Rattle.wx_recursor.specs.States.{Evidence, RecursorState}
use Rattle.wx_recursor.specs.Identities.{has_identity, is_of_directory, is_path_gone, refusal}
use Rattle.wx_recursor.specs.Owners.{candidates, has_path, has_root}
use Rattle.wx_recursor.specs.Holding.{enqueue, guards_at, has_met, has_retry, keep_retry, lose, scan_once, show, still_known, take_over}
use Rattle.wx_recursor.specs.Owning.{added, added_result, answered, changed, failed_watch, is_held_back, is_known_otherwise, is_resource_fault, is_still, owned, refused, stop, taken, unwatched}
use Rattle.wx_recursor.specs.Guarding.{guard_placed, guard_set, guarded_at, guards_of_others, unguarded}
use Rattle.wx_recursor.specs.Steps.{acted, acted_item, candidates_of, idle_registrations, owns_parent, plain_items, probed, refound, retry_all, scanned, seekers, stepped, stepped_at, tried, unwatch_each, visited}
use Rattle.wx_recursor.specs.Calls.{aliases, cleared_below, created, created_one, for_each, guards_below, guards_of_roots_below, kept_guard_watches, owners_above, owners_at, queued_guards, queued_retries, queued_roots, reconciled, removed, removed_one, renamed, rescanned, retried, roots_below, stirred, tombstones_lifted, unsure, unsure_one}
use Rattle.wx_recursor.specs.Rebuilds.{guards_to_replay, is_left_out, is_replay_over, path_gone, prepared, replayed, replayed_all, replayed_one, waits_by_alias}
use Rattle.wx_recursor.specs.Sound.{AreCovered, FitsItem, FitsWork, IsItemOf, parts}
use Rattle.wx_recursor.proofs.Coverage.{has_root_in}
use Rattle.wx_recursor.proofs.GivenRoots.{others_given, seekers_given}
use Rattle.wx_step.specs.Asking.{AreAllowed, FirstAsksBelow, ItemAsksBelow, WorkAsksBelow}
use Rattle.wx_step.specs.Current.{AreAbout, IsWorkAbout, current}

cond_current : (b : Bool) (x y s : RecursorState) → current x ≡ current s → current y ≡ current s → current (cond b x y) ≡ current s
cond_current true x y s e f = e
cond_current false x y s e f = f

current_refused : (p : Path) (f : NotifyFault) (s : RecursorState) → current (refused p f s) ≡ current s
current_refused p f s = cond_current (is_path_gone f) _ _ s refl (cond_current (is_resource_fault f) _ _ s (cond_current s.stopped _ _ s refl refl) (cond_current (has_path p s.failed) _ _ s refl refl))

current_unwatched : (p : Path) (u : Option NotifyFault) (s : RecursorState) → current (unwatched p u s) ≡ current s
current_unwatched p None s = refl
current_unwatched p (Some f) s = refl

current_answered : (p : Path) (i : Identity) (w : Watched) (u : Option NotifyFault) (s : RecursorState) → current (answered p i w u s) ≡ current s
current_answered p i (Failed f) u s = current_refused p f s
current_answered p i (Kept look) u s = cond_current (is_still p i look) _ _ s refl (current_unwatched p (refusal u) (show (PathScan p (changed i look)) s))

current_added : (p : Path) (i : Identity) (w : Watched) (u : Option NotifyFault) (s : RecursorState) → current (added p i w u s) ≡ current s
current_added p i w u s = cond_current (is_known_otherwise p i s) _ _ s refl (cond_current (has_identity i s.registrations) _ _ s refl (cond_current (is_held_back p s) _ _ s refl (current_answered p i w u s)))

current_unwatch : (gs : List Known) (us : List (Option NotifyFault)) (s : RecursorState) → current (unwatch_each gs us s) ≡ current s
current_unwatch [] us s = refl
current_unwatch (g ∷ gs) [] s = refl
current_unwatch (g ∷ gs) (u ∷ us) s = current_unwatch gs us (unwatched g.path (refusal u) s) ∙ current_unwatched g.path (refusal u) s

abbrev pub AboutOf : List Root → RecursorState → Type 0
AboutOf v s = AreAbout v (current s)

-- more in the queue, fewer owners

about_later : (v : List Root) (q : List Work) (s : RecursorState) → AboutOf v s → ((w : Work) → In w q → IsWorkAbout v w) → AboutOf v (enqueue q s)
about_later v q s k more = record { roots = k.roots; stand = k.stand; guards = k.guards; queue = λ w m. elim (In-cases w s.queue q m) [ inl a ↦ k.queue w a | inr b ↦ more w b ] }

about_fewer : (v : List Root) (f : Owner → Bool) (s : RecursorState) → AboutOf v s → AboutOf v (record s { owners = filter f s.owners })
about_fewer v f s k = k

about_lose : (v : List Root) (r : Root) (p : Path) (s : RecursorState) → AboutOf v s → AboutOf v (lose r p s)
about_lose v r p s k = about_fewer v (λ o. not (same_root r o.root && holds p o.path)) s k

about_retry : (v : List Root) (r : Root) (p : Path) (s : RecursorState) → In r v → AboutOf v s → AboutOf v (keep_retry r p s)
about_retry v r p s h k =
    elim (has_retry r p s.retries) as (λ b. AboutOf v (cond b s (record s { retries = s.retries ++ record { root = r; path = p } ∷ [] }))) [
      | true ↦ k
      | false ↦ k
    ]

one_about : (v : List Root) (x w : Work) → IsWorkAbout v x → In w (x ∷ []) → IsWorkAbout v w
one_about v x w h (inl e) = subst (λ y. IsWorkAbout v y) e h
one_about v x w h (inr m) = absurd m

perhaps_about : (b : Bool) (v : List Root) (q : List Work) (w : Work) → (In w q → IsWorkAbout v w) → In w (cond b q []) → IsWorkAbout v w
perhaps_about true v q w k m = k m
perhaps_about false v q w k m = absurd m

scan_about : (b c : Bool) (v : List Root) (r : Root) (p : Path) → In r v → (w : Work) → In w (cond c (cond b [] (Plain (Scan r p) ∷ [])) []) → IsWorkAbout v w
scan_about true true v r p h w m = absurd m
scan_about false true v r p h w m = one_about v (Plain (Scan r p)) w h m
scan_about b false v r p h w m = absurd m

work_or : (b : Bool) (v : List Root) (x : Work) (q : List Work) (w : Work) → IsWorkAbout v x → (In w q → IsWorkAbout v w) → In w (cond b (x ∷ q) q) → IsWorkAbout v w
work_or true v x q w f k (inl e) = subst (λ y. IsWorkAbout v y) e f
work_or true v x q w f k (inr m) = k m
work_or false v x q w f k m = k m

guards_at_about : (v : List Root) (p : Path) (rs : List Root) → ((r : Root) → In r rs → In r v) → (w : Work) → In w (guards_at p rs) → IsWorkAbout v w
guards_at_about v p [] h w m = absurd m
guards_at_about v p (r ∷ rs) h w m = work_or (same r.path p) v (Plain (Guard r)) (guards_at p rs) w (h r (inl refl)) (guards_at_about v p rs (λ x n. h x (inr n)) w) m

about_taken : (v : List Root) (r : Root) (p : Path) (i : Identity) (scans : Bool) (item : Work) (e : AddResult) (s : RecursorState) → In r v → IsWorkAbout v item → AboutOf v s → AboutOf v (taken r p i scans item e s)
about_taken v r p i scans item Stands s h fits k =
    about_later v (cond scans (scan_once r p i s) []) (take_over r p i s) k (scan_about (has_met r i s.known s.owners) scans v r p h)
about_taken v r p i scans item Vanished s h fits k = about_later v (guards_at p s.roots) (lose r p s) (about_lose v r p s k) (guards_at_about v p s.roots k.roots)
about_taken v r p i scans item TryAgain s h fits k = about_later v (item ∷ []) s k (λ w m. one_about v item w fits m)
about_taken v r p i scans item LeftOut s h fits k = k

about_owned : (v : List Root) (r : Root) (p : Path) (i : Identity) (scans : Bool) (item : Work) (w : Watched) (u : Option NotifyFault) (s : RecursorState) → In r v → IsWorkAbout v item → AboutOf v s → AboutOf v (owned r p i scans item w u s)
about_owned v r p i scans item w u s h fits k = about_taken v r p i scans item (added_result p i w s) (added p i w u s) h fits (subst (λ c. AreAbout v c) (sym (current_added p i w u s)) k)

-- guards

about_unguarded : (v : List Root) (r : Root) (s : RecursorState) → AboutOf v s → AboutOf v (unguarded r s)
about_unguarded v r s k = record { roots = k.roots; stand = k.stand; guards = others_given v r s.guards k.guards; queue = k.queue }

about_set : (v : List Root) (r : Root) (p : Path) (i : Identity) (s : RecursorState) → In r v → AboutOf v s → AboutOf v (guard_set r p i s)
about_set v r p i s h k = record {
  roots = k.roots;
  stand = k.stand;
  guards = λ g m. elim (In-cases g (guards_of_others r s.guards) (record { root = r; path = p; identity = i } ∷ []) m) [
    | inl a ↦ others_given v r s.guards k.guards g a
    | inr b ↦ elim b [ inl e ↦ subst (λ y. In y.root v) e h | inr c ↦ absurd c ]
  ];
  queue = k.queue;
}

again_about : (b : Bool) (v : List Root) (r : Root) → In r v → (w : Work) → In w (cond b (Plain (Visit r) ∷ []) []) → IsWorkAbout v w
again_about b v r h w m = perhaps_about b v (Plain (Visit r) ∷ []) w (one_about v (Plain (Visit r)) w h) m

about_placed : (v : List Root) (r : Root) (p : Path) (i : Identity) (safe : Bool) (e : AddResult) (s : RecursorState) → In r v → AboutOf v s → AboutOf v (guard_placed r p i safe e s)
about_placed v r p i safe Stands s h k = about_later v (cond safe (Plain (Visit r) ∷ []) []) (guard_set r p i s) (about_set v r p i s h k) (again_about safe v r h)
about_placed v r p i safe Vanished s h k = about_retry v r r.path s h k
about_placed v r p i safe TryAgain s h k = about_later v (Plain (Guard r) ∷ []) s k (λ w m. one_about v (Plain (Guard r)) w h m)
about_placed v r p i safe LeftOut s h k = k

about_guarded : (v : List Root) (r : Root) (g : GuardFound) (e : Evidence) (s : RecursorState) → In r v → AboutOf v s → AboutOf v (guarded_at r g e s)
about_guarded v r Nowhere e s h k = about_later v (cond e.root_is_safe (Plain (Visit r) ∷ []) []) (unguarded r s) (about_unguarded v r s k) (again_about e.root_is_safe v r h)
about_guarded v r (Faulty p c) e s h k = about_retry v r r.path (show (PathScan p (Io c)) s) h k
about_guarded v r (At p i) e s h k = about_placed v r p i e.root_is_safe (added_result p i e.watched s) (added p i e.watched e.undone s) h (subst (λ c. AreAbout v c) (sym (current_added p i e.watched e.undone s)) k)

-- items

about_visited : (v : List Root) (r : Root) (f : Found) (e : Evidence) (s : RecursorState) → In r v → AboutOf v s → AboutOf v (visited r f e s)
about_visited v r Missing e s h k = about_guarded v r e.guard_found e (lose r r.path (show (PathScan r.path NotFound) s)) h (about_lose v r r.path (show (PathScan r.path NotFound) s) k)
about_visited v r Barred e s h k = about_guarded v r e.guard_found e (lose r r.path s) h (about_lose v r r.path s k)
about_visited v r Rejected e s h k = k
about_visited v r (Fault p c) e s h k = about_guarded v r e.guard_found e (keep_retry r r.path (show (PathScan p (Io c)) s)) h (about_retry v r r.path (show (PathScan p (Io c)) s) h k)
about_visited v r (Refused c) e s h k = k
about_visited v r (Here i) e s h k = about_owned v r r.path i (r.recursive && is_of_directory i) (Plain (Visit r)) e.watched e.undone (unguarded r (refound r s)) h h (about_unguarded v r (refound r s) k)
about_visited v r (Entries cs) e s h k = k

candidates_about : (v : List Root) (r : Root) (cs : List Path) → In r v → (w : Work) → In w (plain_items (candidates r cs)) → IsWorkAbout v w
candidates_about v r [] h w m = absurd m
candidates_about v r (c ∷ cs) h w (inl e) = subst (λ y. IsWorkAbout v y) e h
candidates_about v r (c ∷ cs) h w (inr m) = candidates_about v r cs h w m

about_scanned : (v : List Root) (r : Root) (p : Path) (f : Found) (s : RecursorState) → In r v → AboutOf v s → AboutOf v (scanned r p f s)
about_scanned v r p Missing s h k = about_fewer v (λ o. not (same_root r o.root && holds_below p o.path)) (show (PathScan p NotFound) s) k
about_scanned v r p Barred s h k = k
about_scanned v r p Rejected s h k = k
about_scanned v r p (Fault q c) s h k = about_retry v r p (show (PathScan q (Io c)) s) h k
about_scanned v r p (Refused c) s h k = k
about_scanned v r p (Here i) s h k = k
about_scanned v r p (Entries cs) s h k = about_later v (plain_items (candidates r (filter (has_entry p) cs))) s k (candidates_about v r (filter (has_entry p) cs) h)

about_tried : (v : List Root) (r : Root) (p : Path) (f : Found) (e : Evidence) (s : RecursorState) → In r v → AboutOf v s → AboutOf v (tried r p f e s)
about_tried v r p Missing e s h k = about_later v (guards_at p s.roots) (lose r p (show (PathScan p NotFound) s)) (about_lose v r p (show (PathScan p NotFound) s) k) (guards_at_about v p s.roots k.roots)
about_tried v r p Barred e s h k = about_lose v r p s k
about_tried v r p Rejected e s h k = about_lose v r p s k
about_tried v r p (Fault q c) e s h k = about_retry v r p (show (PathScan q (Io c)) s) h k
about_tried v r p (Refused c) e s h k = about_retry v r p (show (Filter c) s) h k
about_tried v r p (Here i) e s h k = about_owned v r p i true (Plain (Candidate r p)) e.watched e.undone s h h k
about_tried v r p (Entries cs) e s h k = k

each_candidate_about : (v : List Root) (p : Path) (rs : List Root) → ((r : Root) → In r rs → In r v) → (w : Work) → In w (candidates_of p rs) → IsWorkAbout v w
each_candidate_about v p [] h w m = absurd m
each_candidate_about v p (r ∷ rs) h w (inl e) = subst (λ y. IsWorkAbout v y) e (h r (inl refl))
each_candidate_about v p (r ∷ rs) h w (inr m) = each_candidate_about v p rs (λ x n. h x (inr n)) w m

retries_about : (v : List Root) (p : Path) (rs : List Root) (s : RecursorState) → ((r : Root) → In r rs → In r v) → AboutOf v s → AboutOf v (retry_all p rs s)
retries_about v p [] s h k = k
retries_about v p (r ∷ rs) s h k = retries_about v p rs (keep_retry r p s) (λ x m. h x (inr m)) (about_retry v r p s (h r (inl refl)) k)

about_probed : (v : List Root) (p : Path) (os : List Root) (f : Found) (s : RecursorState) → AboutOf v s → AboutOf v (probed p os f s)
about_probed v p os Missing s k = k
about_probed v p os Barred s k = k
about_probed v p os Rejected s k = k
about_probed v p os (Fault q c) s k = retries_about v p (seekers p os s.roots s.owners) (show (PathScan q (Io c)) s) (seekers_given v p os s.roots s.owners k.roots) k
about_probed v p os (Refused c) s k = k
about_probed v p os (Here i) s k =
    let q : List Work = candidates_of p (seekers p os s.roots s.owners) in
    about_later v (cond (is_of_directory i) q []) s k (λ w m. perhaps_about (is_of_directory i) v q w (each_candidate_about v p (seekers p os s.roots s.owners) (seekers_given v p os s.roots s.owners k.roots) w) m)
about_probed v p os (Entries cs) s k = k

about_item : (v : List Root) (i : Item) (e : Evidence) (s : RecursorState) → IsItemOf v i → AboutOf v s → AboutOf v (acted_item i e s)
about_item v (Guard r) e s h k = about_guarded v r e.guard_found e s h k
about_item v (Visit r) e s h k = about_visited v r e.found e s h k
about_item v (Scan r p) e s h k = about_scanned v r p e.found s h k
about_item v (Candidate r p) e s h k = about_tried v r p e.found e s h k

about_work : (v : List Root) (w : Work) (e : Evidence) (s : RecursorState) → IsWorkAbout v w → AboutOf v s → AboutOf v (acted w e s)
about_work v (Plain i) e s h k = about_item v i e s h k
about_work v (Probe p os) e s h k = about_probed v p os e.found s k

about_first : (v : List Root) (q : List Work) (e : Evidence) (s : RecursorState) → s.queue ≡ q → AboutOf v s → AboutOf v (stepped_at q e s)
about_first v [] e s h k = about_fewer v (λ o. o.seen) s k
about_first v (w ∷ q) e s h k =
    let all : (x : Work) → In x (w ∷ q) → IsWorkAbout v x = subst (λ y. (x : Work) → In x y → IsWorkAbout v x) h k.queue in
    about_work v w e (record s { queue = q }) (all w (inl refl)) (record { roots = k.roots; stand = k.stand; guards = k.guards; queue = λ x m. all x (inr m) })

pub step_about : (v : List Root) (e : Evidence) (s : RecursorState) → AboutOf v s → AboutOf v (stepped e s)
step_about v e s k =
    let u : RecursorState = stepped_at s.queue e s in
    subst (λ c. AreAbout v c) (sym (current_unwatch (idle_registrations (still_known u.owners u.known) u.guards u.registrations) e.releases u)) (about_first v s.queue e s refl k)

-- the calls between

queued_guards_about : (v : List Root) (gs : List GuardWatch) → ((g : GuardWatch) → In g gs → In g.root v) → (w : Work) → In w (queued_guards gs) → IsWorkAbout v w
queued_guards_about v [] h w m = absurd m
queued_guards_about v (g ∷ gs) h w (inl e) = subst (λ y. IsWorkAbout v y) e (h g (inl refl))
queued_guards_about v (g ∷ gs) h w (inr m) = queued_guards_about v gs (λ x n. h x (inr n)) w m

queued_roots_about : (v : List Root) (rs : List Root) → ((r : Root) → In r rs → In r v) → (w : Work) → In w (queued_roots rs) → IsWorkAbout v w
queued_roots_about v [] h w m = absurd m
queued_roots_about v (r ∷ rs) h w (inl e) = subst (λ y. IsWorkAbout v y) e (h r (inl refl))
queued_roots_about v (r ∷ rs) h w (inr m) = queued_roots_about v rs (λ x n. h x (inr n)) w m

retried_about : (v : List Root) (x : Retry) → In x.root v → IsWorkAbout v (retried x)
retried_about v x h = elim (same x.root.path x.path) as (λ b. IsWorkAbout v (cond b (Plain (Visit x.root)) (Plain (Candidate x.root x.path)))) [ true ↦ h | false ↦ h ]

-- a root that is found among these is one of them
queued_retries_about : (rs : List Root) (xs : List Retry) (w : Work) → In w (queued_retries rs xs) → IsWorkAbout rs w
queued_retries_about rs [] w m = absurd m
queued_retries_about rs (x ∷ xs) w m = go (has_root x.root rs) refl (queued_retries_about rs xs w) m
  where
    go : (b : Bool) → has_root x.root rs ≡ b → (In w (queued_retries rs xs) → IsWorkAbout rs w) → In w (cond b (retried x ∷ queued_retries rs xs) (queued_retries rs xs)) → IsWorkAbout rs w
    go true e k (inl f) = subst (λ y. IsWorkAbout rs y) f (retried_about rs x (has_root_in x.root rs e))
    go true e k (inr n) = k n
    go false e k n = k n

pub reconcile_about : (rs : List Root) (n : ℕ) (s : RecursorState) → AboutOf rs (reconciled rs n s)
reconcile_about rs n s =
    let guards : (g : GuardWatch) → In g (kept_guard_watches rs s.guards) → In g.root rs = λ g m. (let a = In-filter (λ (g : GuardWatch). has_root g.root rs) g s.guards m in has_root_in g.root rs a.1) in
    record {
      roots = λ r m. m;
      stand = λ r m. m;
      guards = guards;
      queue = λ w m. elim (In-cases w (queued_guards (kept_guard_watches rs s.guards)) (queued_retries rs s.retries ++ queued_roots rs) m) [
        | inl a ↦ queued_guards_about rs (kept_guard_watches rs s.guards) guards w a
        | inr a ↦ elim (In-cases w (queued_retries rs s.retries) (queued_roots rs) a) [
          | inl b ↦ queued_retries_about rs s.retries w b
          | inr b ↦ queued_roots_about rs rs (λ r q. q) w b
        ]
      ];
    }

work_wider_item : (v u : List Root) → ((r : Root) → In r v → In r u) → (i : Item) → IsItemOf v i → IsItemOf u i
work_wider_item v u sub (Guard r) h = sub r h
work_wider_item v u sub (Visit r) h = sub r h
work_wider_item v u sub (Scan r p) h = sub r h
work_wider_item v u sub (Candidate r p) h = sub r h

work_wider : (v u : List Root) → ((r : Root) → In r v → In r u) → (w : Work) → IsWorkAbout v w → IsWorkAbout u w
work_wider v u sub (Plain i) h = work_wider_item v u sub i h
work_wider v u sub (Probe p os) h = tt

pub rescan_about : (v : List Root) (s : RecursorState) → AboutOf v s → AboutOf v (rescanned s)
rescan_about v s k =
    let a : AboutOf s.roots (reconciled s.roots s.filter s) = reconcile_about s.roots s.filter s in
    record {
      roots = k.roots;
      stand = k.stand;
      guards = λ g m. k.roots g.root (a.guards g m);
      queue = λ w m. work_wider s.roots v k.roots w (a.queue w m);
    }

guards_below_about : (v : List Root) (p : Path) (gs : List GuardWatch) → ((g : GuardWatch) → In g gs → In g.root v) → (w : Work) → In w (guards_below p gs) → IsWorkAbout v w
guards_below_about v p [] h w m = absurd m
guards_below_about v p (g ∷ gs) h w m = work_or (holds p g.root.path) v (Plain (Guard g.root)) (guards_below p gs) w (h g (inl refl)) (guards_below_about v p gs (λ x n. h x (inr n)) w) m

resets_about : (v : List Root) (p : Path) (rs : List Root) → ((r : Root) → In r rs → In r v) → (w : Work) → In w (guards_of_roots_below p rs) → IsWorkAbout v w
resets_about v p [] h w m = absurd m
resets_about v p (r ∷ rs) h w m = work_or (holds p r.path) v (Plain (Guard r)) (guards_of_roots_below p rs) w (h r (inl refl)) (resets_about v p rs (λ x n. h x (inr n)) w) m

roots_below_about : (v : List Root) (p : Path) (rs : List Root) → ((r : Root) → In r rs → In r v) → (w : Work) → In w (roots_below p rs) → IsWorkAbout v w
roots_below_about v p [] h w m = absurd m
roots_below_about v p (r ∷ rs) h w m = work_or (holds p r.path) v (Plain (Visit r)) (roots_below p rs) w (h r (inl refl)) (roots_below_about v p rs (λ x n. h x (inr n)) w) m

about_stirred : (v : List Root) (p : Path) (s : RecursorState) → AboutOf v s → AboutOf v (stirred p s)
about_stirred v p s k = about_later v (guards_below p s.guards ++ roots_below p s.roots) (cleared_below p (tombstones_lifted p s)) (about_fewer v (λ o. not (holds p o.path)) s k)
    (λ w m. elim (In-cases w (guards_below p s.guards) (roots_below p s.roots) m) [ inl a ↦ guards_below_about v p s.guards k.guards w a | inr a ↦ roots_below_about v p s.roots k.roots w a ])

about_created : (v : List Root) (p : Path) (s : RecursorState) → AboutOf v s → AboutOf v (created_one p s)
about_created v p s k = about_later v (candidates_of p (owners_above p s)) (stirred p s) (about_stirred v p s k)
    (each_candidate_about v p (owners_above p s) (λ r m. let a = In-filter (λ r. r.recursive && owns_parent r p s.owners) r s.roots m in k.roots r a.0))

about_removed : (v : List Root) (p : Path) (s : RecursorState) → AboutOf v s → AboutOf v (removed_one p s)
about_removed v p s k = about_later v (guards_of_roots_below p s.roots) (cleared_below p (record s { tombstones = s.tombstones ++ p ∷ [] })) (about_fewer v (λ o. not (holds p o.path)) s k) (resets_about v p s.roots k.roots)

about_unsure : (v : List Root) (p : Path) (s : RecursorState) → AboutOf v s → AboutOf v (unsure_one p s)
about_unsure v p s k = about_later v (Probe p (owners_at p s.owners) ∷ []) (stirred p s) (about_stirred v p s k) (λ w m. one_about v (Probe p (owners_at p s.owners)) w tt m)

each_about : (v : List Root) (f : Path → RecursorState → RecursorState) (ps : List Path) (s : RecursorState) → ((p : Path) (x : RecursorState) → AboutOf v x → AboutOf v (f p x)) → AboutOf v s → AboutOf v (for_each f ps s)
each_about v f [] s keep k = k
each_about v f (p ∷ ps) s keep k = each_about v f ps (f p s) keep (keep p s k)

pub created_about : (v : List Root) (p : Path) (s : RecursorState) → AboutOf v s → AboutOf v (created p s)
created_about v p s k = each_about v created_one (aliases p s) s (about_created v) k

pub removed_about : (v : List Root) (p : Path) (s : RecursorState) → AboutOf v s → AboutOf v (removed p s)
removed_about v p s k = each_about v removed_one (aliases p s) s (about_removed v) k

pub unsure_about : (v : List Root) (p : Path) (s : RecursorState) → AboutOf v s → AboutOf v (unsure p s)
unsure_about v p s k = each_about v unsure_one (aliases p s) s (about_unsure v) k

pub renamed_about : (v : List Root) (p q : Path) (s : RecursorState) → AboutOf v s → AboutOf v (renamed p q s)
renamed_about v p q s k = each_about v created_one (aliases q s) (for_each removed_one (aliases p s ++ aliases q s) s) (about_created v) (each_about v removed_one (aliases p s ++ aliases q s) s (about_removed v) k)

-- a rebuild

pub prepared_about : (v : List Root) (s : RecursorState) → AboutOf v s → AboutOf v (prepared s)
prepared_about v s k = record {
  roots = k.roots;
  stand = k.stand;
  guards = λ g m. (let a = In-filter _ g (guards_to_replay s) m in let b = In-filter (λ (g : GuardWatch). not (is_left_out s g.path)) g s.guards a.0 in k.guards g b.0);
  queue = k.queue;
}

about_gone : (v : List Root) (g : Known) (s : RecursorState) → AboutOf v s → AboutOf v (waits_by_alias g (path_gone g.path s))
about_gone v g s k = record {
  roots = k.roots;
  stand = k.stand;
  guards = λ x m. (let a = In-filter (λ (x : GuardWatch). not (same x.path g.path)) x s.guards m in k.guards x a.0);
  queue = λ w m. elim (In-cases w s.queue (guards_of_roots_below g.path s.roots) m) [ inl b ↦ k.queue w b | inr b ↦ resets_about v g.path s.roots k.roots w b ];
}

about_either : (v : List Root) (b : Bool) (x y : RecursorState) → AboutOf v x → AboutOf v y → AboutOf v (cond b x y)
about_either v true x y k l = k
about_either v false x y k l = l

about_replayed : (v : List Root) (g : Known) (w : Watched) (s : RecursorState) → AboutOf v s → AboutOf v (replayed_one g w s)
about_replayed v g (Kept look) s k = k
about_replayed v g (Failed f) s k =
    let stopped : AboutOf v (stop f s) = subst (λ c. AreAbout v c) (sym (cond_current s.stopped _ _ s refl refl)) k in
    let failed : AboutOf v (failed_watch g.path f s) = subst (λ c. AreAbout v c) (sym (cond_current (has_path g.path s.failed) _ _ s refl refl)) k in
    about_either v (is_path_gone f) _ _ (about_gone v g (show (PathAdd g.path f) s) k) (about_either v (is_resource_fault f) _ _ stopped (about_either v (has_path g.path s.failed) _ _ failed failed))

about_all_replayed : (v : List Root) (gs : List Known) (ws : List Watched) (s : RecursorState) → AboutOf v s → AboutOf v (replayed_all gs ws s)
about_all_replayed v [] ws s k = k
about_all_replayed v (g ∷ gs) [] s k = k
about_all_replayed v (g ∷ gs) (w ∷ ws) s k = about_either v (is_replay_over s) _ _ k (about_all_replayed v gs ws (replayed_one g w s) (about_replayed v g w s k))

pub replayed_about : (v : List Root) (ws : List Watched) (s : RecursorState) → AboutOf v s → AboutOf v (replayed ws s)
replayed_about v ws s k =
    let u : RecursorState = replayed_all s.waiting ws (record s { waiting = [] }) in
    let a : AboutOf v u = about_all_replayed v s.waiting ws (record s { waiting = [] }) k in
    record {
      roots = a.roots;
      stand = a.stand;
      guards = λ g m. (let b = In-filter _ g u.guards m in a.guards g b.0);
      queue = a.queue;
    }

-- below which paths a step asks

item_asks_of : (under : List Path) (v : List Root) (i : Item) → FitsItem i → IsItemOf v i → AreAllowed under v → ItemAsksBelow under i
item_asks_of under v (Guard r) f g h = tt
item_asks_of under v (Visit r) f g h = tt
item_asks_of under v (Scan r p) f g h = tt
item_asks_of under v (Candidate r p) f g h = (
  elim (or_cases (same r.path p) (r.recursive && holds r.path p) f.0) [
    | inl a ↦ let e : r.path ≡ p = same-true r.path p a in rw e (holds-refl p)
    | inr b ↦ (and_parts r.recursive (holds r.path p) b).1
  ],
  h r g f.1,
)

work_asks_of : (under : List Path) (v : List Root) (w : Work) → FitsWork w → IsWorkAbout v w → AreAllowed under v → WorkAsksBelow under w
work_asks_of under v (Plain i) f g h = item_asks_of under v i f g h
work_asks_of under v (Probe p owners) f g h = tt

queue_asks_of : (under : List Path) (v : List Root) (q : List Work) → ((w : Work) → In w q → FitsWork w) → ((w : Work) → In w q → IsWorkAbout v w) → AreAllowed under v → FirstAsksBelow under q
queue_asks_of under v [] f g h = tt
queue_asks_of under v (w ∷ q) f g h = work_asks_of under v w (f w (inl refl)) (g w (inl refl)) h

pub asks_where_allowed : (under : List Path) (v : List Root) (s : RecursorState) → AreCovered (parts s) → AboutOf v s → AreAllowed under s.roots → FirstAsksBelow under s.queue
asks_where_allowed under v s c k h = queue_asks_of under v s.queue c.queue k.queue (λ r m e. h r (k.stand r m) e)
