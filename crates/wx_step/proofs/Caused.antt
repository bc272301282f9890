-- A step asks for a rebuild only for its causes.
use Rattle.std.proofs.Common.{◌≡◌, Bool, true, false, cond, List, [], ◌∷◌, ◌++◌, refl, ap, sym, ◌∙◌, inl, inr, subst}
use Rattle.std.specs.Prelude.{◌⊎◌, ◌&&◌, Option, Some, None}
use Rattle.std.proofs.lemmas.Bool.{or_cases}
use Rattle.wx_watch.specs.declared.notify_fault.NotifyFault.{NotifyFault}
use Rattle.wx_tree.specs.Paths.{Path}
use Rattle.wx_tree.specs.declared.root.Root.{Root}
use Rattle.wx_tree.proofs.ListLemmas.{In-left, In-right}
use Rattle.wx_recursor.specs.declared.answers.AddResult.{AddResult}
use Rattle.wx_recursor.specs.declared.answers.AddResult.TheVariants.{LeftOut, Stands, TryAgain, Vanished}
use Rattle.wx_recursor.specs.declared.answers.Found.{Found}
use Rattle.wx_recursor.specs.declared.answers.Found.TheVariants.{Barred, Entries, Fault, Here, Missing, Refused, Rejected}
use Rattle.wx_recursor.specs.declared.answers.GuardFound.{GuardFound}
use Rattle.wx_recursor.specs.declared.answers.GuardFound.TheVariants.{At, Faulty, Nowhere}
use Rattle.wx_recursor.specs.declared.answers.Watched.{Watched}
use Rattle.wx_recursor.specs.declared.answers.Watched.TheVariants.{Failed, Kept}
use Rattle.wx_recursor.specs.declared.errors.ScanFault.TheVariants.{Io, NotFound}
use Rattle.wx_recursor.specs.declared.errors.ShownError.{ShownError}
use Rattle.wx_recursor.specs.declared.errors.ShownError.TheVariants.{Filter, PathAdd, PathRemove, PathScan}
use Rattle.wx_recursor.specs.declared.known.Identity.{Identity}
use Rattle.wx_recursor.specs.declared.known.Known.{Known}
use Rattle.wx_recursor.specs.declared.work.Item.{Item}
use Rattle.wx_recursor.specs.declared.work.Item.TheVariants.{Candidate, Guard, Scan, Visit}
use Rattle.wx_recursor.specs.declared.work.Work.{Work}
use Rattle.wx_recursor.specs.declared.work.Work.TheVariants.{Plain, Probe}
use Rattle.wx_recursor.specs.States.{Evidence, RecursorState}
use Rattle.wx_recursor.specs.Identities.{has_identity, is_of_directory, is_path_gone, refusal}
use Rattle.wx_recursor.specs.Owners.{has_path}
use Rattle.wx_recursor.specs.Holding.{ask_rebuild, has_retry, keep_retry, lose, show, still_known}
use Rattle.wx_recursor.specs.Owning.{added, added_result, answered, changed, exclude, failed_watch, is_held_back, is_known_otherwise, is_resource_fault, is_still, owned, refused, registered, resource_error, stop, taken, unwatched}
use Rattle.wx_recursor.specs.Guarding.{guard_placed, guarded_at, unguarded}
use Rattle.wx_recursor.specs.Steps.{acted, acted_item, has_new, idle_registrations, lost_paths, probed, refound, retry_all, scanned, seekers, stepped, stepped_at, tried, trimmed, unwatch_each, visited}
use Rattle.wx_step.specs.Causes.{Cause, IdentityChanged, UnwatchFailed, WatchFailed}

-- why a rebuild is asked for, before what is lost is looked for
abbrev pub Reason : RecursorState → RecursorState → Type 0
Reason s t = WatchFailed s.failed t.shown ⊎ (UnwatchFailed t.shown ⊎ IdentityChanged s.excluded t.excluded)

-- what is asked for has a reason
abbrev pub Caused : RecursorState → RecursorState → Type 0
Caused s t = (t.asks_rebuild ≡ true → (s.asks_rebuild ≡ true) ⊎ Reason s t) × (t.lost ≡ s.lost)

-- nothing was asked for yet
abbrev pub Still : RecursorState → RecursorState → Type 0
Still s t = (t.asks_rebuild ≡ s.asks_rebuild) × (t.failed ≡ s.failed) × (t.excluded ≡ s.excluded) × (t.lost ≡ s.lost)

still_cond : (b : Bool) (s x y : RecursorState) → Still s x → Still s y → Still s (cond b x y)
still_cond true s x y h k = h
still_cond false s x y h k = k

caused_cond : (b : Bool) (s x y : RecursorState) → Caused s x → Caused s y → Caused s (cond b x y)
caused_cond true s x y h k = h
caused_cond false s x y h k = k

caused_still : (s v : RecursorState) → Still s v → Caused s v
caused_still s v k = (λ h. inl (sym k.0 ∙ h), k.3)

reason_shown : (x : ShownError) (s v : RecursorState) → (s.asks_rebuild ≡ true) ⊎ Reason s v → (s.asks_rebuild ≡ true) ⊎ Reason s (show x v)
reason_shown x s v (inl a) = inl a
reason_shown x s v (inr (inl w)) = inr (inl (record { path = w.path; fault = w.fault; first = w.first; is_shown = In-left (PathAdd w.path w.fault) v.shown (x ∷ []) w.is_shown }))
reason_shown x s v (inr (inr (inl u))) = inr (inr (inl (record { path = u.path; fault = u.fault; is_shown = In-left (PathRemove u.path u.fault) v.shown (x ∷ []) u.is_shown })))
reason_shown x s v (inr (inr (inr i))) = inr (inr (inr i))

caused_shown : (x : ShownError) (s v : RecursorState) → Caused s v → Caused s (show x v)
caused_shown x s v k = (λ h. reason_shown x s v (k.0 h), k.1)

shown_still : (x : ShownError) (s v : RecursorState) → Still s v → Caused s (show x v)
shown_still x s v k = caused_shown x s v (caused_still s v k)

-- a registration

caused_unwatched : (p : Path) (u : Option NotifyFault) (s v : RecursorState) → Caused s v → Caused s (unwatched p u v)
caused_unwatched p None s v k = k
caused_unwatched p (Some f) s v k = (λ h. inr (inr (inl (record { path = p; fault = f; is_shown = In-right (PathRemove p f) v.shown (PathRemove p f ∷ []) (inl refl) }))), k.1)

caused_failed : (p : Path) (f : NotifyFault) (s v : RecursorState) → Still s v → Caused s (failed_watch p f v)
caused_failed p f s v k = go (has_path p v.failed) refl
  where
    go : (b : Bool) → has_path p v.failed ≡ b → Caused s (cond b (record (show (PathAdd p f) v) { skipped = v.skipped ++ p ∷ [] }) (ask_rebuild (record (show (PathAdd p f) v) { failed = v.failed ++ p ∷ [] })))
    go true e = shown_still (PathAdd p f) s v k
    go false e = (λ h. inr (inl (record { path = p; fault = f; first = ap (has_path p) (sym k.1) ∙ e; is_shown = In-right (PathAdd p f) v.shown (PathAdd p f ∷ []) (inl refl) })), k.3)

caused_stop : (f : NotifyFault) (s v : RecursorState) → Still s v → Caused s (stop f v)
caused_stop f s v k = caused_cond v.stopped s v (record (show (resource_error f) v) { stopped = true }) (caused_still s v k) (shown_still (resource_error f) s v k)

caused_refused : (p : Path) (f : NotifyFault) (s v : RecursorState) → Still s v → Caused s (refused p f v)
caused_refused p f s v k =
    caused_cond (is_path_gone f) s (show (PathAdd p f) v) (cond (is_resource_fault f) (stop f v) (failed_watch p f v)) (shown_still (PathAdd p f) s v k)
    (caused_cond (is_resource_fault f) s (stop f v) (failed_watch p f v) (caused_stop f s v k) (caused_failed p f s v k))

caused_answered : (p : Path) (i : Identity) (w : Watched) (u : Option NotifyFault) (s v : RecursorState) → Still s v → Caused s (answered p i w u v)
caused_answered p i (Failed f) u s v k = caused_refused p f s v k
caused_answered p i (Kept look) u s v k =
    let x : ShownError = PathScan p (changed i look) in
    caused_cond (is_still p i look) s (registered p i v) (unwatched p (refusal u) (show x v)) (caused_still s v k) (caused_unwatched p (refusal u) s (show x v) (shown_still x s v k))

caused_excluded : (p : Path) (s v : RecursorState) → Still s v → Caused s (exclude p v)
caused_excluded p s v k = (λ h. inr (inr (inr (record { path = p; excluded = ap (λ (xs : List Path). xs ++ p ∷ []) k.2 }))), k.3)

caused_added : (p : Path) (i : Identity) (w : Watched) (u : Option NotifyFault) (s v : RecursorState) → Still s v → Caused s (added p i w u v)
caused_added p i w u s v k =
    caused_cond (is_known_otherwise p i v) s (exclude p v) (cond (has_identity i v.registrations) v (cond (is_held_back p v) v (answered p i w u v))) (caused_excluded p s v k)
    (caused_cond (has_identity i v.registrations) s v (cond (is_held_back p v) v (answered p i w u v)) (caused_still s v k)
    (caused_cond (is_held_back p v) s v (answered p i w u v) (caused_still s v k) (caused_answered p i w u s v k)))

caused_retry : (r : Root) (p : Path) (s v : RecursorState) → Caused s v → Caused s (keep_retry r p v)
caused_retry r p s v k = caused_cond (has_retry r p v.retries) s v (record v { retries = v.retries ++ record { root = r; path = p } ∷ [] }) k k

still_retry : (r : Root) (p : Path) (s v : RecursorState) → Still s v → Still s (keep_retry r p v)
still_retry r p s v k = still_cond (has_retry r p v.retries) s v (record v { retries = v.retries ++ record { root = r; path = p } ∷ [] }) k k

caused_taken : (r : Root) (p : Path) (i : Identity) (scans : Bool) (item : Work) (end : AddResult) (s v : RecursorState) → Caused s v → Caused s (taken r p i scans item end v)
caused_taken r p i scans item Stands s v k = k
caused_taken r p i scans item Vanished s v k = k
caused_taken r p i scans item TryAgain s v k = k
caused_taken r p i scans item LeftOut s v k = k

caused_owned : (r : Root) (p : Path) (i : Identity) (scans : Bool) (item : Work) (w : Watched) (u : Option NotifyFault) (s v : RecursorState) → Still s v → Caused s (owned r p i scans item w u v)
caused_owned r p i scans item w u s v k = caused_taken r p i scans item (added_result p i w v) s (added p i w u v) (caused_added p i w u s v k)

caused_placed : (r : Root) (p : Path) (i : Identity) (safe : Bool) (end : AddResult) (s v : RecursorState) → Caused s v → Caused s (guard_placed r p i safe end v)
caused_placed r p i safe Stands s v k = k
caused_placed r p i safe Vanished s v k = caused_retry r r.path s v k
caused_placed r p i safe TryAgain s v k = k
caused_placed r p i safe LeftOut s v k = k

caused_guarded : (r : Root) (g : GuardFound) (e : Evidence) (s v : RecursorState) → Still s v → Caused s (guarded_at r g e v)
caused_guarded r Nowhere e s v k = caused_still s v k
caused_guarded r (Faulty p c) e s v k = caused_retry r r.path s (show (PathScan p (Io c)) v) (shown_still (PathScan p (Io c)) s v k)
caused_guarded r (At p i) e s v k = caused_placed r p i e.root_is_safe (added_result p i e.watched v) s (added p i e.watched e.undone v) (caused_added p i e.watched e.undone s v k)

-- items

caused_visited : (r : Root) (f : Found) (e : Evidence) (s v : RecursorState) → Still s v → Caused s (visited r f e v)
caused_visited r Missing e s v k = caused_guarded r e.guard_found e s (lose r r.path (show (PathScan r.path NotFound) v)) k
caused_visited r Barred e s v k = caused_guarded r e.guard_found e s (lose r r.path v) k
caused_visited r Rejected e s v k = caused_still s v k
caused_visited r (Fault p c) e s v k = caused_guarded r e.guard_found e s (keep_retry r r.path (show (PathScan p (Io c)) v)) (still_retry r r.path s (show (PathScan p (Io c)) v) k)
caused_visited r (Refused c) e s v k = caused_still s v k
caused_visited r (Here i) e s v k = caused_owned r r.path i (r.recursive && is_of_directory i) (Plain (Visit r)) e.watched e.undone s (unguarded r (refound r v)) k
caused_visited r (Entries cs) e s v k = caused_still s v k

caused_scanned : (r : Root) (p : Path) (f : Found) (s v : RecursorState) → Still s v → Caused s (scanned r p f v)
caused_scanned r p Missing s v k = shown_still (PathScan p NotFound) s v k
caused_scanned r p Barred s v k = caused_still s v k
caused_scanned r p Rejected s v k = caused_still s v k
caused_scanned r p (Fault q c) s v k = caused_retry r p s (show (PathScan q (Io c)) v) (shown_still (PathScan q (Io c)) s v k)
caused_scanned r p (Refused c) s v k = caused_still s v k
caused_scanned r p (Here i) s v k = caused_still s v k
caused_scanned r p (Entries cs) s v k = caused_still s v k

caused_tried : (r : Root) (p : Path) (f : Found) (e : Evidence) (s v : RecursorState) → Still s v → Caused s (tried r p f e v)
caused_tried r p Missing e s v k = shown_still (PathScan p NotFound) s v k
caused_tried r p Barred e s v k = caused_still s v k
caused_tried r p Rejected e s v k = caused_still s v k
caused_tried r p (Fault q c) e s v k = caused_retry r p s (show (PathScan q (Io c)) v) (shown_still (PathScan q (Io c)) s v k)
caused_tried r p (Refused c) e s v k = caused_retry r p s (show (Filter c) v) (shown_still (Filter c) s v k)
caused_tried r p (Here i) e s v k = caused_owned r p i true (Plain (Candidate r p)) e.watched e.undone s v k
caused_tried r p (Entries cs) e s v k = caused_still s v k

caused_retries : (p : Path) (rs : List Root) (s v : RecursorState) → Caused s v → Caused s (retry_all p rs v)
caused_retries p [] s v k = k
caused_retries p (r ∷ rs) s v k = caused_retries p rs s (keep_retry r p v) (caused_retry r p s v k)

caused_probed : (p : Path) (os : List Root) (f : Found) (s v : RecursorState) → Still s v → Caused s (probed p os f v)
caused_probed p os Missing s v k = caused_still s v k
caused_probed p os Barred s v k = caused_still s v k
caused_probed p os Rejected s v k = caused_still s v k
caused_probed p os (Fault q c) s v k = caused_retries p (seekers p os v.roots v.owners) s (show (PathScan q (Io c)) v) (shown_still (PathScan q (Io c)) s v k)
caused_probed p os (Refused c) s v k = caused_still s v k
caused_probed p os (Here i) s v k = caused_still s v k
caused_probed p os (Entries cs) s v k = caused_still s v k

caused_item : (i : Item) (e : Evidence) (s v : RecursorState) → Still s v → Caused s (acted_item i e v)
caused_item (Guard r) e s v k = caused_guarded r e.guard_found e s v k
caused_item (Visit r) e s v k = caused_visited r e.found e s v k
caused_item (Scan r p) e s v k = caused_scanned r p e.found s v k
caused_item (Candidate r p) e s v k = caused_tried r p e.found e s v k

caused_work : (w : Work) (e : Evidence) (s v : RecursorState) → Still s v → Caused s (acted w e v)
caused_work (Plain i) e s v k = caused_item i e s v k
caused_work (Probe p os) e s v k = caused_probed p os e.found s v k

caused_first : (q : List Work) (e : Evidence) (s : RecursorState) → Caused s (stepped_at q e s)
caused_first [] e s = caused_still s s (refl, refl, refl, refl)
caused_first (w ∷ q) e s = caused_work w e s (record s { queue = q }) (refl, refl, refl, refl)

caused_each : (gs : List Known) (us : List (Option NotifyFault)) (s v : RecursorState) → Caused s v → Caused s (unwatch_each gs us v)
caused_each [] us s v k = k
caused_each (g ∷ gs) [] s v k = k
caused_each (g ∷ gs) (u ∷ us) s v k = caused_each gs us s (unwatched g.path (refusal u) v) (caused_unwatched g.path (refusal u) s v k)

reason_cause : (s t : RecursorState) → (s.asks_rebuild ≡ true) ⊎ Reason s t → (s.asks_rebuild ≡ true) ⊎ Cause s t
reason_cause s t (inl a) = inl a
reason_cause s t (inr (inl w)) = inr (inl w)
reason_cause s t (inr (inr (inl u))) = inr (inr (inl u))
reason_cause s t (inr (inr (inr i))) = inr (inr (inr (inl i)))

pub step_caused : (e : Evidence) (s : RecursorState) → (stepped e s).asks_rebuild ≡ true → (s.asks_rebuild ≡ true) ⊎ Cause s (stepped e s)
step_caused e s h =
    let u : RecursorState = stepped_at s.queue e s in
    let ks : List Known = still_known u.owners u.known in
    let v : RecursorState = unwatch_each (idle_registrations ks u.guards u.registrations) e.releases u in
    let k : Caused s v = caused_each (idle_registrations ks u.guards u.registrations) e.releases s u (caused_first s.queue e s) in
    let w : RecursorState = trimmed ks v in
    let ls : List Path = lost_paths w.known w.guards w.registrations in
    elim (or_cases (has_new ls v.lost) v.asks_rebuild h) [
      | inl a ↦ inr (inr (inr (inr (subst (λ x. has_new ls x ≡ true) k.1 a))))
      | inr b ↦ reason_cause s (stepped e s) (k.0 b)
    ]
