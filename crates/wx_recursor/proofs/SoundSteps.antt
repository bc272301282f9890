-- Steps and the calls between them keep it.
use Rattle.std.proofs.Common.{◌≡◌, ℕ, Bool, true, false, cond, List, [], ◌∷◌, ◌++◌, refl, ap, sym, ◌∙◌, inl, inr, subst}
use Rattle.std.specs.Prelude.{◌&&◌, not, Option, Some, None}
use Rattle.std.proofs.lemmas.Bool.{or_left}
use Rattle.wx_watch.specs.declared.notify_fault.NotifyFault.{NotifyFault}
use Rattle.wx_tree.specs.Paths.{Path, holds, holds_below}
use Rattle.wx_tree.specs.Roots.{same_root}
use Rattle.wx_tree.specs.declared.root.Root.{Root}
use Rattle.wx_recursor.specs.Calls.{aliases, cleared_below, created, created_one, for_each, fresh, has_work, reconciled, removed, removed_one, renamed, tombstones_lifted, unsure, unsure_one}
use Rattle.wx_recursor.specs.Guarding.{guard_placed, guarded, guarded_at, unguarded}
use Rattle.wx_recursor.specs.Holding.{has_retry, keep_retry, lose, show, still_known}
use Rattle.wx_recursor.specs.Identities.{has_identity, is_of_directory, is_path_gone, named, refusal, same_identity}
use Rattle.wx_recursor.specs.Owners.{has_path, has_root}
use Rattle.wx_recursor.specs.Owning.{added, added_result, answered, answered_result, changed, exclude, is_held_back, is_known_otherwise, is_resource_fault, is_still, owned, refused, refused_result, registered, taken, unwatched}
use Rattle.wx_recursor.specs.Sound.{AreSound, Things, things}
use Rattle.wx_recursor.specs.States.{Evidence, RecursorState}
use Rattle.wx_recursor.specs.Steps.{acted_item, idle_registrations, probed, refound, released, retry_all, scanned, seekers, serving_registrations, stepped, stepped_at, swept, tried, unwatch_each, visited}
use Rattle.wx_recursor.specs.declared.answers.AddResult.{AddResult}
use Rattle.wx_recursor.specs.declared.answers.AddResult.TheVariants.{LeftOut, Stands, TryAgain, Vanished}
use Rattle.wx_recursor.specs.declared.answers.Found.{Found}
use Rattle.wx_recursor.specs.declared.answers.Found.TheVariants.{Barred, Entries, Fault, Here, Missing, Refused, Rejected}
use Rattle.wx_recursor.specs.declared.answers.GuardFound.{GuardFound}
use Rattle.wx_recursor.specs.declared.answers.GuardFound.TheVariants.{At, Faulty, Nowhere}
use Rattle.wx_recursor.specs.declared.answers.Watched.{Watched}
use Rattle.wx_recursor.specs.declared.answers.Watched.TheVariants.{Failed, Kept}
use Rattle.wx_recursor.specs.declared.errors.ScanFault.TheVariants.{Io, NotFound}
use Rattle.wx_recursor.specs.declared.errors.ShownError.TheVariants.{Filter, PathScan}
use Rattle.wx_recursor.specs.declared.known.Identity.{Identity}
use Rattle.wx_recursor.specs.declared.known.Known.{Known}
use Rattle.wx_recursor.specs.declared.work.Item.{Item}
use Rattle.wx_recursor.specs.declared.work.Item.TheVariants.{Candidate, Guard, Scan, Visit}
use Rattle.wx_recursor.specs.declared.work.Work.{Work}
use Rattle.wx_recursor.specs.declared.work.Work.TheVariants.{Plain, Probe}
use Rattle.wx_recursor.proofs.SoundLemmas.{Suits, fewer_guards, has_right, identity_refl, more_regs, regs_grow, sound_fewer_guards, sound_fewer_owns, sound_guard, sound_more, sound_take, sound_trim, sound_unseen, suits, trim}

-- what changes nothing of the things

pub cond_things : (b : Bool) (x y s : RecursorState) → things x ≡ things s → things y ≡ things s → things (cond b x y) ≡ things s
cond_things true x y s e f = e
cond_things false x y s e f = f

pub things_refused : (p : Path) (f : NotifyFault) (s : RecursorState) → things (refused p f s) ≡ things s
things_refused p f s = cond_things (is_path_gone f) _ _ s refl (cond_things (is_resource_fault f) _ _ s (cond_things s.stopped _ _ s refl refl) (cond_things (has_path p s.failed) _ _ s refl refl))

pub things_unwatched : (p : Path) (u : Option NotifyFault) (s : RecursorState) → things (unwatched p u s) ≡ things s
things_unwatched p None s = refl
things_unwatched p (Some f) s = refl

pub things_retry : (r : Root) (p : Path) (s : RecursorState) → things (keep_retry r p s) ≡ things s
things_retry r p s = cond_things (has_retry r p s.retries) _ _ s refl refl

things_retries : (p : Path) (rs : List Root) (s : RecursorState) → things (retry_all p rs s) ≡ things s
things_retries p [] s = refl
things_retries p (r ∷ rs) s = things_retries p rs (keep_retry r p s) ∙ things_retry r p s

same_sound : (x s : RecursorState) → things x ≡ things s → AreSound (things s) → AreSound (things x)
same_sound x s e k = subst (λ h. AreSound h) (sym e) k

retry_sound : (r : Root) (p : Path) (s : RecursorState) → AreSound (things s) → AreSound (things (keep_retry r p s))
retry_sound r p s k = same_sound (keep_retry r p s) s (things_retry r p s) k

retries_sound : (p : Path) (rs : List Root) (s : RecursorState) → AreSound (things s) → AreSound (things (retry_all p rs s))
retries_sound p rs s k = same_sound (retry_all p rs s) s (things_retries p rs s) k

-- an addition

pub record Adds (p : Path) (i : Identity) (s : RecursorState) (e : AddResult) : Type 0 where
  pub sound : AreSound (things s)
  pub stands : e ≡ Stands → (has_identity i s.registrations ≡ true) × Suits p i (things s)

never : (p : Path) (f : NotifyFault) (s : RecursorState) → refused_result p f s ≡ Stands → ⊥
never p f s = go (is_path_gone f) (is_resource_fault f) (has_path p s.failed)
  where
    go : (a b c : Bool) → cond a Vanished (cond b LeftOut (cond c LeftOut TryAgain)) ≡ Stands → ⊥
    go true b c e = cc
    go false true c e = cc
    go false false true e = cc
    go false false false e = cc

more_suits : (p : Path) (i : Identity) (h : Things) → Suits p i h → Suits p i (more_regs p i h)
more_suits p i h fit l m e = elim (regs_grow h p i l m) [ inl a ↦ fit l a e | inr b ↦ sym (ap (λ x. x.identity) b) ]

has_last : (p : Path) (i : Identity) (ks : List Known) → has_identity i (ks ++ named p i ∷ []) ≡ true
has_last p i ks = has_right i ks (named p i ∷ []) (or_left (same_identity i i) false (identity_refl i))

answered_adds : (p : Path) (i : Identity) (w : Watched) (u : Option NotifyFault) (s : RecursorState) → AreSound (things s) → is_known_otherwise p i s ≡ false → has_identity i s.registrations ≡ false → Adds p i (answered p i w u s) (answered_result p i w s)
answered_adds p i (Failed f) u s k a b = record {
  sound = same_sound (refused p f s) s (things_refused p f s) k;
  stands = λ e. absurd (never p f s e);
}
answered_adds p i (Kept look) u s k a b = go (is_still p i look)
  where
    go : (c : Bool) → Adds p i (cond c (registered p i s) (unwatched p (refusal u) (show (PathScan p (changed i look)) s))) (cond c Stands Vanished)
    go true = record { sound = sound_more (things s) p i k (suits p i s a) b; stands = λ e. (has_last p i s.registrations, more_suits p i (things s) (suits p i s a)) }
    go false = record { sound = same_sound (unwatched p (refusal u) (show (PathScan p (changed i look)) s)) s (things_unwatched p (refusal u) (show (PathScan p (changed i look)) s)) k; stands = λ e. cc }

pub added_adds : (p : Path) (i : Identity) (w : Watched) (u : Option NotifyFault) (s : RecursorState) → AreSound (things s) → Adds p i (added p i w u s) (added_result p i w s)
added_adds p i w u s k = go (is_known_otherwise p i s) (has_identity i s.registrations) (is_held_back p s) refl refl
  where
    go : (a b c : Bool) → is_known_otherwise p i s ≡ a → has_identity i s.registrations ≡ b → Adds p i (cond a (exclude p s) (cond b s (cond c s (answered p i w u s)))) (cond a LeftOut (cond b Stands (cond c LeftOut (answered_result p i w s))))
    go true b c e f = record { sound = k; stands = λ x. cc }
    go false true c e f = record { sound = k; stands = λ x. (f, suits p i s e) }
    go false false true e f = record { sound = k; stands = λ x. cc }
    go false false false e f = answered_adds p i w u s k e f

lose_sound : (r : Root) (p : Path) (s : RecursorState) → AreSound (things s) → AreSound (things (lose r p s))
lose_sound r p s k = sound_fewer_owns (λ o. not (same_root r o.root && holds p o.path)) (things s) k

taken_sound : (r : Root) (p : Path) (i : Identity) (scans : Bool) (item : Work) (e : AddResult) (s : RecursorState) → Adds p i s e → AreSound (things (taken r p i scans item e s))
taken_sound r p i scans item Stands s a = (let b = a.stands refl in sound_take (things s) r p i a.sound b.1 b.0)
taken_sound r p i scans item Vanished s a = lose_sound r p s a.sound
taken_sound r p i scans item TryAgain s a = a.sound
taken_sound r p i scans item LeftOut s a = a.sound

owned_sound : (r : Root) (p : Path) (i : Identity) (scans : Bool) (item : Work) (w : Watched) (u : Option NotifyFault) (s : RecursorState) → AreSound (things s) → AreSound (things (owned r p i scans item w u s))
owned_sound r p i scans item w u s k = taken_sound r p i scans item (added_result p i w s) (added p i w u s) (added_adds p i w u s k)

placed_sound : (r : Root) (p : Path) (i : Identity) (root_is_safe : Bool) (e : AddResult) (s : RecursorState) → Adds p i s e → AreSound (things (guard_placed r p i root_is_safe e s))
placed_sound r p i root_is_safe Stands s a = (let b = a.stands refl in sound_guard (things s) r p i a.sound b.1 b.0)
placed_sound r p i root_is_safe Vanished s a = retry_sound r r.path s a.sound
placed_sound r p i root_is_safe TryAgain s a = a.sound
placed_sound r p i root_is_safe LeftOut s a = a.sound

bared_sound : (r : Root) (s : RecursorState) → AreSound (things s) → AreSound (things (unguarded r s))
bared_sound r s k = sound_fewer_guards (λ g. not (same_root r g.root)) (things s) k

guarded_sound_at : (r : Root) (g : GuardFound) (e : Evidence) (s : RecursorState) → AreSound (things s) → AreSound (things (guarded_at r g e s))
guarded_sound_at r Nowhere e s k = bared_sound r s k
guarded_sound_at r (Faulty p c) e s k = retry_sound r r.path (show (PathScan p (Io c)) s) k
guarded_sound_at r (At p i) e s k = placed_sound r p i e.root_is_safe (added_result p i e.watched s) (added p i e.watched e.undone s) (added_adds p i e.watched e.undone s k)

guarded_sound : (r : Root) (e : Evidence) (s : RecursorState) → AreSound (things s) → AreSound (things (guarded r e s))
guarded_sound r e s k = guarded_sound_at r e.guard_found e s k

visited_sound : (r : Root) (f : Found) (e : Evidence) (s : RecursorState) → AreSound (things s) → AreSound (things (visited r f e s))
visited_sound r Missing e s k = guarded_sound r e _ (lose_sound r r.path (show (PathScan r.path NotFound) s) k)
visited_sound r Barred e s k = guarded_sound r e _ (lose_sound r r.path s k)
visited_sound r Rejected e s k = k
visited_sound r (Fault p c) e s k = guarded_sound r e _ (retry_sound r r.path (show (PathScan p (Io c)) s) k)
visited_sound r (Refused c) e s k = k
visited_sound r (Here i) e s k = owned_sound r r.path i (r.recursive && is_of_directory i) (Plain (Visit r)) e.watched e.undone _ (bared_sound r (refound r s) k)
visited_sound r (Entries cs) e s k = k

scanned_sound : (r : Root) (p : Path) (f : Found) (s : RecursorState) → AreSound (things s) → AreSound (things (scanned r p f s))
scanned_sound r p Missing s k = sound_fewer_owns (λ o. not (same_root r o.root && holds_below p o.path)) (things s) k
scanned_sound r p Barred s k = k
scanned_sound r p Rejected s k = k
scanned_sound r p (Fault q c) s k = retry_sound r p (show (PathScan q (Io c)) s) k
scanned_sound r p (Refused c) s k = k
scanned_sound r p (Here i) s k = k
scanned_sound r p (Entries cs) s k = k

tried_sound : (r : Root) (p : Path) (f : Found) (e : Evidence) (s : RecursorState) → AreSound (things s) → AreSound (things (tried r p f e s))
tried_sound r p Missing e s k = lose_sound r p (show (PathScan p NotFound) s) k
tried_sound r p Barred e s k = lose_sound r p s k
tried_sound r p Rejected e s k = lose_sound r p s k
tried_sound r p (Fault q c) e s k = retry_sound r p (show (PathScan q (Io c)) s) k
tried_sound r p (Refused c) e s k = retry_sound r p (show (Filter c) s) k
tried_sound r p (Here i) e s k = owned_sound r p i true (Plain (Candidate r p)) e.watched e.undone s k
tried_sound r p (Entries cs) e s k = k

probed_sound : (p : Path) (os : List Root) (f : Found) (s : RecursorState) → AreSound (things s) → AreSound (things (probed p os f s))
probed_sound p os Missing s k = k
probed_sound p os Barred s k = k
probed_sound p os Rejected s k = k
probed_sound p os (Fault q c) s k = retries_sound p (seekers p os s.roots s.owners) (show (PathScan q (Io c)) s) k
probed_sound p os (Refused c) s k = k
probed_sound p os (Here i) s k = k
probed_sound p os (Entries cs) s k = k

item_sound : (i : Item) (e : Evidence) (s : RecursorState) → AreSound (things s) → AreSound (things (acted_item i e s))
item_sound (Guard r) e s k = guarded_sound r e s k
item_sound (Visit r) e s k = visited_sound r e.found e s k
item_sound (Scan r p) e s k = scanned_sound r p e.found s k
item_sound (Candidate r p) e s k = tried_sound r p e.found e s k

pub first_sound : (q : List Work) (e : Evidence) (s : RecursorState) → AreSound (things s) → AreSound (things (stepped_at q e s))
first_sound [] e s k = sound_fewer_owns (λ o. o.seen) (things s) k
first_sound (Plain i ∷ q) e s k = item_sound i e (record s { queue = q }) k
first_sound (Probe p os ∷ q) e s k = probed_sound p os e.found (record s { queue = q }) k

-- the release

things_free : (gs : List Known) (us : List (Option NotifyFault)) (s : RecursorState) → things (unwatch_each gs us s) ≡ things s
things_free [] us s = refl
things_free (g ∷ gs) [] s = refl
things_free (g ∷ gs) (u ∷ us) s = things_free gs us (unwatched g.path (refusal u) s) ∙ things_unwatched g.path (refusal u) s

abbrev trim_at : List Known → Things → Things
trim_at ks h = record h { known = ks; registrations = serving_registrations ks h.guards h.registrations; waiting = serving_registrations ks h.guards h.waiting }

released_things : (us : List (Option NotifyFault)) (s : RecursorState) → things (released us s) ≡ trim (things s)
released_things us s =
    let ks : List Known = still_known s.owners s.known in
    ap (trim_at ks) (things_free (idle_registrations ks s.guards s.registrations) us s)

-- whatever the calls of a step answer: no identity and no path is registered twice, and each identity of an owned path or a guard is registered, or waits
pub step_sound : (e : Evidence) (s : RecursorState) → AreSound (things s) → AreSound (things (stepped e s))
step_sound e s k =
    subst (λ h. AreSound h) (sym (released_things e.releases (stepped_at s.queue e s))) (sound_trim (things (stepped_at s.queue e s)) (first_sound s.queue e s k))

-- the calls between

pub reconcile_sound : (rs : List Root) (n : ℕ) (s : RecursorState) → AreSound (things s) → AreSound (things (reconciled rs n s))
reconcile_sound rs n s k = sound_unseen (fewer_guards (λ g. has_root g.root rs) (things s)) (sound_fewer_guards (λ g. has_root g.root rs) (things s) k)

dropped_sound : (p : Path) (s : RecursorState) → AreSound (things s) → AreSound (things (cleared_below p s))
dropped_sound p s k = sound_fewer_owns (λ o. not (holds p o.path)) (things s) k

each_sound : (f : Path → RecursorState → RecursorState) (ps : List Path) (s : RecursorState) → ((p : Path) (x : RecursorState) → AreSound (things x) → AreSound (things (f p x))) → AreSound (things s) → AreSound (things (for_each f ps s))
each_sound f [] s keep k = k
each_sound f (p ∷ ps) s keep k = each_sound f ps (f p s) keep (keep p s k)

pub created_sound : (p : Path) (s : RecursorState) → AreSound (things s) → AreSound (things (created p s))
created_sound p s k = each_sound created_one (aliases p s) s (λ q x h. dropped_sound q (tombstones_lifted q x) h) k

pub removed_sound : (p : Path) (s : RecursorState) → AreSound (things s) → AreSound (things (removed p s))
removed_sound p s k = each_sound removed_one (aliases p s) s (λ q x h. dropped_sound q (record x { tombstones = x.tombstones ++ q ∷ [] }) h) k

pub unsure_sound : (p : Path) (s : RecursorState) → AreSound (things s) → AreSound (things (unsure p s))
unsure_sound p s k = each_sound unsure_one (aliases p s) s (λ q x h. dropped_sound q (tombstones_lifted q x) h) k

pub renamed_sound : (p q : Path) (s : RecursorState) → AreSound (things s) → AreSound (things (renamed p q s))
renamed_sound p q s k =
    each_sound created_one (aliases q s) (for_each removed_one (aliases p s ++ aliases q s) s) (λ a x h. dropped_sound a (tombstones_lifted a x) h)
    (each_sound removed_one (aliases p s ++ aliases q s) s (λ a x h. dropped_sound a (record x { tombstones = x.tombstones ++ a ∷ [] }) h) k)

pub fresh_sound : AreSound (things fresh)
fresh_sound = record { uniform = λ k l a b e. elim a [ inl x ↦ absurd x | inr x ↦ elim x [ inl y ↦ absurd y | inr y ↦ elim y [ inl z ↦ absurd z | inr z ↦ absurd z ] ] ]; once = tt; wait = tt; apart = λ k m. absurd m; backed = λ k m. elim m [ inl x ↦ absurd x | inr x ↦ absurd x ]; owned = λ p m. cc }

-- a sweep leaves no work

free_queue : (gs : List Known) (us : List (Option NotifyFault)) (s : RecursorState) → ((unwatch_each gs us s).queue ≡ s.queue) × ((unwatch_each gs us s).sweep_due ≡ s.sweep_due)
free_queue [] us s = (refl, refl)
free_queue (g ∷ gs) [] s = (refl, refl)
free_queue (g ∷ gs) (u ∷ us) s =
    let a = free_queue gs us (unwatched g.path (refusal u) s) in
    let b = one (refusal u) in
    (a.0 ∙ b.0, a.1 ∙ b.1)
  where
    one : (v : Option NotifyFault) → ((unwatched g.path v s).queue ≡ s.queue) × ((unwatched g.path v s).sweep_due ≡ s.sweep_due)
    one None = (refl, refl)
    one (Some f) = (refl, refl)

released_queue : (us : List (Option NotifyFault)) (s : RecursorState) → ((released us s).queue ≡ s.queue) × ((released us s).sweep_due ≡ s.sweep_due)
released_queue us s = free_queue (idle_registrations (still_known s.owners s.known) s.guards s.registrations) us s

empty_work : (q : List Work) (sweep_due : Bool) → q ≡ [] → sweep_due ≡ false → has_work q sweep_due ≡ false
empty_work q sweep_due e f = rw (e, f) refl

pub sweep_rests : (e : Evidence) (s : RecursorState) → s.queue ≡ [] → has_work (stepped e s).queue (stepped e s).sweep_due ≡ false
sweep_rests e s h =
    let u : RecursorState = stepped_at s.queue e s in
    let a = released_queue e.releases u in
    let b : stepped_at s.queue e s ≡ swept s = ap (λ q. stepped_at q e s) h in
    empty_work (stepped e s).queue (stepped e s).sweep_due (a.0 ∙ ap (λ x. x.queue) b ∙ h) (a.1 ∙ ap (λ x. x.sweep_due) b)
