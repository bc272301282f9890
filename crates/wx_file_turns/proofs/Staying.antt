-- Steps and rebuilds of what keeps watches leave its roots, the number of its filter, and where its backend is.
use Rattle.std.proofs.Common.{◌≡◌, ℕ, Bool, true, false, cond, List, [], ◌∷◌, refl, ap, ◌∙◌}
use Rattle.std.specs.Prelude.{Option, None, Some}
use Rattle.wx_watch.specs.declared.notify_fault.NotifyFault.{NotifyFault}
use Rattle.wx_watch.specs.declared.watched.Watcher.{Watcher}
use Rattle.wx_error.specs.declared.runtime.RuntimeError.{RuntimeError}
use Rattle.wx_tree.specs.Paths.{Path}
use Rattle.wx_tree.specs.declared.root.Root.{Root}
use Rattle.wx_recursor.specs.Guarding.{guard_placed, guarded, guarded_at, unguarded}
use Rattle.wx_recursor.specs.Holding.{has_retry, keep_retry, show}
use Rattle.wx_recursor.specs.Identities.{has_identity, is_path_gone, refusal}
use Rattle.wx_recursor.specs.Owners.{has_path}
use Rattle.wx_recursor.specs.Owning.{added, added_result, answered, failed_watch, is_held_back, is_known_otherwise, is_resource_fault, is_still, owned, refused, stop, taken, unwatched}
use Rattle.wx_recursor.specs.Rebuilds.{installed, is_replay_over, prepared, replayed, replayed_all, replayed_one}
use Rattle.wx_recursor.specs.States.{Evidence, RecursorState}
use Rattle.wx_recursor.specs.Steps.{acted, acted_item, probed, refound, released, retry_all, scanned, seekers, stepped, stepped_at, tried, unwatch_each, visited}
use Rattle.wx_recursor.specs.declared.answers.AddResult.{AddResult}
use Rattle.wx_recursor.specs.declared.answers.AddResult.TheVariants.{LeftOut, Stands, TryAgain, Vanished}
use Rattle.wx_recursor.specs.declared.answers.BackendPlace.{BackendPlace}
use Rattle.wx_recursor.specs.declared.answers.BackendPlace.TheVariants.{Dropped, Installed}
use Rattle.wx_recursor.specs.declared.answers.Found.{Found}
use Rattle.wx_recursor.specs.declared.answers.Found.TheVariants.{Barred, Entries, Fault, Here, Missing, Refused, Rejected}
use Rattle.wx_recursor.specs.declared.answers.GuardFound.{GuardFound}
use Rattle.wx_recursor.specs.declared.answers.GuardFound.TheVariants.{At, Faulty, Nowhere}
use Rattle.wx_recursor.specs.declared.answers.Watched.{Watched}
use Rattle.wx_recursor.specs.declared.answers.Watched.TheVariants.{Failed, Kept}
use Rattle.wx_recursor.specs.declared.errors.ScanFault.TheVariants.{Io}
use Rattle.wx_recursor.specs.declared.errors.ShownError.TheVariants.{PathScan}
use Rattle.wx_recursor.specs.declared.known.Identity.{Identity}
use Rattle.wx_recursor.specs.declared.known.Known.{Known}
use Rattle.wx_recursor.specs.declared.work.Item.{Item}
use Rattle.wx_recursor.specs.declared.work.Item.TheVariants.{Candidate, Guard, Scan, Visit}
use Rattle.wx_recursor.specs.declared.work.Work.{Work}
use Rattle.wx_recursor.specs.declared.work.Work.TheVariants.{Plain, Probe}
use Rattle.wx_fs.specs.Told.{TellsReplay, TellsStep}

-- what is to be watched, by which filter, and where the backend is
pub record Asked : Type 0 where
  pub roots : List Root
  pub filter : ℕ
  pub backend : BackendPlace

abbrev pub asked : RecursorState → Asked
asked s = record { roots = s.roots; filter = s.filter; backend = s.backend }

either : (b : Bool) (x y : RecursorState) (a : Asked) → asked x ≡ a → asked y ≡ a → asked (cond b x y) ≡ a
either true x y a h g = h
either false x y a h g = g

retry_stays : (r : Root) (p : Path) (s : RecursorState) → asked (keep_retry r p s) ≡ asked s
retry_stays r p s = either (has_retry r p s.retries) _ _ (asked s) refl refl

-- ---- a watch

stop_stays : (f : NotifyFault) (s : RecursorState) → asked (stop f s) ≡ asked s
stop_stays f s = either s.stopped _ _ (asked s) refl refl

failed_stays : (p : Path) (f : NotifyFault) (s : RecursorState) → asked (failed_watch p f s) ≡ asked s
failed_stays p f s = either (has_path p s.failed) _ _ (asked s) refl refl

refused_stays : (p : Path) (f : NotifyFault) (s : RecursorState) → asked (refused p f s) ≡ asked s
refused_stays p f s = either (is_path_gone f) _ _ (asked s) refl (either (is_resource_fault f) _ _ (asked s) (stop_stays f s) (failed_stays p f s))

unwatched_stays : (p : Path) (u : Option NotifyFault) (s : RecursorState) → asked (unwatched p u s) ≡ asked s
unwatched_stays p None s = refl
unwatched_stays p (Some f) s = refl

answered_stays : (p : Path) (i : Identity) (w : Watched) (u : Option NotifyFault) (s : RecursorState) → asked (answered p i w u s) ≡ asked s
answered_stays p i (Failed f) u s = refused_stays p f s
answered_stays p i (Kept look) u s = either (is_still p i look) _ _ (asked s) refl (unwatched_stays p (refusal u) _)

added_stays : (p : Path) (i : Identity) (w : Watched) (u : Option NotifyFault) (s : RecursorState) → asked (added p i w u s) ≡ asked s
added_stays p i w u s = either (is_known_otherwise p i s) _ _ (asked s) refl (either (has_identity i s.registrations) _ _ (asked s) refl (either (is_held_back p s) _ _ (asked s) refl (answered_stays p i w u s)))

taken_stays : (r : Root) (p : Path) (i : Identity) (scans : Bool) (item : Work) (a : AddResult) (s : RecursorState) → asked (taken r p i scans item a s) ≡ asked s
taken_stays r p i scans item Stands s = refl
taken_stays r p i scans item Vanished s = refl
taken_stays r p i scans item TryAgain s = refl
taken_stays r p i scans item LeftOut s = refl

owned_stays : (r : Root) (p : Path) (i : Identity) (scans : Bool) (item : Work) (w : Watched) (u : Option NotifyFault) (s : RecursorState) → asked (owned r p i scans item w u s) ≡ asked s
owned_stays r p i scans item w u s = taken_stays r p i scans item (added_result p i w s) (added p i w u s) ∙ added_stays p i w u s

-- ---- items

placed_stays : (r : Root) (p : Path) (i : Identity) (safe : Bool) (a : AddResult) (s : RecursorState) → asked (guard_placed r p i safe a s) ≡ asked s
placed_stays r p i safe Stands s = refl
placed_stays r p i safe Vanished s = retry_stays r r.path s
placed_stays r p i safe TryAgain s = refl
placed_stays r p i safe LeftOut s = refl

guarded_at_stays : (r : Root) (g : GuardFound) (e : Evidence) (s : RecursorState) → asked (guarded_at r g e s) ≡ asked s
guarded_at_stays r Nowhere e s = refl
guarded_at_stays r (Faulty p c) e s = retry_stays r r.path _
guarded_at_stays r (At p i) e s = placed_stays r p i e.root_is_safe (added_result p i e.watched s) (added p i e.watched e.undone s) ∙ added_stays p i e.watched e.undone s

guarded_stays : (r : Root) (e : Evidence) (s : RecursorState) → asked (guarded r e s) ≡ asked s
guarded_stays r e s = guarded_at_stays r e.guard_found e s

visited_stays : (r : Root) (f : Found) (e : Evidence) (s : RecursorState) → asked (visited r f e s) ≡ asked s
visited_stays r Missing e s = guarded_stays r e _
visited_stays r Barred e s = guarded_stays r e _
visited_stays r Rejected e s = refl
visited_stays r (Fault p c) e s = guarded_stays r e _ ∙ retry_stays r r.path _
visited_stays r (Refused c) e s = refl
visited_stays r (Here i) e s = owned_stays r r.path i _ (Plain (Visit r)) e.watched e.undone (unguarded r (refound r s))
visited_stays r (Entries cs) e s = refl

scanned_stays : (r : Root) (p : Path) (f : Found) (s : RecursorState) → asked (scanned r p f s) ≡ asked s
scanned_stays r p Missing s = refl
scanned_stays r p Barred s = refl
scanned_stays r p Rejected s = refl
scanned_stays r p (Fault q c) s = retry_stays r p _
scanned_stays r p (Refused c) s = refl
scanned_stays r p (Here i) s = refl
scanned_stays r p (Entries cs) s = refl

tried_stays : (r : Root) (p : Path) (f : Found) (e : Evidence) (s : RecursorState) → asked (tried r p f e s) ≡ asked s
tried_stays r p Missing e s = refl
tried_stays r p Barred e s = refl
tried_stays r p Rejected e s = refl
tried_stays r p (Fault q c) e s = retry_stays r p _
tried_stays r p (Refused c) e s = retry_stays r p _
tried_stays r p (Here i) e s = owned_stays r p i true (Plain (Candidate r p)) e.watched e.undone s
tried_stays r p (Entries cs) e s = refl

all_stay : (p : Path) (rs : List Root) (s : RecursorState) → asked (retry_all p rs s) ≡ asked s
all_stay p [] s = refl
all_stay p (r ∷ rs) s = all_stay p rs (keep_retry r p s) ∙ retry_stays r p s

probed_stays : (p : Path) (owners : List Root) (f : Found) (s : RecursorState) → asked (probed p owners f s) ≡ asked s
probed_stays p owners Missing s = refl
probed_stays p owners Barred s = refl
probed_stays p owners Rejected s = refl
probed_stays p owners (Fault q c) s = all_stay p (seekers p owners s.roots s.owners) (show (PathScan q (Io c)) s)
probed_stays p owners (Refused c) s = refl
probed_stays p owners (Here i) s = refl
probed_stays p owners (Entries cs) s = refl

item_stays : (i : Item) (e : Evidence) (s : RecursorState) → asked (acted_item i e s) ≡ asked s
item_stays (Guard r) e s = guarded_stays r e s
item_stays (Visit r) e s = visited_stays r e.found e s
item_stays (Scan r p) e s = scanned_stays r p e.found s
item_stays (Candidate r p) e s = tried_stays r p e.found e s

acted_stays : (w : Work) (e : Evidence) (s : RecursorState) → asked (acted w e s) ≡ asked s
acted_stays (Plain i) e s = item_stays i e s
acted_stays (Probe p owners) e s = probed_stays p owners e.found s

-- ---- the step

at_stays : (q : List Work) (e : Evidence) (s : RecursorState) → asked (stepped_at q e s) ≡ asked s
at_stays [] e s = refl
at_stays (w ∷ q) e s = acted_stays w e _

each_stays : (gs : List Known) (us : List (Option NotifyFault)) (s : RecursorState) → asked (unwatch_each gs us s) ≡ asked s
each_stays [] us s = refl
each_stays (g ∷ gs) [] s = refl
each_stays (g ∷ gs) (u ∷ us) s = each_stays gs us _ ∙ unwatched_stays g.path (refusal u) s

released_stays : (us : List (Option NotifyFault)) (s : RecursorState) → asked (released us s) ≡ asked s
released_stays us s = each_stays _ us s

stepped_stays : (e : Evidence) (s : RecursorState) → asked (stepped e s) ≡ asked s
stepped_stays e s = released_stays e.releases (stepped_at s.queue e s) ∙ at_stays s.queue e s

pub step_stays : (kind : Watcher) (s t : RecursorState) (errors : List RuntimeError) (rebuild : Bool) → TellsStep kind s t errors rebuild → asked t ≡ asked s
step_stays kind s t errors rebuild h = ap asked h.hands.state ∙ stepped_stays h.evidence s

-- ---- a rebuild

one_stays : (g : Known) (w : Watched) (s : RecursorState) → asked (replayed_one g w s) ≡ asked s
one_stays g (Kept look) s = refl
one_stays g (Failed f) s = either (is_path_gone f) _ _ (asked s) refl (either (is_resource_fault f) _ _ (asked s) (stop_stays f s) (either (has_path g.path s.failed) _ _ (asked s) (failed_stays g.path f s) (failed_stays g.path f s)))

replays_stay : (gs : List Known) (ws : List Watched) (s : RecursorState) → asked (replayed_all gs ws s) ≡ asked s
replays_stay [] ws s = refl
replays_stay (g ∷ gs) [] s = refl
replays_stay (g ∷ gs) (w ∷ ws) s = either (is_replay_over s) _ _ (asked s) refl (replays_stay gs ws (replayed_one g w s) ∙ one_stays g w s)

replayed_stays : (ws : List Watched) (s : RecursorState) → asked (replayed ws s) ≡ asked s
replayed_stays ws s = replays_stay s.waiting ws (record s { waiting = [] })

pub replay_stays : (kind : Watcher) (s t : RecursorState) (errors : List RuntimeError) (rebuild : Bool) → TellsReplay kind s t errors rebuild → asked t ≡ asked s
replay_stays kind s t errors rebuild h = ap asked h.hands.state ∙ replayed_stays h.answers s

-- a backend that was dropped, and another that was installed
pub prepared_stays : (s : RecursorState) → asked (prepared s) ≡ record { roots = s.roots; filter = s.filter; backend = Dropped }
prepared_stays s = refl

pub installed_stays : (s : RecursorState) → asked (installed s) ≡ record { roots = s.roots; filter = s.filter; backend = Installed }
installed_stays s = refl
