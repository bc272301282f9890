-- What is kept of what is watched stands on.
use Rattle.wx_scan.specs.declared.backend.Backend.{Ghosts}
use Rattle.std.proofs.Common.{◌≡◌, ◌<◌, ℕ, Bool, true, false, cond, List, [], ◌∷◌, ◌++◌, inl, inr, arith, refl, ap, sym, subst, ◌∙◌}
use Rattle.std.specs.Prelude.{◌⊎◌, Option, None, Some, is_some, Result, Ok, Err, ◌||◌, ◌&&◌}
use Rattle.std.proofs.lemmas.Bool.{eqb-true}
use Rattle.wx_watch.specs.declared.notify_fault.NotifyFault.{NotifyFault}
use Rattle.wx_watch.specs.declared.watched.WatchedPath.{WatchedPath}
use Rattle.wx_config.specs.Changes.{changed}
use Rattle.wx_config.specs.declared.change.Change.{Change}
use Rattle.wx_config.specs.declared.config.Config.{Config}
use Rattle.wx_paths.specs.Paths.{is_absolute}
use Rattle.wx_tree.specs.Lists.{In}
use Rattle.wx_tree.specs.Paths.{Path, holds_below}
use Rattle.wx_tree.specs.declared.root.Root.{Root}
use Rattle.wx_lane.specs.Public.{named}
use Rattle.wx_lane.specs.declared.lane.LaneItem.{LaneItem}
use Rattle.wx_scan.specs.Checks.{is_below_any}
use Rattle.wx_recursor.specs.Owners.{has_root}
use Rattle.wx_step.specs.Asking.{AreAllowed}
use Rattle.wx_fs.specs.Kept.{keep_root, keep_roots, kept_root, kept_roots}
use Rattle.wx_holding.specs.Holding.{state_of}
use Rattle.wx_journal.specs.declared.entry.Entry.{Entry}
use Rattle.wx_journal.specs.declared.entry.Entry.TheVariants.{Offer, Word as Said, Changed, Make, Applied, LetGo}
use Rattle.wx_journal.specs.declared.entry.LetGoCause.{LetGoCause}
use Rattle.wx_journal.specs.declared.entry.LetGoCause.TheVariants.{Full, Obsolete, Uncovered}
use Rattle.wx_journal.specs.declared.entry.Word.{Word}
use Rattle.wx_journal.specs.declared.entry.Word.TheVariants.{Stepped}
use Rattle.wx_journal.specs.Names.{item_count}
use Rattle.wx_machine.specs.Start.{Start}
use Rattle.wx_machine.specs.Settings.{settings, first_changed, pending}
use Rattle.wx_machine.proofs.PlanLaws.{raised}
use Rattle.wx_machine.specs.Files.{Source, source, let_go, offer_item, said, stand, applied, is_applied, is_below_recursive, unwatched}
use Rattle.wx_file_turns.specs.declared.files.Files.{Files}
use Rattle.wx_file_turns.specs.declared.files.Watching.{Watching}
use Rattle.wx_file_turns.specs.declared.intake.Intake.{Intake}
use Rattle.wx_file_turns.specs.Standing.{SameRoots, WatchesBy, StandsBy, IntakeStands, FilesStand, is_revision, revision_of}
use Rattle.wx_file_turns.specs.Judged.{recursive_places, IsUpToDate}
use Rattle.wx_file_turns.specs.Intake.{nothing_brought, stepped}
use Rattle.wx_file_turns.specs.Stepping.{IsWatching, KeepsBrought, StaysBrought}
use Rattle.wx_file_turns.proofs.Staying.{Asked, asked}

-- ---- settings of the revision that stands are those that stand

abbrev IsNoLater : Option Config → Config → Type 0
IsNoLater None c = Unit {0}
IsNoLater (Some a) c = (a ≡ c) ⊎ (a.change_signal < c.change_signal)

later_by_one : (change : Change) (o : Option Config) (c : Config) → IsNoLater o c → IsNoLater o (changed change c)
later_by_one change None c h = tt
later_by_one change (Some a) c (inl same) = inr (let up = raised change c in let was : a.change_signal ≡ c.change_signal = ap (λ (d : Config). d.change_signal) same in omega (arith, up, was))
later_by_one change (Some a) c (inr less) = inr (let up = raised change c in omega (arith, up, less))

later_by : (changes : List Change) (o : Option Config) (c : Config) → IsNoLater o c → IsNoLater o (first_changed changes c)
later_by [] o c h = h
later_by (change ∷ changes) o c h = later_by_one change o c h

stood : (back : ℕ) (answer : Result (Unit {0}) NotifyFault) (x : Source) → (stand back answer x).applied ≡ x.applied
stood back (Ok done) x = refl
stood back (Err fault) x = refl

stepped_fence : (b : Bool) (x : Source) (items : ℕ) → (cond b x (record x { fence = items })).applied ≡ x.applied
stepped_fence true x items = refl
stepped_fence false x items = refl

said_word : (items : ℕ) (word : Word) (x : Source) → (said items word x).applied ≡ x.applied
said_word items Stepped x = stepped_fence x.fenced x items
said_word items (_) x = refl

went : (cause : LetGoCause) (item : ℕ) (x : Source) → (let_go cause item x).applied ≡ x.applied
went Full item x = refl
went Obsolete item x = refl
went Uncovered item x = refl

was_offered : (item : Option ℕ) (x : Source) → (offer_item item x).applied ≡ x.applied
was_offered None x = refl
was_offered (Some item) x = refl

no_later : (s : Start) (p : List Entry) → IsNoLater (source s p).applied (settings s p)
no_later s [] = tt
no_later s (Make back watcher follow answer ∷ p) = subst (λ (o : Option Config). IsNoLater o (settings s p)) (sym (stood back answer (source s p))) (no_later s p)
no_later s (Applied revision ∷ p) = inl refl
no_later s (Said word ∷ p) = subst (λ (o : Option Config). IsNoLater o (settings s p)) (sym (said_word (item_count p) word (source s p))) (no_later s p)
no_later s (LetGo item cause ∷ p) = subst (λ (o : Option Config). IsNoLater o (settings s p)) (sym (went cause item (source s p))) (no_later s p)
no_later s (Offer name item result event priority ∷ p) = subst (λ (o : Option Config). IsNoLater o (settings s p)) (sym (was_offered item (source s p))) (no_later s p)
no_later s (Changed revision ∷ p) = later_by (pending p) (source s p).applied (settings s p) (no_later s p)
no_later s (_ ∷ p) = no_later s p

same_revision : (o : Option Config) (c : Config) → IsNoLater o c → is_applied c o ≡ true → o ≡ Some c
same_revision None c h is = absurd cc
same_revision (Some a) c (inl same) is = ap (λ (d : Config). Some d) same
same_revision (Some a) c (inr less) is = let same : a.change_signal ≡ c.change_signal = eqb-true a.change_signal c.change_signal is in absurd (omega (arith, same, less))

pub up_to_date : (s : Start) (p : List Entry) → is_applied (settings s p) (source s p).applied ≡ true → IsUpToDate s p
up_to_date s p is = same_revision (source s p).applied (settings s p) (no_later s p) is

-- whether it was applied, as it is kept
pub revision_known : (c : Config) (o : Option Config) → is_revision c.change_signal (revision_of o) ≡ is_applied c o
revision_known c None = refl
revision_known c (Some a) = refl

-- what was applied is what stands
pub applied_is : (s : Start) (p : List Entry) → IsUpToDate s p → applied s p ≡ settings s p
applied_is s p now = rw now refl

-- ---- directories below the paths that are watched

below_one : (b : Bool) (q p : Path) (qs : List Path) → is_below_any (cond b (q ∷ qs) qs) p ≡ ((b && holds_below q p) || is_below_any qs p)
below_one true q p qs = refl
below_one false q p qs = refl

below_places : (folder : List ℕ) (ws : List WatchedPath) (p : Path) → is_below_any (recursive_places folder ws) p ≡ is_below_recursive folder ws p
below_places folder [] p = refl
below_places folder (w ∷ ws) p = below_one w.recursive (named folder w.path) p (recursive_places folder ws) ∙ ap (λ (b : Bool). (w.recursive && holds_below (named folder w.path) p) || b) (below_places folder ws p)

pub below_known : (folder : List ℕ) (ws : List WatchedPath) (p : Path) → is_below_any (recursive_places folder ws) p ≡ true → is_below_recursive folder ws p ≡ true
below_known folder ws p h = sym (below_places folder ws p) ∙ h

in_more : (x : Root) (rs : List Root) (y : Root) → In x (rs ++ y ∷ []) → In x rs ⊎ (y ≡ x)
in_more x [] y (inl same) = inr same
in_more x [] y (inr none) = absurd none
in_more x (r ∷ rs) y (inl same) = inl (inl same)
in_more x (r ∷ rs) y (inr m) = cases (in_more x rs y m)
  where
    cases : (In x rs ⊎ (y ≡ x)) → In x (r ∷ rs) ⊎ (y ≡ x)
    cases (inl m) = inl (inr m)
    cases (inr same) = inr same

pub in_kept : (b : Bool) (x : Root) (rs : List Root) (y : Root) → In x (cond b rs (rs ++ y ∷ [])) → In x rs ⊎ (y ≡ x)
in_kept true x rs y m = inl m
in_kept false x rs y m = in_more x rs y m

place_later : (b : Bool) (q : Path) (p : Path) (qs : List Path) → In p qs → In p (cond b (q ∷ qs) qs)
place_later true q p qs m = inr m
place_later false q p qs m = m

place_now : (b : Bool) (q : Path) (qs : List Path) → b ≡ true → In q (cond b (q ∷ qs) qs)
place_now true q qs is = inl refl
place_now false q qs is = absurd cc

places_kept : (folder : List ℕ) (ws : List WatchedPath) (rs : List Root) (r : Root) → In r (keep_roots folder ws rs) → r.recursive ≡ true → In r rs ⊎ In r.path (recursive_places folder ws)
places_kept folder [] rs r m is = inl m
places_kept folder (w ∷ ws) rs r m is = cases (places_kept folder ws (keep_root (kept_root folder w) rs) r m is)
  where
    this : (kept_root folder w ≡ r) → In r.path (recursive_places folder (w ∷ ws))
    this same =
        let on : w.recursive ≡ true = ap (λ (x : Root). x.recursive) same ∙ is in
        subst (λ (p : Path). In p (recursive_places folder (w ∷ ws))) (ap (λ (x : Root). x.path) same) (place_now w.recursive (named folder w.path) (recursive_places folder ws) on)

    first : (In r rs ⊎ (kept_root folder w ≡ r)) → In r rs ⊎ In r.path (recursive_places folder (w ∷ ws))
    first (inl m) = inl m
    first (inr same) = inr (this same)

    cases : (In r (keep_root (kept_root folder w) rs) ⊎ In r.path (recursive_places folder ws)) → In r rs ⊎ In r.path (recursive_places folder (w ∷ ws))
    cases (inl m) = first (in_kept (has_root (kept_root folder w) rs) r rs (kept_root folder w) m)
    cases (inr m) = inr (place_later w.recursive (named folder w.path) r.path (recursive_places folder ws) m)

none_left : (folder : List ℕ) (ws : List WatchedPath) (r : Root) → (In r [] ⊎ In r.path (recursive_places folder ws)) → In r.path (recursive_places folder ws)
none_left folder ws r (inl none) = absurd none
none_left folder ws r (inr m) = m

-- what keeps watches asks only below recursive paths
pub allowed : (folder : List ℕ) (ws : List WatchedPath) (rs : List Root) → SameRoots rs (kept_roots folder ws) → AreAllowed (recursive_places folder ws) rs
allowed folder ws rs same r m is = none_left folder ws r (places_kept folder ws [] r (same.there r m) is)

-- ---- what keeps watches

-- it does so over the calls of a step
pub watches_on : {B : Type 0} {G : Ghosts B} (folder : List ℕ) (c : Config) (back back' : ℕ) (w v : Watching B G) → WatchesBy folder c back w → v.back ≡ back' → v.recursor.spent ≡ false → is_some v.recursor.back ≡ true → (v.recursor.kind ≡ w.recursor.kind) × (v.recursor.follow ≡ w.recursor.follow) × (v.recursor.cwd ≡ w.recursor.cwd)
    → asked (state_of v.recursor.held) ≡ asked (state_of w.recursor.held) → WatchesBy folder c back' v
watches_on folder c back back' w v h named unspent installed others same = record {
  named = named;
  unspent = unspent;
  has_backend = installed;
  installed = ap (λ (x : Asked). x.backend) same ∙ h.installed;
  kind_kept = others.0 ∙ h.kind_kept;
  follow_kept = others.1 ∙ h.follow_kept;
  folder_kept = others.2 ∙ h.folder_kept;
  roots_kept = subst (λ (rs : List Root). SameRoots rs (kept_roots folder c.pathset)) (sym (ap (λ (x : Asked). x.roots) same)) h.roots_kept;
  filter_kept = ap (λ (x : Asked). x.filter) same ∙ h.filter_kept;
}

-- where the settings that stand were applied and it stands, it keeps watches by them
standing : {B : Type 0} {G : Ghosts B} (folder : List ℕ) (o : Option Config) (current : Option ℕ) (c : Config) (w : Watching B G) → o ≡ Some c → StandsBy folder o current (Some w) → (back : ℕ) × (current ≡ Some back) × WatchesBy folder c back w
standing folder None current c w is h = absurd cc
standing folder (Some d) None c w is h = absurd h
standing folder (Some d) (Some back) c w is h = let same : d ≡ c = cc is in (back, refl, subst (λ (d : Config). WatchesBy folder d back w) same h)

pub files_watch : {B : Type 0} {G : Ghosts B} (s : Start) (f : Files B G) (w : Watching B G) (p : List Entry) → FilesStand s f p → IsUpToDate s p → f.source ≡ Some w → IsWatching s w p
files_watch s f w p h now is =
    let found = standing s.folder (source s p).applied (source s p).current (settings s p) w now (subst (StandsBy s.folder (source s p).applied (source s p).current) is h.source_kept) in
    record { applied_now = now; back = found.0; current = found.1; watches = found.2 }

pub watch_files : {B : Type 0} {G : Ghosts B} (s : Start) (f : Files B G) (w : Watching B G) (p : List Entry) → IsWatching s w p → f.source ≡ Some w → f.applied ≡ Some (settings s p).change_signal → f.folder ≡ s.folder → is_absolute f.folder ≡ true → IntakeStands s f.intake p → FilesStand s f p
watch_files s f w p h is revision folder absolute intake = record {
  absolute = absolute;
  folder_kept = folder;
  revision_kept = revision ∙ sym (ap revision_of h.applied_now);
  source_kept = rw (h.applied_now, h.current, is) h.watches;
  intake_kept = intake;
}

-- what waits stands for each journal that says the same of what is watched
pub intake_still : (s : Start) (i : Intake) (p p' : List Entry) → source s p' ≡ source s p → IntakeStands s i p → IntakeStands s i p'
intake_still s i p p' same h = record { lane_kept = rw same h.lane_kept; asks_kept = rw same h.asks_kept; since_kept = rw same h.since_kept; fence_kept = rw same h.fence_kept; fenced_kept = rw same h.fenced_kept }

-- so it does where nothing was brought, and what waits is as it was
pub intake_on : (s : Start) (i : Intake) (p p' : List Entry) → StaysBrought s p p' → IntakeStands s i p → IntakeStands s i p'
intake_on s i p p' k h = record {
  lane_kept = h.lane_kept ∙ ap (λ (items : List LaneItem). record { items = items; size = s.config.event_channel_size }) (sym k.lane_kept);
  asks_kept = h.asks_kept ∙ sym k.asks_kept;
  since_kept = h.since_kept ∙ sym k.since_kept;
  fence_kept = h.fence_kept ∙ sym k.fence_kept;
  fenced_kept = h.fenced_kept ∙ sym k.fenced_kept;
}

-- and where a step was done, behind which the name moves below which all is heard before it is told that all is watched
record MovesFence (b : Bool) (n : ℕ) (i i' : Intake) : Type 0 where
  lane_is : i'.lane ≡ i.lane
  asks_is : i'.asks ≡ i.asks
  since_is : i'.since ≡ i.since
  fenced_is : i'.fenced ≡ i.fenced
  fence_is : i'.fence ≡ cond b i.fence n

moves : (b : Bool) (n : ℕ) (i : Intake) → MovesFence b n i (cond b i (record i { fence = n }))
moves true n i = record { lane_is = refl; asks_is = refl; since_is = refl; fenced_is = refl; fence_is = refl }
moves false n i = record { lane_is = refl; asks_is = refl; since_is = refl; fenced_is = refl; fence_is = refl }

pub intake_stepped : (s : Start) (i i' : Intake) (p p' : List Entry) (items : ℕ) → IntakeStands s i p → KeepsBrought s p p' → items ≡ item_count p' → i' ≡ stepped items i → IntakeStands s i' p'
intake_stepped s i i' p p' items h k counted new =
    let m = moves i.fenced items i in
    rw new (record {
      lane_kept = m.lane_is ∙ h.lane_kept ∙ ap (λ (items : List LaneItem). record { items = items; size = s.config.event_channel_size }) (sym k.lane_kept);
      asks_kept = m.asks_is ∙ h.asks_kept ∙ sym k.asks_kept;
      since_kept = m.since_is ∙ h.since_kept ∙ sym k.since_kept;
      fence_kept = m.fence_is ∙ (rw (h.fenced_kept, h.fence_kept, counted, k.items_kept) (sym k.fence_is));
      fenced_kept = m.fenced_is ∙ h.fenced_kept ∙ sym k.fenced_kept;
    })

-- so does what is kept
pub files_still : {B : Type 0} {G : Ghosts B} (s : Start) (f : Files B G) (p p' : List Entry) → source s p' ≡ source s p → FilesStand s f p → FilesStand s f p'
files_still s f p p' same h = record {
  absolute = h.absolute;
  folder_kept = h.folder_kept;
  revision_kept = h.revision_kept ∙ sym (ap (λ (x : Source). revision_of x.applied) same);
  source_kept = rw same h.source_kept;
  intake_kept = intake_still s f.intake p p' same h.intake_kept;
}

-- at the beginning
intake_new : (s : Start) (i : Intake) (p : List Entry) (size : ℕ) → s.config.event_channel_size ≡ size → source s p ≡ unwatched → i ≡ nothing_brought size → IntakeStands s i p
intake_new s i p size fits none new = rw new (record {
  lane_kept = rw (none, fits) refl;
  asks_kept = sym (ap (λ (x : Source). x.asks) none);
  since_kept = sym (ap (λ (x : Source). x.since) none);
  fence_kept = sym (ap (λ (x : Source). x.fence) none);
  fenced_kept = sym (ap (λ (x : Source). x.fenced) none);
})

pub files_new : {B : Type 0} {G : Ghosts B} (s : Start) (f : Files B G) (p : List Entry) (size : ℕ) → is_absolute f.folder ≡ true → f.applied ≡ None → f.source ≡ None → f.intake ≡ nothing_brought size → s.folder ≡ f.folder → s.config.event_channel_size ≡ size → source s p ≡ unwatched → FilesStand s f p
files_new s f p size absolute applied gone new folder fits none = record {
  absolute = absolute;
  folder_kept = sym folder;
  revision_kept = applied ∙ sym (ap (λ (x : Source). revision_of x.applied) none);
  source_kept = rw (none, gone) tt;
  intake_kept = intake_new s f.intake p size fits none new;
}

-- where none stands no backend does
none_stands : {B : Type 0} {G : Ghosts B} (folder : List ℕ) (o : Option Config) (current : Option ℕ) (f : Option (Watching B G)) → f ≡ None → StandsBy folder o current f → current ≡ None
none_stands folder None None f is h = refl
none_stands folder None (Some back) f is h = absurd h
none_stands folder (Some c) None f is h = refl
none_stands folder (Some c) (Some back) None is h = absurd h
none_stands folder (Some c) (Some back) (Some w) is h = absurd cc

pub files_none : {B : Type 0} {G : Ghosts B} (s : Start) (f : Files B G) (p : List Entry) → FilesStand s f p → f.source ≡ None → (source s p).current ≡ None
files_none s f p h is = none_stands s.folder (source s p).applied (source s p).current f.source is h.source_kept
