-- Settings were applied to what is watched.
use Rattle.wx_scan.specs.declared.backend.Backend.{Ghosts}
use Rattle.std.proofs.Common.{◌≡◌, ℕ, Bool, true, false, cond, List, [], ◌∷◌, inl, inr, arith, refl, ap, sym, subst, ◌∙◌, length}
use Rattle.std.specs.Prelude.{not, ◌&&◌, ◌==◌, Option, None, Some, Result, Ok, Err, OnOk}
use Rattle.std.proofs.lemmas.Bool.{eqb-true, and_parts}
use Rattle.wx_watch.specs.declared.watched.WatchedPath.{WatchedPath}
use Rattle.wx_watch.specs.declared.watched.Watcher.{Watcher}
use Rattle.wx_watch.specs.declared.watched.Watcher.TheVariants.{Native, Poll}
use Rattle.wx_config.specs.declared.config.Config.{Config}
use Rattle.wx_tree.specs.Lists.{In}
use Rattle.wx_tree.specs.declared.root.Root.{Root}
use Rattle.wx_recursor.specs.Owners.{has_root}
use Rattle.wx_recursor.specs.Calls.{needs_retry, reconciled}
use Rattle.wx_recursor.specs.States.{RecursorState}
use Rattle.wx_recursor.proofs.Coverage.{has_root_in}
use Rattle.wx_holding.specs.Holding.{state_of}
use Rattle.wx_fs.specs.Kept.{kept_roots}
use Rattle.wx_journal.specs.declared.entry.Entry.{Entry}
use Rattle.wx_journal.specs.declared.entry.Entry.TheVariants.{Applied}
use Rattle.wx_journal.specs.Names.{back_count, item_count}
use Rattle.wx_machine.specs.Start.{Start}
use Rattle.wx_machine.specs.Settings.{settings}
use Rattle.wx_machine.specs.Files.{source, is_any, has_paths, are_all_in, are_same_roots, asked, serves, is_same_watcher, is_same_switch, watches_same}
use Rattle.wx_machine.specs.Due.{Applies, Makes, Open, Comes, agenda, settle, is_quitting}
use Rattle.wx_machine.proofs.SettleLaws.{settle_calm}
use Rattle.wx_machine.proofs.Stepping.{applies_then}
use Rattle.wx_file_turns.specs.declared.files.Files.{Files}
use Rattle.wx_file_turns.specs.declared.files.Watching.{Watching}
use Rattle.wx_file_turns.specs.Applying.{serves_by, any_serves, has_same, is_settled, ServesStill, makes_unless, IsBehind}
use Rattle.wx_file_turns.specs.Standing.{SameRoots, WatchesBy, StandsBy, IntakeStands, FilesStand, revision_of}
use Rattle.wx_file_turns.specs.declared.intake.Intake.{Intake}
use Rattle.wx_file_turns.specs.Intake.{begun}

-- ---- what is the same

same_watcher : (a b : Watcher) → is_same_watcher a b ≡ true → b ≡ a
same_watcher Native Native is = refl
same_watcher Native (Poll interval) is = absurd cc
same_watcher (Poll interval) Native is = absurd cc
same_watcher (Poll interval) (Poll other) is = ap Poll (sym (eqb-true interval other is))

same_switch : (a b : Bool) → is_same_switch a b ≡ true → b ≡ a
same_switch true b is = is
same_switch false true is = absurd cc
same_switch false false is = refl

pub all_in : (rs qs : List Root) → are_all_in rs qs ≡ true → (r : Root) → In r rs → In r qs
all_in [] qs is r m = absurd m
all_in (s ∷ rs) qs is r (inl same) = let parts = and_parts (has_root s qs) (are_all_in rs qs) is in subst (λ (x : Root). In x qs) same (has_root_in s qs parts.0)
all_in (s ∷ rs) qs is r (inr m) = let parts = and_parts (has_root s qs) (are_all_in rs qs) is in all_in rs qs parts.1 r m

pub roots_same : (rs qs : List Root) → are_same_roots rs qs ≡ true → SameRoots qs rs
roots_same rs qs is = let parts = and_parts (are_all_in rs qs) (are_all_in qs rs) is in record { there = all_in qs rs parts.1; back = all_in rs qs parts.0 }

-- ---- roots and filter

-- it stays where nothing changed
pub stays_same : {B : Type 0} {G : Ghosts B} (folder : List ℕ) (c : Config) (back : ℕ) (w v : Watching B G) → v ≡ w → ServesStill folder c back w → has_same c w ≡ true → WatchesBy folder c back v
stays_same folder c back w v same h is =
    let parts = and_parts (are_same_roots (kept_roots w.recursor.cwd c.pathset) (state_of w.recursor.held).roots) ((state_of w.recursor.held).filter == c.filterer) is in
    let made = and_parts (is_same_watcher c.file_watcher w.recursor.kind) (is_same_switch c.follow_symlinks w.recursor.follow) h.serves in
    rw same (record {
      named = h.watches.named;
      unspent = h.watches.unspent;
      has_backend = h.watches.has_backend;
      installed = h.watches.installed;
      kind_kept = same_watcher c.file_watcher w.recursor.kind made.0;
      follow_kept = same_switch c.follow_symlinks w.recursor.follow made.1;
      folder_kept = h.watches.folder_kept;
      roots_kept = subst (λ (f : List ℕ). SameRoots (state_of w.recursor.held).roots (kept_roots f c.pathset)) h.watches.folder_kept (roots_same (kept_roots w.recursor.cwd c.pathset) (state_of w.recursor.held).roots parts.0);
      filter_kept = eqb-true (state_of w.recursor.held).filter c.filterer parts.1;
    })

roots_refl : (rs qs : List Root) → rs ≡ qs → SameRoots rs qs
roots_refl rs qs same = rw same (record { there = λ r m. m; back = λ r m. m })

pub settled_same : {B : Type 0} {G : Ghosts B} (c : Config) (w : Watching B G) → is_settled c w ≡ true → has_same c w ≡ true
settled_same c w is = (and_parts (has_same c w) (not (needs_retry (state_of w.recursor.held))) is).0

-- an epoch begins by what changed
pub begins_anew : {B : Type 0} {G : Ghosts B} (folder : List ℕ) (c : Config) (back : ℕ) (w v : Watching B G) → ServesStill folder c back w → v.back ≡ w.back → v.recursor.spent ≡ w.recursor.spent → v.recursor.back ≡ w.recursor.back → (v.recursor.kind ≡ w.recursor.kind) × (v.recursor.follow ≡ w.recursor.follow) × (v.recursor.cwd ≡ w.recursor.cwd)
    → state_of v.recursor.held ≡ reconciled (kept_roots w.recursor.cwd c.pathset) c.filterer (state_of w.recursor.held) → WatchesBy folder c back v
begins_anew folder c back w v h named spent backed others state =
    let made = and_parts (is_same_watcher c.file_watcher w.recursor.kind) (is_same_switch c.follow_symlinks w.recursor.follow) h.serves in
    record {
      named = named ∙ h.watches.named;
      unspent = spent ∙ h.watches.unspent;
      has_backend = rw backed h.watches.has_backend;
      installed = ap (λ (x : RecursorState). x.backend) state ∙ h.watches.installed;
      kind_kept = others.0 ∙ same_watcher c.file_watcher w.recursor.kind made.0;
      follow_kept = others.1 ∙ same_switch c.follow_symlinks w.recursor.follow made.1;
      folder_kept = others.2 ∙ h.watches.folder_kept;
      roots_kept = roots_refl (state_of v.recursor.held).roots (kept_roots folder c.pathset) (ap (λ (x : RecursorState). x.roots) state ∙ ap (λ (f : List ℕ). kept_roots f c.pathset) h.watches.folder_kept);
      filter_kept = ap (λ (x : RecursorState). x.filter) state;
    }

-- ---- between what was applied and what keeps watches by it

any_kept : (ws : List WatchedPath) (none : Bool) → (length ws == 0) ≡ none → is_any ws ≡ not none
any_kept [] true is = refl
any_kept [] false is = absurd cc
any_kept (w ∷ ws) true is = let no : length (w ∷ ws) ≡ 0 = eqb-true (length (w ∷ ws)) 0 is in absurd (omega (arith, no))
any_kept (w ∷ ws) false is = refl

-- whether any path is to be watched, as it is tested
pub empty_known : {A : Type 0} (xs ys : List A) (tested is : Bool) → ys ≡ xs → tested ≡ (length ys == 0) → tested ≡ is → (length xs == 0) ≡ is
empty_known {A} xs ys tested is same tells holds = ap (λ (zs : List A). length zs == 0) (sym same) ∙ (sym tells ∙ holds)

-- whether a backend stands that serves the settings, by what is kept
pub serves_known : {B : Type 0} {G : Ghosts B} (folder : List ℕ) (c : Config) (o : Option Config) (current : Option ℕ) (f : Option (Watching B G)) → StandsBy folder o current f → any_serves c f ≡ serves c o current
serves_known folder c None None None h = refl
serves_known folder c None None (Some w) h = absurd h
serves_known folder c None (Some back) f h = absurd h
serves_known folder c (Some d) None None h = refl
serves_known folder c (Some d) None (Some w) h = absurd h
serves_known folder c (Some d) (Some back) None h = absurd h
serves_known folder c (Some d) (Some back) (Some w) h = rw (h.kind_kept, h.follow_kept) refl

-- what stands, and serves them
pub serves_still : {B : Type 0} {G : Ghosts B} (folder : List ℕ) (c : Config) (o : Option Config) (current : Option ℕ) (w : Watching B G) → StandsBy folder o current (Some w) → serves_by c w ≡ true → (back : ℕ) × (current ≡ Some back) × ServesStill folder c back w
serves_still folder c None None w h is = absurd h
serves_still folder c None (Some back) w h is = absurd h
serves_still folder c (Some d) None w h is = absurd h
serves_still folder c (Some d) (Some back) w h is = (back, refl, record { before = d; watches = h; serves = is })

makes_known : (paths serves : Bool) → paths ≡ true → cond (paths && not serves) (Comes Makes Open) Open ≡ makes_unless serves
makes_known true true is = refl
makes_known true false is = refl
makes_known false serves is = absurd cc

settled : (p : List Entry) (serves : Bool) → is_quitting p ≡ false → settle p (makes_unless serves) ≡ makes_unless serves
settled p true going = settle_calm p Open going
settled p false going = refl

-- what waits, where settings were applied
pub intake_begun : (s : Start) (i i' : Intake) (p p' : List Entry) (c : Config) (same : Bool) → IntakeStands s i p → c ≡ settings s p → same ≡ watches_same s.folder (settings s p) (source s p).applied → p' ≡ Applied c.change_signal ∷ p → i' ≡ begun c.change_signal same (back_count p) (item_count p) i → IntakeStands s i' p'
intake_begun s i i' p p' c same h is tested grown new = rw (grown, new) (record {
  lane_kept = h.lane_kept;
  asks_kept = ap (λ (d : Config). asked d.change_signal) is;
  since_kept = rw (tested, h.since_kept) refl;
  fence_kept = refl;
  fenced_kept = refl;
})

-- where some path is to be watched
pub is_behind : {B : Type 0} {G : Ghosts B} (s : Start) (f g : Files B G) (p p' : List Entry) (c : Config) → FilesStand s f p → agenda s p ≡ Comes Applies Open → is_quitting p ≡ false → c ≡ settings s p → p' ≡ Applied c.change_signal ∷ p → g.folder ≡ f.folder → g.applied ≡ Some c.change_signal → g.source ≡ f.source → IntakeStands s g.intake p' → (length c.pathset == 0) ≡ false → IsBehind s g p'
is_behind s f g p p' c h owes going is grown same_folder applied same_source intake some =
    let paths : has_paths (settings s p) ≡ true = rw is at (any_kept c.pathset false some) in
    let current : (source s (Applied c.change_signal ∷ p)).current ≡ (source s p).current = ap (λ (b : Bool). cond b (source s p).current None) paths in
    rw grown (record {
      absolute = rw same_folder h.absolute;
      folder_kept = same_folder ∙ h.folder_kept;
      applied_now = refl;
      revision_kept = applied ∙ ap (λ (d : Config). Some d.change_signal) is;
      before = (source s p).applied;
      source_kept = rw (current, same_source) h.source_kept;
      intake_kept = rw grown at intake;
      due = applies_then s p c.change_signal Open owes ∙ ap (settle (Applied c.change_signal ∷ p)) (makes_known (has_paths (settings s p)) (serves (settings s p) (source s p).applied (source s p).current) paths) ∙ settled (Applied c.change_signal ∷ p) (serves (settings s p) (source s p).applied (source s p).current) going ∙ ap (λ (o : Option ℕ). makes_unless (serves (settings s p) (source s p).applied o)) (sym current);
    })

-- where no path is to be watched any more
pub none_watched : {B : Type 0} {G : Ghosts B} (s : Start) (f g : Files B G) (p p' : List Entry) (c : Config) → FilesStand s f p → c ≡ settings s p → p' ≡ Applied c.change_signal ∷ p → g.folder ≡ f.folder → g.applied ≡ Some c.change_signal → g.source ≡ None → IntakeStands s g.intake p' → (length c.pathset == 0) ≡ true → FilesStand s g p'
none_watched s f g p p' c h is grown same_folder applied gone intake none =
    let paths : has_paths (settings s p) ≡ false = rw is at (any_kept c.pathset true none) in
    rw grown (record {
      absolute = rw same_folder h.absolute;
      folder_kept = same_folder ∙ h.folder_kept;
      revision_kept = applied ∙ ap (λ (d : Config). Some d.change_signal) is;
      source_kept = rw (paths, gone) paths;
      intake_kept = rw grown at intake;
    })

none_made : (paths serves : Bool) → paths ≡ false → cond (paths && not serves) (Comes Makes Open) Open ≡ Open
none_made true serves is = absurd cc
none_made false serves is = refl

pub none_owed : (s : Start) (p p' : List Entry) (c : Config) → agenda s p ≡ Comes Applies Open → is_quitting p ≡ false → c ≡ settings s p → p' ≡ Applied c.change_signal ∷ p → (length c.pathset == 0) ≡ true → agenda s p' ≡ Open
none_owed s p p' c owes going is grown none =
    let paths : has_paths (settings s p) ≡ false = rw is at (any_kept c.pathset true none) in
    rw grown (applies_then s p c.change_signal Open owes ∙ ap (settle (Applied c.change_signal ∷ p)) (none_made (has_paths (settings s p)) (serves (settings s p) (source s p).applied (source s p).current) paths) ∙ settle_calm (Applied c.change_signal ∷ p) Open going)

-- ---- what keeps watches was refreshed

stands_for : {B : Type 0} {G : Ghosts B} (folder : List ℕ) (o : Option Config) (current : Option ℕ) (c : Config) (back : ℕ) (v : Watching B G) → o ≡ Some c → current ≡ Some back → WatchesBy folder c back v → StandsBy folder o current (Some v)
stands_for folder o current c back v now by h = rw (now, by) h

pub refreshed : {X E B : Type 0} {G : Ghosts B} (s : Start) (f g : Files B G) (w v : Watching B G) (p : List Entry) (c : Config) (result : Result X E) → IsBehind s f p → c ≡ settings s p → any_serves c f.source ≡ true → f.source ≡ Some w → g ≡ record f { source = Some v } → ((folder : List ℕ) (back : ℕ) → ServesStill folder c back w → OnOk result (WatchesBy folder c back v)) → OnOk result (FilesStand s g p)
refreshed s f g w v p c (Err e) h is alike stood same watches = tt
refreshed s f g w v p c (Ok x) h is alike stood same watches =
    let serving : serves_by c w ≡ true = rw stood at alike in
    let still = serves_still s.folder c h.before (source s p).current w (subst (StandsBy s.folder h.before (source s p).current) stood h.source_kept) serving in
    let by : WatchesBy s.folder (settings s p) still.0 v = subst (λ (d : Config). WatchesBy s.folder d still.0 v) is (watches s.folder still.0 still.2) in
    rw same (record {
      absolute = h.absolute;
      folder_kept = h.folder_kept;
      revision_kept = h.revision_kept ∙ sym (ap revision_of h.applied_now);
      source_kept = stands_for s.folder (source s p).applied (source s p).current (settings s p) still.0 v h.applied_now still.1 by;
      intake_kept = h.intake_kept;
    })

pub none_refreshed : {X E B : Type 0} {G : Ghosts B} (s : Start) (f : Files B G) (p : List Entry) (c : Config) (result : Result X E) → any_serves c f.source ≡ true → f.source ≡ None → OnOk result (FilesStand s f p)
none_refreshed s f p c result alike none = let no : false ≡ true = rw none at alike in absurd cc
