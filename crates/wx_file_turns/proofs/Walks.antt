-- What keeps watches goes on, where nothing fails.
use Rattle.wx_scan.specs.declared.backend.Backend.{Ghosts}
use Rattle.std.proofs.Common.{◌≡◌, ◌≤◌, ◌+◌, ℕ, Bool, true, false, List, [], ◌∷◌, length, inl, inr, arith, refl, ap, sym, subst, ◌∙◌}
use Rattle.std.specs.Prelude.{not, ◌==◌, Option, None, Some, Result, Ok, Err, OnOk, IfOk}
use Rattle.std.proofs.lemmas.Bool.{and_parts}
use Rattle.wx_watch.specs.declared.watched.Watcher.{Watcher}
use Rattle.wx_config.specs.declared.config.Config.{Config}
use Rattle.wx_error.specs.declared.runtime.RuntimeError.{RuntimeError}
use Rattle.wx_tree.specs.Lists.{In}
use Rattle.wx_tree.specs.Paths.{Path}
use Rattle.wx_tree.specs.Places.{place}
use Rattle.wx_tree.specs.Trees.{Tree}
use Rattle.wx_tree.specs.declared.root.Root.{Root}
use Rattle.wx_scan.specs.Backings.{Backing}
use Rattle.wx_scan.specs.Looked.{Looked}
use Rattle.wx_recursor.specs.Calls.{has_work, reconciled}
use Rattle.wx_recursor.specs.States.{RecursorState}
use Rattle.wx_recursor.specs.declared.known.Known.{Known}
use Rattle.wx_holding.specs.Holding.{state_of}
use Rattle.wx_settle.specs.Runs.{RecursorReached}
use Rattle.wx_fs.specs.Kept.{kept_roots}
use Rattle.wx_fs.specs.Settling.{BackendStands, StepsOn}
use Rattle.wx_fs.specs.declared.recursor.Recursor.{Recursor}
use Rattle.wx_fs.specs.declared.recursor.StepResult.{StepResult}
use Rattle.wx_journal.specs.declared.entry.Entry.{Entry}
use Rattle.wx_journal.specs.declared.entry.Entry.TheVariants.{Dir, Make, Show, Word as Said}
use Rattle.wx_journal.specs.declared.entry.Word.TheVariants.{Stepped}
use Rattle.wx_machine.specs.Start.{Start}
use Rattle.wx_machine.specs.Settings.{settings}
use Rattle.wx_machine.specs.Files.{are_same_roots}
use Rattle.wx_machine.specs.Steps.{step_count}
use Rattle.wx_machine.specs.Added.{Added, Same, More}
use Rattle.wx_action.specs.Calls.{IsShown}
use Rattle.wx_file_turns.specs.Calm.{AreCalm, IsCalmTurn}
use Rattle.wx_file_turns.specs.FewSteps.{AddsBeside, FewSteps, IsBeside, IsFewMore, SaysAbsent, ShowsAbsent, TurnShowsAbsent, earlier_roots, newest_roots}
use Rattle.wx_file_turns.specs.Walking.{WalksStep}
use Rattle.wx_file_turns.specs.declared.files.Watching.{Watching}
use Rattle.wx_file_turns.specs.Applying.{Refreshes, is_settled}
use Rattle.wx_file_turns.specs.Judged.{AddsDirs, AreJudgedBy, IsDir}
use Rattle.wx_file_turns.specs.Settling.{AnyOf, AreRefreshed, IsJustApplied, IsRefreshed, IsSound, ShowsOneOf, Walked, Walks}
use Rattle.wx_file_turns.specs.Standing.{works}
use Rattle.wx_file_turns.specs.Stepping.{IsAtStep, IsWatching}
use Rattle.wx_file_turns.proofs.Journals.{Adds, adds_then, calm_before, few_more, few_still, no_rise_first, place_over, shows_over}
use Rattle.wx_file_turns.proofs.EpochWalks.{few_done, kept_once, step_over, walks_anew, walks_first, walks_over, walks_step, walks_still, was_walking}
use Rattle.wx_file_turns.proofs.Applied.{roots_same, settled_same}

-- ---- entries

dir_beside : (e : Entry) → IsDir e → IsBeside e
dir_beside (Dir n path answer) is = record { none_applied = refl; none_done = refl }
dir_beside (_) is = absurd is

pub dirs_beside : (p q : List Entry) → AddsDirs p q → AddsBeside p q
dirs_beside p _ Same = Same
dirs_beside p _ (More e q a is) = More e q (dirs_beside p q a) (dir_beside e is)

dir_shows : (s : Start) (t : Tree) (p : List Entry) (e : Entry) → IsDir e → ShowsAbsent s t p e
dir_shows s t p (Dir n path answer) is = tt
dir_shows s t p (_) is = absurd is

dirs_show : (s : Start) (t : Tree) (p q : List Entry) → AddsDirs p q → Added (λ r e. ShowsAbsent s t r e) p q
dirs_show s t p _ Same = Same
dirs_show s t p _ (More e q a is) = More e q (dirs_show s t p q a) (dir_shows s t q e is)

shown_beside : (errors : List RuntimeError) (e : Entry) → ShowsOneOf errors e → IsBeside e
shown_beside errors (Show n error wish) is = record { none_applied = refl; none_done = refl }
shown_beside errors (_) is = absurd is

pub shows_beside : (errors : List RuntimeError) (p q : List Entry) → Added (λ r e. ShowsOneOf errors e) p q → AddsBeside p q
shows_beside errors p _ Same = Same
shows_beside errors p _ (More e q a is) = More e q (shows_beside errors p q a) (shown_beside errors e is)

shown_absent : (s : Start) (t : Tree) (p q : List Entry) (errors : List RuntimeError) (e : Entry) → newest_roots s q ≡ newest_roots s p → ((error : RuntimeError) → In error errors → SaysAbsent t (newest_roots s p) error) → ShowsOneOf errors e → ShowsAbsent s t q e
shown_absent s t p q errors (Show n error wish) same all is = rw same (all error is)
shown_absent s t p q errors (_) same all is = absurd is

-- what a step shows is of absent roots
shows_absent : (s : Start) (t : Tree) (p : List Entry) (errors : List RuntimeError) (q : List Entry) → ((error : RuntimeError) → In error errors → SaysAbsent t (newest_roots s p) error) → Added (λ r e. ShowsOneOf errors e) p q → Added (λ r e. ShowsAbsent s t r e) p q
shows_absent s t p errors _ all Same = Same
shows_absent s t p errors _ all (More e q a is) = More e q (shows_absent s t p errors q all a) (shown_absent s t p q errors e (place_over s p q (shows_beside errors p q a)).newest all is)

-- an error was shown
pub shown_once : {X E : Type 0} (result : Result X E) (s : Start) (error : RuntimeError) (p q r : List Entry) → q ≡ p → OnOk result (IsShown s error q r) → OnOk result (Added (λ z e. ShowsOneOf (error ∷ []) e) p r)
shown_once (Err e) s error p q r same done = tt
shown_once (Ok x) s error p q r same done = rw (done.shown, same) (More _ p Same (inl refl))

-- one error, and more of them
one_more : (errors : List RuntimeError) (error : RuntimeError) (e : Entry) → In error errors → ShowsOneOf (error ∷ []) e → ShowsOneOf errors e
one_more errors error (Show n shown wish) m (inl same) = subst (λ (x : RuntimeError). In x errors) same m
one_more errors error (Show n shown wish) m (inr none) = absurd none
one_more errors error (_) m is = absurd is

pub shows_more : (errors : List RuntimeError) (error : RuntimeError) (p q r : List Entry) → In error errors → Added (λ z e. ShowsOneOf errors e) p q → Added (λ z e. ShowsOneOf (error ∷ []) e) q r → Added (λ z e. ShowsOneOf errors e) p r
shows_more errors error p q _ m a Same = a
shows_more errors error p q _ m a (More e r b is) = More e r (shows_more errors error p q r m a b) (one_more errors error e m is)

-- the first error that is left, and the others
pub first_of : (old new : List RuntimeError) (error : RuntimeError) → old ≡ error ∷ new → In error old
first_of old new error is = rw is (inl refl)

pub rest_of : (old new : List RuntimeError) (first error : RuntimeError) → old ≡ first ∷ new → In error new → In error old
rest_of old new first error is m = rw is (inr m)

-- directories were judged as a test of each filter says
pub judged : (ok : ℕ → Path → Bool) (s : Start) (n : ℕ) (p : List Entry) → AreCalm ok s p → AreJudgedBy n (ok n) p
judged ok s n [] all = tt
judged ok s n (Dir m path answer ∷ p) all = (λ same. all.0 ∙ ap (λ (k : ℕ). Ok (ok k (place path))) same, judged ok s n p all.1)
judged ok s n (_ ∷ p) all = judged ok s n p all.1

-- ---- backends

pub stands_at : {B : Type 0} (backing : B → Backing) (fits : B → Tree → Type 0) (t : Tree) (ks ls : List Known) (a b : Option B) → ls ≡ ks → b ≡ a → BackendStands backing fits t ks a → BackendStands backing fits t ls b
stands_at backing fits t ks ls a b same backed h = rw (same, backed) h

module _ {B : Type 0} {G : Ghosts B} (backing : B → Backing) (fits : B → Tree → Type 0) (t : Tree) (ok : ℕ → Path → Bool) (s : Start) where
  -- ---- settings are applied

  reconciled_sound : (r v : Recursor B G) (roots : List Root) (n : ℕ) → IsSound backing fits t s r → state_of v.held ≡ reconciled roots n (state_of r.held) → v.back ≡ r.back → v.follow ≡ r.follow → v.cwd ≡ r.cwd → IsSound backing fits t s v
  reconciled_sound r v roots n h state backed links folder = record {
    links = links ∙ h.links;
    folder = folder ∙ h.folder;
    stands = stands_at backing fits t (state_of r.held).registrations (state_of v.held).registrations r.back v.back (ap (λ (u : RecursorState). u.registrations) state) backed h.stands;
  }

  -- watches are begun over a backend that was made
  pub begun_walks : (p p' : List Entry) (c : Config) (back n : ℕ) (kind : Watcher) (follow : Bool) (r : Recursor B G) (v : Watching B G) → IsJustApplied s c p → p' ≡ Make back kind follow (Ok tt) ∷ p → IsSound backing fits t s r → RecursorReached t [] (state_of r.held) → state_of v.recursor.held ≡ reconciled (kept_roots r.cwd c.pathset) n (state_of r.held) → v.recursor.back ≡ r.back → v.recursor.follow ≡ r.follow → v.recursor.cwd ≡ r.cwd → Walks backing fits t ok s p' v
  begun_walks p p' c back n kind follow r v just grown sound reached state backed links folder =
      let newest : newest_roots s p' ≡ kept_roots r.cwd c.pathset = rw grown (just.newest ∙ ap (λ (f : List ℕ). kept_roots f c.pathset) (sym sound.folder)) in
      record {
        sound = reconciled_sound r v.recursor (kept_roots r.cwd c.pathset) n sound state backed links folder;
        walking = walks_first t ok s p' (kept_roots r.cwd c.pathset) n (state_of r.held) (state_of v.recursor.held) reached state (kept_once r.cwd c.pathset) newest (rw grown just.none_yet);
      }

  -- what stands is settled, or begins an epoch
  refreshed_by : (p : List Entry) (c : Config) (w v : Watching B G) (settled : Bool) → is_settled c w ≡ settled → IsJustApplied s c p → Walked backing fits t ok s (earlier_roots s p) w → Refreshes settled c w v → v.recursor.back ≡ w.recursor.back → v.recursor.follow ≡ w.recursor.follow → v.recursor.cwd ≡ w.recursor.cwd → Walks backing fits t ok s p v
  refreshed_by p c w v true is just h same backed links folder =
      let parts = and_parts (are_same_roots (kept_roots w.recursor.cwd c.pathset) (state_of w.recursor.held).roots) ((state_of w.recursor.held).filter == c.filterer) (settled_same c w is) in
      let roots = roots_same (kept_roots w.recursor.cwd c.pathset) (state_of w.recursor.held).roots parts.0 in
      let newest : newest_roots s p ≡ kept_roots w.recursor.cwd c.pathset = just.newest ∙ ap (λ (f : List ℕ). kept_roots f c.pathset) (sym h.sound.folder) in
      rw same (record { sound = h.sound; walking = walks_still t ok s p (earlier_roots s p) (state_of w.recursor.held) h.walked (omega arith) (λ r m. rw newest (roots.there r m)) just.none_yet })
  refreshed_by p c w v false is just h state backed links folder =
      let newest : newest_roots s p ≡ kept_roots w.recursor.cwd c.pathset = just.newest ∙ ap (λ (f : List ℕ). kept_roots f c.pathset) (sym h.sound.folder) in
      record {
        sound = reconciled_sound w.recursor v.recursor (kept_roots w.recursor.cwd c.pathset) c.filterer h.sound state backed links folder;
        walking = walks_anew t ok s p (kept_roots w.recursor.cwd c.pathset) c.filterer (earlier_roots s p) (state_of w.recursor.held) (state_of v.recursor.held) h.walked (omega arith) state (kept_once w.recursor.cwd c.pathset) newest just.none_yet;
      }

  refreshed_walks : {X E : Type 0} (result : Result X E) (p : List Entry) (c : Config) (w v : Watching B G) → IsJustApplied s c p → Walked backing fits t ok s (earlier_roots s p) w → IsRefreshed result c w v → OnOk result (Walks backing fits t ok s p v)
  refreshed_walks (Err e) p c w v just h is = tt
  refreshed_walks (Ok x) p c w v just h is = refreshed_by p c w v (is_settled c w) refl just h is.refreshes is.backend is.links is.folder

  pub any_refreshed : {X E : Type 0} (result : Result X E) (p : List Entry) (c : Config) (a b : Option (Watching B G)) → IsJustApplied s c p → AnyOf (λ w. Walked backing fits t ok s (earlier_roots s p) w) a → AreRefreshed result c a b → OnOk result (AnyOf (λ w. Walks backing fits t ok s p w) b)
  any_refreshed (Err e) p c a b just h is = tt
  any_refreshed (Ok x) p c None None just h is = tt
  any_refreshed (Ok x) p c None (Some v) just h is = absurd is
  any_refreshed (Ok x) p c (Some w) None just h is = absurd is
  any_refreshed (Ok x) p c (Some w) (Some v) just h is = refreshed_walks (Ok x) p c w v just h is

  pub any_walked : (p : List Entry) (a : Option (Watching B G)) → AnyOf (λ w. Walks backing fits t ok s p w) a → AnyOf (λ w. Walked backing fits t ok s (length (newest_roots s p) + earlier_roots s p) w) a
  any_walked p None h = tt
  any_walked p (Some w) h = record { sound = h.sound; walked = was_walking t ok s p (state_of w.recursor.held) h.walking }

  -- ---- entries beside

  pub walks_beside : (p q : List Entry) (w v : Watching B G) → AddsBeside p q → v ≡ w → Walks backing fits t ok s p w → Walks backing fits t ok s q v
  walks_beside p q w v a same h = rw same (record { sound = h.sound; walking = walks_over t ok s p q (state_of w.recursor.held) (place_over s p q a) h.walking })

  -- ---- a step

  step_one : (p p' : List Entry) (w v : Watching B G) (n : ℕ) (r : StepResult) → Walks backing fits t ok s p w → works w ≡ true → IsWatching s w p → IsAtStep s v p' → settings s p' ≡ settings s p → n ≡ (settings s p).filterer → AreCalm ok s p' → AddsDirs p p' → v.recursor.follow ≡ w.recursor.follow → v.recursor.cwd ≡ w.recursor.cwd
      → StepsOn t w.recursor.kind (λ test. AreJudgedBy n test p') (BackendStands backing fits t (state_of v.recursor.held).registrations v.recursor.back) (state_of w.recursor.held) (state_of v.recursor.held) r.errors r.rebuild_backend
      → IsSound backing fits t s v.recursor × WalksStep t ok s p' (state_of v.recursor.held) r.errors r.rebuild_backend
  step_one p p' w v n r h work watching at same number calm dirs links folder steps =
      let by : n ≡ (state_of w.recursor.held).filter = number ∙ sym watching.watches.filter_kept in
      let test : AreJudgedBy n h.walking.inside.call.ok p' = subst (λ (f : Path → Bool). AreJudgedBy n f p') (ap ok by ∙ sym h.walking.inside.filter) (judged ok s n p' calm) in
      let on = steps h.walking.inside.call h.walking.inside.calls h.walking.inside.errors test h.walking.inside.epoch (and_parts (not w.recursor.spent) (has_work (state_of w.recursor.held).queue (state_of w.recursor.held).sweep_due) work).1 in
      let kept : (state_of v.recursor.held).filter ≡ (state_of w.recursor.held).filter = at.watching.watches.filter_kept ∙ ap (λ (c : Config). c.filterer) same ∙ sym watching.watches.filter_kept in (
        record { links = links ∙ h.sound.links; folder = folder ∙ h.sound.folder; stands = on.1 },
        step_over t ok s p p' (state_of v.recursor.held) r.errors r.rebuild_backend (place_over s p p' (dirs_beside p p' dirs)) (walks_step t ok s p w.recursor.kind (state_of w.recursor.held) (state_of v.recursor.held) h.walking r.errors r.rebuild_backend on.0 kept),
      )

  pub step_walks : {E : Type 0} (p p' : List Entry) (w v : Watching B G) (n : ℕ) (result : Result StepResult E) → Walks backing fits t ok s p w → works w ≡ true → IsWatching s w p → OnOk result (IsAtStep s v p') → settings s p' ≡ settings s p → n ≡ (settings s p).filterer → AreCalm ok s p' → AddsDirs p p' → v.recursor.follow ≡ w.recursor.follow → v.recursor.cwd ≡ w.recursor.cwd
      → IfOk result (λ r. StepsOn t w.recursor.kind (λ test. AreJudgedBy n test p') (BackendStands backing fits t (state_of v.recursor.held).registrations v.recursor.back) (state_of w.recursor.held) (state_of v.recursor.held) r.errors r.rebuild_backend)
      → IfOk result (λ r. IsSound backing fits t s v.recursor × WalksStep t ok s p' (state_of v.recursor.held) r.errors r.rebuild_backend)
  step_walks p p' w v n (Err e) h work watching at same number calm dirs links folder steps = tt
  step_walks p p' w v n (Ok r) h work watching at same number calm dirs links folder steps = step_one p p' w v n r h work watching at same number calm dirs links folder steps

  -- the same behind what was lent
  pub step_behind : {E : Type 0} (p q p' : List Entry) (w v : Watching B G) (n : ℕ) (result : Result StepResult E) → Walks backing fits t ok s p w → works w ≡ true → IsWatching s w p → p' ≡ q → OnOk result (IsAtStep s v p') → settings s q ≡ settings s p → n ≡ (settings s p).filterer → AreCalm ok s p' → AddsDirs p q → v.recursor.follow ≡ w.recursor.follow → v.recursor.cwd ≡ w.recursor.cwd
      → IfOk result (λ r. StepsOn t w.recursor.kind (λ test. AreJudgedBy n test q) (BackendStands backing fits t (state_of v.recursor.held).registrations v.recursor.back) (state_of w.recursor.held) (state_of v.recursor.held) r.errors r.rebuild_backend)
      → IfOk result (λ r. IsSound backing fits t s v.recursor × WalksStep t ok s p' (state_of v.recursor.held) r.errors r.rebuild_backend)
  step_behind p q p' w v n result h work watching same stepping settled number calm dirs links folder steps =
      subst (λ (x : List Entry). IfOk result (λ r. IsSound backing fits t s v.recursor × WalksStep t ok s x (state_of v.recursor.held) r.errors r.rebuild_backend)) (sym same)
      (step_walks p q w v n result h work watching (subst (λ (x : List Entry). OnOk result (IsAtStep s v x)) same stepping) settled number (subst (λ (x : List Entry). AreCalm ok s x) same calm) dirs links folder steps)

  -- a step was done, and its errors were shown
  pub work_walks : (p q r : List Entry) (w v : Watching B G) (errors : List RuntimeError) (asks : Bool) → AddsDirs p q → Added (λ z e. ShowsOneOf errors e) q r → TurnShowsAbsent s t p → v ≡ w → IsSound backing fits t s w.recursor → WalksStep t ok s q (state_of w.recursor.held) errors asks → IsFewMore s t r × Walks backing fits t ok s (Said Stepped ∷ r) v
  work_walks p q r w v errors asks dirs shown before same sound h =
      let over = step_over t ok s q r (state_of w.recursor.held) errors asks (place_over s q r (shows_beside errors q r shown)) h in
      let shows = shows_over s t q r (shows_absent s t q errors r h.shown shown) (shows_over s t p q (dirs_show s t p q dirs) before) in
      (few_done t ok s r (state_of w.recursor.held) errors asks over shows, rw same (record { sound = sound; walking = over.walking }))

  -- the same in a turn in which nothing fails
  pub worked : {X E : Type 0} (p q r r' : List Entry) (a b c : Looked) (w v : Watching B G) (errors : List RuntimeError) (asks : Bool) (result : Result X E) → Adds q r → Adds r r' → b.faults ≤ c.faults → AddsDirs p q → Added (λ z e. ShowsOneOf errors e) q r → (asks ≡ false → v ≡ w) → (asks ≡ false → r' ≡ r)
      → IsCalmTurn t ok s r' a c → TurnShowsAbsent s t p → (IsCalmTurn t ok s q a b → IsSound backing fits t s w.recursor × WalksStep t ok s q (state_of w.recursor.held) errors asks) → OnOk result (IsFewMore s t r' × Walks backing fits t ok s (Said Stepped ∷ r') v)
  worked p q r r' a b c w v errors asks (Err e) more last then dirs shown same still calm shows step = tt
  worked p q r r' a b c w v errors asks (Ok x) more last then dirs shown same still calm shows step =
      let before : IsCalmTurn t ok s q a b = record {
        tree = calm.tree;
        stays = record {
          named = calm.stays.named;
          foresees = calm.stays.foresees;
          no_fault = no_rise_first a.faults b.faults c.faults then calm.stays.no_fault;
          calm = calm_before ok s q r' (adds_then q r r' more last) calm.stays.calm;
        };
      } in
      let h = step before in
      rw (still h.1.rebuild) (work_walks p q r w v errors asks dirs shown shows (same h.1.rebuild) h.0 h.1)

  -- the word is said
  pub stepped_walks : {X E : Type 0} (p r p' : List Entry) (a b : Looked) (v : Watching B G) (result : Result X E) → Adds p r → step_count r ≡ step_count p → p' ≡ Said Stepped ∷ r → IsCalmTurn t ok s p' a b → FewSteps s t p → (IsCalmTurn t ok s r a b → IsFewMore s t r × Walks backing fits t ok s (Said Stepped ∷ r) v) → FewSteps s t p' × Walks backing fits t ok s p' v
  stepped_walks p r p' a b v result adds same grown calm few done =
      let before : IsCalmTurn t ok s r a b = record { tree = calm.tree; stays = record { named = calm.stays.named; foresees = calm.stays.foresees; no_fault = calm.stays.no_fault; calm = (rw grown at calm.stays.calm).1 } } in
      let h = done before in
      (rw grown (few_more s t r (few_still s t p r adds same few) h.0), rw grown h.1)
