-- What each call of a recursor keeps.
use Rattle.std.proofs.Common.{◌≡◌, ◌∙◌, ◌++◌, ℕ, Bool, true, false, List, [], ◌∷◌, inl, inr, Result, Ok, Err, refl, sym, subst}
use Rattle.std.specs.Prelude.{◌&&◌, OnErr, OnOk}
use Rattle.std.specs.Coded.{Coded-set, coded_bool}
use Rattle.std.proofs.Math.Logic.{∥∥₁_elim, ∥∥₁_map}
use Rattle.std.proofs.lemmas.Bool.{and_from, and_parts, false≢true, or_left, or_right}
use Rattle.wx_error.specs.declared.runtime.RuntimeError.{RuntimeError}
use Rattle.wx_watch.specs.declared.watched.Watcher.{Watcher}
use Rattle.wx_tree.specs.Lists.{In}
use Rattle.wx_tree.specs.Paths.{Path, holds, same}
use Rattle.wx_tree.proofs.PathLemmas.{same-refl}
use Rattle.wx_tree.specs.declared.root.Root.{Root}
use Rattle.wx_recursor.specs.Calls.{aliases, created, created_one, for_each, fresh, reconciled, removed, removed_one, renamed, rescanned, unsure, unsure_one}
use Rattle.wx_recursor.specs.Owners.{has_path}
use Rattle.wx_recursor.specs.Rebuilds.{installed, lent, prepared, replay_deferred, replayed}
use Rattle.wx_recursor.specs.Sound.{AreCovered, AreSound, IsItemOf, parts, things}
use Rattle.wx_recursor.specs.States.{RecursorState}
use Rattle.wx_recursor.specs.Steps.{stepped, told}
use Rattle.wx_recursor.specs.declared.work.Item.{Item}
use Rattle.wx_recursor.specs.declared.work.Item.TheVariants.{Candidate, Guard, Scan, Visit}
use Rattle.wx_recursor.specs.declared.work.Work.{Work}
use Rattle.wx_recursor.specs.declared.work.Work.TheVariants.{Plain, Probe}
use Rattle.wx_recursor.proofs.Coverage.{created_covers, prepared_covers, reconcile_covers, removed_covers, renamed_covers, replayed_covers, step_covers, unsure_covers}
use Rattle.wx_recursor.proofs.SoundRebuild.{prepared_sound, replayed_sound}
use Rattle.wx_recursor.proofs.SoundSteps.{created_sound, fresh_sound, reconcile_sound, removed_sound, renamed_sound, step_sound, unsure_sound}
use Rattle.wx_recursor.proofs.OwnerLemmas.{has_path_in}
use Rattle.wx_step.specs.Asking.{AreAllowed, FirstAsksBelow}
use Rattle.wx_step.specs.Current.{AreAbout, Current, IsWorkAbout, current}
use Rattle.wx_step.specs.Rests.{IsAtRest}
use Rattle.wx_step.proofs.Rests.{rests_known}
use Rattle.wx_step.proofs.Abouts.{asks_where_allowed, created_about, prepared_about, reconcile_about, removed_about, renamed_about, replayed_about, step_about, unsure_about}
use Rattle.wx_scan.specs.Told.{AreNames}
use Rattle.wx_fs.specs.Standing.{IsKept}
use Rattle.wx_fs.specs.Told.{TellsReplay, TellsStep}

item_moves : (given roots : List Root) (i : Item) → ((r : Root) → In r given → In r roots) → IsItemOf given i → IsItemOf roots i
item_moves given roots (Guard r) f m = f r m
item_moves given roots (Visit r) f m = f r m
item_moves given roots (Scan r p) f m = f r m
item_moves given roots (Candidate r p) f m = f r m

work_moves : (given roots : List Root) (w : Work) → ((r : Root) → In r given → In r roots) → IsWorkAbout given w → IsWorkAbout roots w
work_moves given roots (Plain i) f m = item_moves given roots i f m
work_moves given roots (Probe p owners) f m = m

-- what is about these roots is about those that stand
about_own : (given : List Root) (x : Current) → AreAbout given x → AreAbout x.roots x
about_own given x a = record {
  roots = λ r m. m;
  stand = λ r m. m;
  guards = λ g m. a.stand g.root (a.guards g m);
  queue = λ w m. work_moves given x.roots w a.stand (a.queue w m);
}

-- ---- what a recursor that isn't spent keeps

-- a spent one need keep nothing
pub spent_keeps : (s : RecursorState) (spent : Bool) → spent ≡ true → ∥ (spent ≡ false → IsKept s) ∥₁
spent_keeps s spent e = ∣ (λ f. absurd (cc)) ∣₁

-- a call that keeps it
pub unspent_keeps : (s t : RecursorState) (was now : Bool) → was ≡ false → ∥ (was ≡ false → IsKept s) ∥₁ → (IsKept s → IsKept t) → ∥ (now ≡ false → IsKept t) ∥₁
unspent_keeps s t was now e keeps f = ∥∥₁_map keeps (λ k _. f (k e))

-- a call that changes nothing where it fails
pub either_keeps : {A E : Type 0} (r : Result A E) (s t u : RecursorState) → OnOk r (t ≡ u) → OnErr r (t ≡ s) → (t ≡ u → IsKept s → IsKept t) → IsKept s → IsKept t
either_keeps (Ok a) s t u ok err f k = f ok k
either_keeps (Err e) s t u ok err f k = subst IsKept (sym err) k

names_known : (p : Path) → ∥ AreNames p ∥₁ → AreNames p
names_known [] h = tt
names_known (x ∷ p) h = (∥∥₁_elim h (Coded-set coded_bool _ _) (λ a. a.0), names_known p (∥∥₁_map h (λ a. a.1)))

-- its roots have names for parts
pub names_kept : (s : RecursorState) (spent : Bool) → spent ≡ false → ∥ (spent ≡ false → IsKept s) ∥₁ → (r : Root) → In r s.roots → AreNames r.path
names_kept s spent e keeps r m = names_known r.path (∥∥₁_map keeps (λ k. (k e).named r m))

-- ---- that nothing is left which could be let go

pub restless : (s : RecursorState) (spent : Bool) → ∥ (spent ≡ false → false ≡ true → IsAtRest s) ∥₁
restless s spent = ∣ (λ _ e. absurd (false≢true e)) ∣₁

pub rests_told : (s : RecursorState) (spent rests : Bool) → (rests ≡ true → IsAtRest s) → ∥ (spent ≡ false → rests ≡ true → IsAtRest s) ∥₁
rests_told s spent rests h = ∣ (λ _. h) ∣₁

pub rests_still : (s : RecursorState) (spent rests : Bool) → spent ≡ false → ∥ (spent ≡ false → rests ≡ true → IsAtRest s) ∥₁ → rests ≡ true → IsAtRest s
rests_still s spent rests e told h = rests_known s (∥∥₁_map told (λ f. f e h))

-- where the backend is doesn't count
still_at_rest : (s : RecursorState) → IsAtRest s → IsAtRest (lent s)
still_at_rest s h = record { known = h.known; registrations = h.registrations; waiting = h.waiting; lost = h.lost }

pub rests_lent : (s t : RecursorState) (spent rests : Bool) → t ≡ lent s → ∥ (spent ≡ false → rests ≡ true → IsAtRest s) ∥₁ → ∥ (spent ≡ false → rests ≡ true → IsAtRest t) ∥₁
rests_lent s t spent rests e told = ∥∥₁_map told (λ f unspent still. subst IsAtRest (sym e) (still_at_rest s (f unspent still)))

still_installed : (s : RecursorState) → IsAtRest s → IsAtRest (installed s)
still_installed s h = record { known = h.known; registrations = h.registrations; waiting = h.waiting; lost = h.lost }

pub rests_installed : (s t : RecursorState) (spent rests : Bool) → t ≡ installed s → ∥ (spent ≡ false → rests ≡ true → IsAtRest s) ∥₁ → ∥ (spent ≡ false → rests ≡ true → IsAtRest t) ∥₁
rests_installed s t spent rests e told = ∥∥₁_map told (λ f unspent still. subst IsAtRest (sym e) (still_installed s (f unspent still)))

-- ---- what each call keeps

pub fresh_kept : (s : RecursorState) → s ≡ fresh → IsKept s
fresh_kept s e = subst IsKept (sym e) (record {
  sound = fresh_sound;
  covered = record { owners = λ o m. absurd m; queue = λ w m. absurd m; retries = λ x m. absurd m };
  about = record { roots = λ r m. m; stand = λ r m. m; guards = λ g m. absurd m; queue = λ w m. absurd m };
  named = λ r m. absurd m;
  told = refl;
})

pub reconciled_kept : (rs : List Root) (n : ℕ) (s t : RecursorState) → ((r : Root) → In r rs → AreNames r.path) → t ≡ reconciled rs n s → IsKept s → IsKept t
reconciled_kept rs n s t named e k = subst IsKept (sym e) (record {
  sound = reconcile_sound rs n s k.sound;
  covered = reconcile_covers rs n s k.covered;
  about = reconcile_about rs n s;
  named = named;
  told = k.told;
})

pub rescanned_kept : (s t : RecursorState) → t ≡ rescanned s → IsKept s → IsKept t
rescanned_kept s t e k = subst IsKept (sym e) (record {
  sound = reconcile_sound s.roots s.filter s k.sound;
  covered = reconcile_covers s.roots s.filter s k.covered;
  about = reconcile_about s.roots s.filter s;
  named = k.named;
  told = k.told;
})

pub step_kept : (kind : Watcher) (s t : RecursorState) (errors : List RuntimeError) (rebuild : Bool) → TellsStep kind s t errors rebuild → IsKept s → IsKept t
step_kept kind s t errors rebuild h k =
    let about : AreAbout s.roots (current (stepped h.evidence s)) = step_about s.roots h.evidence s k.about in
    subst IsKept (sym h.hands.state) (record {
      sound = step_sound h.evidence s k.sound;
      covered = step_covers h.evidence s k.covered;
      about = about_own s.roots (current (stepped h.evidence s)) about;
      named = λ r m. k.named r (about.roots r m);
      told = refl;
    })

pub prepared_kept : (s t : RecursorState) → t ≡ prepared s → IsKept s → IsKept t
prepared_kept s t e k = subst IsKept (sym e) (record {
  sound = prepared_sound s k.sound;
  covered = prepared_covers s k.covered;
  about = prepared_about s.roots s k.about;
  named = k.named;
  told = k.told;
})

pub installed_kept : (s t : RecursorState) → t ≡ installed s → IsKept s → IsKept t
installed_kept s t e k = subst IsKept (sym e) (record { sound = k.sound; covered = k.covered; about = k.about; named = k.named; told = k.told })

pub deferred_kept : (s t : RecursorState) → t ≡ replay_deferred s → IsKept s → IsKept t
deferred_kept s t e k = subst IsKept (sym e) (record { sound = k.sound; covered = k.covered; about = k.about; named = k.named; told = k.told })

pub replay_kept : (kind : Watcher) (s t : RecursorState) (errors : List RuntimeError) (rebuild : Bool) → TellsReplay kind s t errors rebuild → IsKept s → IsKept t
replay_kept kind s t errors rebuild h k =
    let about : AreAbout s.roots (current (replayed h.answers s)) = replayed_about s.roots h.answers s k.about in
    subst IsKept (sym h.hands.state) (record {
      sound = replayed_sound h.answers s k.sound;
      covered = replayed_covers h.answers s k.covered;
      about = about_own s.roots (current (replayed h.answers s)) about;
      named = λ r m. k.named r (about.roots r m);
      told = refl;
    })

pub lent_kept : (s t : RecursorState) → t ≡ lent s → IsKept s → IsKept t
lent_kept s t e k = subst IsKept (sym e) (record { sound = k.sound; covered = k.covered; about = k.about; named = k.named; told = k.told })

-- ---- what is kept where the tree changed

-- what is said at each of some paths shows nothing
each_shows_none : (f : Path → RecursorState → RecursorState) (ps : List Path) (s : RecursorState) → ((p : Path) (x : RecursorState) → (f p x).shown ≡ x.shown) → (for_each f ps s).shown ≡ s.shown
each_shows_none f [] s none = refl
each_shows_none f (p ∷ ps) s none = each_shows_none f ps (f p s) none ∙ none p s

-- from its parts
changed_kept : (s u t : RecursorState) → AreSound (things u) → AreCovered (parts u) → AreAbout s.roots (current u) → u.shown ≡ s.shown → t ≡ u → IsKept s → IsKept t
changed_kept s u t sound covered about none e k = subst IsKept (sym e) (record {
  sound = sound;
  covered = covered;
  about = about_own s.roots (current u) about;
  named = λ r m. k.named r (about.roots r m);
  told = none ∙ k.told;
})

pub created_kept : (p : Path) (s t : RecursorState) → t ≡ created p s → IsKept s → IsKept t
created_kept p s t e k =
    changed_kept s (created p s) t (created_sound p s k.sound) (created_covers p s k.covered) (created_about s.roots p s k.about)
    (each_shows_none created_one (aliases p s) s (λ q x. refl)) e k

pub removed_kept : (p : Path) (s t : RecursorState) → t ≡ removed p s → IsKept s → IsKept t
removed_kept p s t e k =
    changed_kept s (removed p s) t (removed_sound p s k.sound) (removed_covers p s k.covered) (removed_about s.roots p s k.about)
    (each_shows_none removed_one (aliases p s) s (λ q x. refl)) e k

pub renamed_kept : (p q : Path) (s t : RecursorState) → t ≡ renamed p q s → IsKept s → IsKept t
renamed_kept p q s t e k =
    changed_kept s (renamed p q s) t (renamed_sound p q s k.sound) (renamed_covers p q s k.covered) (renamed_about s.roots p q s k.about)
    (each_shows_none created_one (aliases q s) (for_each removed_one (aliases p s ++ aliases q s) s) (λ a x. refl) ∙ each_shows_none removed_one (aliases p s ++ aliases q s) s (λ a x. refl)) e k

pub unsure_kept : (p : Path) (s t : RecursorState) → t ≡ unsure p s → IsKept s → IsKept t
unsure_kept p s t e k =
    changed_kept s (unsure p s) t (unsure_sound p s k.sound) (unsure_covers p s k.covered) (unsure_about s.roots p s k.about)
    (each_shows_none unsure_one (aliases p s) s (λ q x. refl)) e k

-- ---- below which paths a step asks, as a test

abbrev asks_there : List Path → List Work → Bool
asks_there under [] = true
asks_there under (Plain (Guard r) ∷ q) = true
asks_there under (Plain (Visit r) ∷ q) = true
asks_there under (Plain (Scan r p) ∷ q) = true
asks_there under (Plain (Candidate r p) ∷ q) = holds r.path p && has_path r.path under
asks_there under (Probe p owners ∷ q) = true

path_there : (p : Path) (qs : List Path) → In p qs → has_path p qs ≡ true
path_there p [] m = absurd m
path_there p (q ∷ qs) (inl e) = or_left (same q p) (has_path p qs) (subst (λ x. same q x ≡ true) e (same-refl q))
path_there p (q ∷ qs) (inr m) = or_right (same q p) (has_path p qs) (path_there p qs m)

asks_to : (under : List Path) (q : List Work) → FirstAsksBelow under q → asks_there under q ≡ true
asks_to under [] a = refl
asks_to under (Plain (Guard r) ∷ q) a = refl
asks_to under (Plain (Visit r) ∷ q) a = refl
asks_to under (Plain (Scan r p) ∷ q) a = refl
asks_to under (Plain (Candidate r p) ∷ q) a = and_from (holds r.path p) (has_path r.path under) a.0 (path_there r.path under a.1)
asks_to under (Probe p owners ∷ q) a = refl

asks_from : (under : List Path) (q : List Work) → asks_there under q ≡ true → FirstAsksBelow under q
asks_from under [] h = tt
asks_from under (Plain (Guard r) ∷ q) h = tt
asks_from under (Plain (Visit r) ∷ q) h = tt
asks_from under (Plain (Scan r p) ∷ q) h = tt
asks_from under (Plain (Candidate r p) ∷ q) h = (let x = and_parts (holds r.path p) (has_path r.path under) h in (x.0, has_path_in r.path under x.1))
asks_from under (Probe p owners ∷ q) h = tt

-- where each recursive root is allowed, a step asks only there
pub kept_asks : (under : List Path) (s : RecursorState) (spent : Bool) → spent ≡ false → ∥ (spent ≡ false → IsKept s) ∥₁ → AreAllowed under s.roots → FirstAsksBelow under s.queue
kept_asks under s spent e keeps allowed =
    asks_from under s.queue (∥∥₁_elim keeps (Coded-set coded_bool _ _) (λ k. asks_to under s.queue (asks_where_allowed under s.roots s (k e).covered (k e).about allowed)))
