-- How few steps a run takes on a tree that stays still, and what its steps show.
use Rattle.std.specs.Prelude.{◌≡◌, ◌≤◌, ◌+◌, ◌*◌, ℕ, suc, Bool, true, false, if◌then◌else◌, List, [], ◌∷◌, length}
use Rattle.wx_watch.specs.declared.watched.Watcher.{Watcher}
use Rattle.wx_error.specs.declared.runtime.RuntimeError.{RuntimeError}
use Rattle.wx_tree.specs.Trees.{Tree, settle}
use Rattle.wx_tree.specs.declared.root.Root.{Root}
use Rattle.wx_recursor.specs.Written.{handed_error}
use Rattle.wx_recursor.specs.declared.errors.ScanFault.TheVariants.{NotFound}
use Rattle.wx_recursor.specs.declared.errors.ShownError.TheVariants.{PathScan}
use Rattle.wx_settle.specs.Runs.{IsAbsentRoot}
use Rattle.wx_fs.specs.Kept.{kept_roots}
use Rattle.wx_journal.specs.declared.entry.Entry.{Entry}
use Rattle.wx_journal.specs.declared.entry.Entry.TheVariants.{Applied, Show}
use Rattle.wx_journal.specs.Told.{is_turn}
use Rattle.wx_machine.specs.Start.{Start}
use Rattle.wx_machine.specs.Settings.{settings}
use Rattle.wx_machine.specs.Steps.{is_step}
use Rattle.wx_machine.specs.Added.{Added, Each}

-- settings were applied
abbrev pub is_applied : Entry → Bool
is_applied (Applied revision) = true
is_applied (_) = false

-- the roots of the settings that were applied last, seen from the folder, each once
abbrev pub newest_roots : Start → List Entry → List Root
newest_roots s [] = []
newest_roots s (e ∷ p) = if is_applied e then kept_roots s.folder (settings s p).pathset else newest_roots s p

-- how many roots were applied before those, added up
abbrev pub earlier_roots : Start → List Entry → ℕ
earlier_roots s [] = 0
earlier_roots s (e ∷ p) = if is_applied e then length (newest_roots s p) + earlier_roots s p else earlier_roots s p

-- how many steps were done since they were applied
abbrev pub steps_since : List Entry → ℕ
steps_since [] = 0
steps_since (e ∷ p) = if is_applied e then 0 else (if is_step e then suc (steps_since p) else steps_since p)

-- the error says that one of these roots is absent: the way down to it first breaks off at a path at which nothing is
abbrev pub SaysAbsent : Tree → List Root → RuntimeError → Type 0
SaysAbsent t roots error = (kind : Watcher) × (r : Root) × IsAbsentRoot t roots r × (error ≡ handed_error kind (PathScan r.path NotFound))

abbrev pub ShowsAbsent : Start → Tree → List Entry → Entry → Type 0
ShowsAbsent s t p (Show n error wish) = SaysAbsent t (newest_roots s p) error
ShowsAbsent s t p (_) = Unit {0}

-- each error that was shown in the last turn says so of a root that was applied
abbrev pub TurnShowsAbsent : Start → Tree → List Entry → Type 0
TurnShowsAbsent s t [] = Unit {0}
TurnShowsAbsent s t (e ∷ p) = is_turn e ≡ false → ShowsAbsent s t p e × TurnShowsAbsent s t p

-- One step more, since settings were applied, is no more than settle: for the roots that were applied before, those that are applied, and
-- the paths of the tree. What its turn showed is that roots are absent.
pub record IsFewMore (s : Start) (t : Tree) (p : List Entry) : Type 0 where
  pub few : suc (steps_since p) ≤ settle (earlier_roots s p) (length (newest_roots s p)) (length t) (earlier_roots s p * length t)
  pub shows : TurnShowsAbsent s t p

-- so it is of each step
abbrev pub FewSteps : Start → Tree → List Entry → Type 0
FewSteps s t p = Each (λ q e. is_step e ≡ true → IsFewMore s t q) p

-- ---- what entries leave of it

-- neither settings that are applied, nor a step
pub record IsBeside (e : Entry) : Type 0 where
  pub none_applied : is_applied e ≡ false
  pub none_done : is_step e ≡ false

-- the longer journal is the shorter one with such entries on top
abbrev pub AddsBeside : List Entry → List Entry → Type 0
AddsBeside p q = Added (λ r e. IsBeside e) p q

-- the same settings were applied last, and as many steps were done since
pub record SamePlace (s : Start) (p q : List Entry) : Type 0 where
  pub newest : newest_roots s q ≡ newest_roots s p
  pub earlier : earlier_roots s q ≡ earlier_roots s p
  pub steps : steps_since q ≡ steps_since p
