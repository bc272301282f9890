-- What is kept of what is watched stands for a journal.
use Rattle.wx_scan.specs.declared.backend.Backend.{Ghosts}
use Rattle.std.specs.Prelude.{◌≡◌, ℕ, Bool, true, false, not, ◌&&◌, ◌==◌, if◌then◌else◌, Option, None, Some, is_some, List}
use Rattle.wx_config.specs.declared.config.Config.{Config}
use Rattle.wx_tree.specs.Lists.{In}
use Rattle.wx_tree.specs.declared.root.Root.{Root}
use Rattle.wx_paths.specs.Paths.{is_absolute}
use Rattle.wx_recursor.specs.Calls.{has_work}
use Rattle.wx_recursor.specs.declared.answers.BackendPlace.TheVariants.{Installed}
use Rattle.wx_holding.specs.Holding.{state_of}
use Rattle.wx_fs.specs.Kept.{kept_roots}
use Rattle.wx_journal.specs.declared.entry.Entry.{Entry}
use Rattle.wx_machine.specs.Start.{Start}
use Rattle.wx_machine.specs.Files.{source, has_paths}
use Rattle.wx_file_turns.specs.declared.files.Files.{Files}
use Rattle.wx_file_turns.specs.declared.files.Watching.{Watching}
use Rattle.wx_file_turns.specs.declared.intake.Intake.{Intake}

-- these are the same roots, in whatever order
pub record SameRoots (rs qs : List Root) : Type 0 where
  pub there : (r : Root) → In r rs → In r qs
  pub back : (r : Root) → In r qs → In r rs

-- It keeps watches as these settings say, over the backend of this name, which is installed. Paths are taken from the folder.
pub record WatchesBy {B : Type 0} {G : Ghosts B} (folder : List ℕ) (c : Config) (back : ℕ) (w : Watching B G) : Type 0 where
  pub named : w.back ≡ back
  pub unspent : w.recursor.spent ≡ false
  pub has_backend : is_some w.recursor.back ≡ true
  pub installed : (state_of w.recursor.held).backend ≡ Installed
  pub kind_kept : w.recursor.kind ≡ c.file_watcher
  pub follow_kept : w.recursor.follow ≡ c.follow_symlinks
  pub folder_kept : w.recursor.cwd ≡ folder
  pub roots_kept : SameRoots (state_of w.recursor.held).roots (kept_roots folder c.pathset)
  pub filter_kept : (state_of w.recursor.held).filter ≡ c.filterer

-- it does so exactly where settings were applied and a backend stands; else those that were applied name no path
abbrev pub StandsBy : {B : Type 0} {G : Ghosts B} → List ℕ → Option Config → Option ℕ → Option (Watching B G) → Type 0
StandsBy folder None None None = Unit {0}
StandsBy folder None None (Some w) = ⊥
StandsBy folder None (Some back) w = ⊥
StandsBy folder (Some c) None None = has_paths c ≡ false
StandsBy folder (Some c) None (Some w) = ⊥
StandsBy folder (Some c) (Some back) None = ⊥
StandsBy folder (Some c) (Some back) (Some w) = WatchesBy folder c back w

abbrev pub is_revision : ℕ → Option ℕ → Bool
is_revision n None = false
is_revision n (Some m) = m == n

abbrev pub revision_of : Option Config → Option ℕ
revision_of None = None
revision_of (Some c) = Some c.change_signal

-- What waits stands for a journal: the lane, in which so many events may wait, and what is known of it.
pub record IntakeStands (s : Start) (i : Intake) (p : List Entry) : Type 0 where
  pub lane_kept : i.lane ≡ record { items = (source s p).lane; size = s.config.event_channel_size }
  pub asks_kept : i.asks ≡ (source s p).asks
  pub since_kept : i.since ≡ (source s p).since
  pub fence_kept : i.fence ≡ (source s p).fence
  pub fenced_kept : i.fenced ≡ (source s p).fenced

-- It keeps what the journal says, for this start: which revision was applied last, what keeps watches by it, and what waits.
pub record FilesStand {B : Type 0} {G : Ghosts B} (s : Start) (f : Files B G) (p : List Entry) : Type 0 where
  pub absolute : is_absolute f.folder ≡ true
  pub folder_kept : f.folder ≡ s.folder
  pub revision_kept : f.applied ≡ revision_of (source s p).applied
  pub source_kept : StandsBy s.folder (source s p).applied (source s p).current f.source
  pub intake_kept : IntakeStands s f.intake p

-- what keeps watches has work
abbrev pub works : {B : Type 0} {G : Ghosts B} → Watching B G → Bool
works w = not w.recursor.spent && has_work (state_of w.recursor.held).queue (state_of w.recursor.held).sweep_due

abbrev pub any_works : {B : Type 0} {G : Ghosts B} → Option (Watching B G) → Bool
any_works None = false
any_works (Some w) = works w

abbrev pub owed : Bool → ℕ
owed has_work = if has_work then 1 else 0

-- how many steps may come without a look: one where there is work
abbrev pub owing : {B : Type 0} {G : Ghosts B} → Files B G → ℕ
owing f = owed (any_works f.source)
