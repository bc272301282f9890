-- How settings are applied to what is watched.
use Rattle.wx_scan.specs.declared.backend.Backend.{Ghosts}
use Rattle.std.specs.Prelude.{◌≡◌, ℕ, Bool, true, false, not, ◌&&◌, ◌==◌, if◌then◌else◌, Option, None, Some, List}
use Rattle.wx_config.specs.declared.config.Config.{Config}
use Rattle.wx_paths.specs.Paths.{is_absolute}
use Rattle.wx_recursor.specs.Calls.{needs_retry, reconciled}
use Rattle.wx_holding.specs.Holding.{state_of}
use Rattle.wx_fs.specs.Kept.{kept_roots}
use Rattle.wx_journal.specs.declared.entry.Entry.{Entry}
use Rattle.wx_machine.specs.Start.{Start}
use Rattle.wx_machine.specs.Settings.{settings, revision}
use Rattle.wx_machine.specs.Files.{source, has_paths, are_same_roots, serves, is_same_watcher, is_same_switch}
use Rattle.wx_machine.specs.Due.{Agenda, Comes, Makes, Open, agenda}
use Rattle.wx_file_turns.specs.declared.files.Files.{Files}
use Rattle.wx_file_turns.specs.declared.files.Watching.{Watching}
use Rattle.wx_file_turns.specs.Standing.{IntakeStands, StandsBy, WatchesBy}
use Rattle.wx_file_turns.specs.Judged.{IsUpToDate}

-- its backend was made in the way that these settings say: by the same watcher, and with links followed or not
abbrev pub serves_by : {B : Type 0} {G : Ghosts B} → Config → Watching B G → Bool
serves_by c w = is_same_watcher c.file_watcher w.recursor.kind && is_same_switch c.follow_symlinks w.recursor.follow

abbrev pub any_serves : {B : Type 0} {G : Ghosts B} → Config → Option (Watching B G) → Bool
any_serves c None = false
any_serves c (Some w) = serves_by c w

-- it has the roots and the filter that these settings say
abbrev pub has_same : {B : Type 0} {G : Ghosts B} → Config → Watching B G → Bool
has_same c w = are_same_roots (kept_roots w.recursor.cwd c.pathset) (state_of w.recursor.held).roots && (state_of w.recursor.held).filter == c.filterer

-- and nothing is to be tried again
abbrev pub is_settled : {B : Type 0} {G : Ghosts B} → Config → Watching B G → Bool
is_settled c w = has_same c w && not (needs_retry (state_of w.recursor.held))

-- It stays where it is settled, and else begins an epoch with the roots and the filter that the settings say.
abbrev pub Refreshes : {B : Type 0} {G : Ghosts B} → Bool → Config → Watching B G → Watching B G → Type 0
Refreshes true c w v = v ≡ w
Refreshes false c w v = state_of v.recursor.held ≡ reconciled (kept_roots w.recursor.cwd c.pathset) c.filterer (state_of w.recursor.held)

-- it keeps watches as other settings said, by which a backend is made in the same way
pub record ServesStill {B : Type 0} {G : Ghosts B} (folder : List ℕ) (c : Config) (back : ℕ) (w : Watching B G) : Type 0 where
  pub before : Config
  pub watches : WatchesBy folder before back w
  pub serves : serves_by c w ≡ true

-- it keeps watches as these settings say already: the same roots, by the same filter, watcher and links, and there is some path
abbrev pub keeps_by : {B : Type 0} {G : Ghosts B} → Config → Watching B G → Bool
keeps_by c w = has_paths c && (serves_by c w && has_same c w)

abbrev pub any_keeps : {B : Type 0} {G : Ghosts B} → Config → Option (Watching B G) → Bool
any_keeps c None = false
any_keeps c (Some w) = keeps_by c w

-- what is due where a backend is to be made, or isn't
abbrev pub makes_unless : Bool → Agenda
makes_unless serves = if serves then Open else Comes Makes Open

-- The settings that stand were applied, while what keeps watches stands for those that were applied before.
pub record IsBehind {B : Type 0} {G : Ghosts B} (s : Start) (f : Files B G) (p : List Entry) : Type 0 where
  pub absolute : is_absolute f.folder ≡ true
  pub folder_kept : f.folder ≡ s.folder
  pub applied_now : IsUpToDate s p
  pub revision_kept : f.applied ≡ Some (revision s p)
  pub before : Option Config
  pub source_kept : StandsBy s.folder before (source s p).current f.source
  pub intake_kept : IntakeStands s f.intake p
  pub due : agenda s p ≡ makes_unless (serves (settings s p) before (source s p).current)
