-- What a step leaves.
use Rattle.wx_scan.specs.declared.backend.Backend.{Ghosts}
use Rattle.std.specs.Prelude.{◌≡◌, ◌≤◌, ◌+◌, ◌⊎◌, ℕ, Bool, true, false, if◌then◌else◌, Some, List}
use Rattle.wx_scan.specs.Looked.{Rose}
use Rattle.wx_journal.specs.declared.entry.Entry.{Entry}
use Rattle.wx_journal.specs.Names.{item_count}
use Rattle.wx_journal.specs.Written.{Written}
use Rattle.wx_machine.specs.Start.{Start}
use Rattle.wx_machine.specs.Seen.{Seen, Hooked}
use Rattle.wx_machine.specs.Settings.{settings}
use Rattle.wx_machine.specs.Steps.{work_count}
use Rattle.wx_machine.specs.Files.{source}
use Rattle.wx_worker.specs.declared.worker_state.Worker.{Worker}
use Rattle.wx_file_turns.specs.declared.files.Watching.{Watching}
use Rattle.wx_file_turns.specs.Standing.{WatchesBy, works}
use Rattle.wx_file_turns.specs.Judged.{IsStepping, IsUpToDate}
use Rattle.wx_file_turns.specs.Serves.{Attends, CountsOnward}

-- The settings that stand were applied, and it keeps watches by them, over the backend that stands.
pub record IsWatching {B : Type 0} {G : Ghosts B} (s : Start) (w : Watching B G) (p : List Entry) : Type 0 where
  pub applied_now : IsUpToDate s p
  pub back : ℕ
  pub current : (source s p).current ≡ Some back
  pub watches : WatchesBy s.folder (settings s p) back w

-- a step goes on: it keeps watches as the settings say
pub record IsAtStep {B : Type 0} {G : Ghosts B} (s : Start) (w : Watching B G) (p : List Entry) : Type 0 where
  pub stepping : IsStepping s p
  pub watching : IsWatching s w p

-- Nothing was brought, and what waits is as it was.
pub record StaysBrought (s : Start) (p p' : List Entry) : Type 0 where
  pub lane_kept : (source s p').lane ≡ (source s p).lane
  pub asks_kept : (source s p').asks ≡ (source s p).asks
  pub since_kept : (source s p').since ≡ (source s p).since
  pub fence_kept : (source s p').fence ≡ (source s p).fence
  pub fenced_kept : (source s p').fenced ≡ (source s p).fenced
  pub items_kept : item_count p' ≡ item_count p

-- entries of a step were added
pub record StepsOn {K Fixed Plan : Type 0} (seen : K → Hooked Fixed) (rule : Fixed → List Entry → Entry → Type 0) (holds : K → List Entry → Type 0) (s : Start) (w : Worker) (j : Written) (a : Seen Plan) (x : K) (w' : Worker) (j' : Written) (b : Seen Plan) (x' : K) : Type 0 where
  pub attends : Attends seen rule holds s w j a x w' j' b x'
  pub onward : CountsOnward j.past a j'.past b
  pub brought : StaysBrought s j.past j'.past

-- A step was done that brought nothing: what waits is as it was, but for the name below which all is heard before it is told that all is
-- watched. That is the next name of an item, where it doesn't stand yet.
pub record KeepsBrought (s : Start) (p p' : List Entry) : Type 0 where
  pub lane_kept : (source s p').lane ≡ (source s p).lane
  pub asks_kept : (source s p').asks ≡ (source s p).asks
  pub since_kept : (source s p').since ≡ (source s p).since
  pub fenced_kept : (source s p').fenced ≡ (source s p).fenced
  pub items_kept : item_count p' ≡ item_count p
  pub fence_is : (source s p').fence ≡ (if (source s p).fenced then (source s p).fence else item_count p)

-- a backend was made, or it looked, or has no work
abbrev pub IsWorthwhile : {B Plan : Type 0} {G : Ghosts B} → Watching B G → List Entry → Seen Plan → List Entry → Seen Plan → Type 0
IsWorthwhile w p a p' b = (work_count p + 1 ≤ work_count p') ⊎ (Rose a.looked.looks b.looked.looks ⊎ (works w ≡ false))

-- the same of a step that asks for a rebuild, or doesn't
abbrev pub IsWorthwhileUnless : {B Plan : Type 0} {G : Ghosts B} → Bool → Watching B G → List Entry → Seen Plan → List Entry → Seen Plan → Type 0
IsWorthwhileUnless true w p a p' b = Unit {0}
IsWorthwhileUnless false w p a p' b = IsWorthwhile w p a p' b
