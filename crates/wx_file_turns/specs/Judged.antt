-- What a step adds that judges directories, and shows errors.
use Rattle.std.specs.Prelude.{◌≡◌, ◌≤◌, ℕ, Bool, if◌then◌else◌, Some, Ok, List, [], ◌∷◌}
use Rattle.wx_watch.specs.declared.watched.WatchedPath.{WatchedPath}
use Rattle.wx_tree.specs.Paths.{Path}
use Rattle.wx_tree.specs.Places.{place}
use Rattle.wx_lane.specs.Public.{named}
use Rattle.wx_journal.specs.declared.entry.Entry.{Entry}
use Rattle.wx_journal.specs.declared.entry.Entry.TheVariants.{Dir}
use Rattle.wx_journal.specs.Written.{Written}
use Rattle.wx_machine.specs.Added.{Added}
use Rattle.wx_machine.specs.Start.{Start}
use Rattle.wx_machine.specs.Seen.{Hooked}
use Rattle.wx_machine.specs.Settings.{settings}
use Rattle.wx_machine.specs.Files.{source}
use Rattle.wx_machine.specs.Due.{Steps, Open, agenda}
use Rattle.wx_worker.specs.declared.worker_state.Worker.{Worker}
use Rattle.wx_worker.specs.Stands.{end_room}
use Rattle.wx_worker.specs.Serves.{GrowsHand}
use Rattle.wx_file_turns.specs.Serves.{LeavesWatch}

-- the places of those of these paths that are recursive, seen from the folder
abbrev pub recursive_places : List ℕ → List WatchedPath → List Path
recursive_places folder [] = []
recursive_places folder (w ∷ ws) = if w.recursive then named folder w.path ∷ recursive_places folder ws else recursive_places folder ws

-- each directory that was shown to this filter was judged by this test
abbrev pub AreJudgedBy : ℕ → (Path → Bool) → List Entry → Type 0
AreJudgedBy n ok [] = Unit {0}
AreJudgedBy n ok (Dir m path answer ∷ p) = (m ≡ n → answer ≡ Ok (ok (place path))) × AreJudgedBy n ok p
AreJudgedBy n ok (_ ∷ p) = AreJudgedBy n ok p

-- a step is due, or goes on, and nothing stands behind it
abbrev pub IsStepping : Start → List Entry → Type 0
IsStepping s p = (untouched : Bool) × (agenda s p ≡ Steps untouched Open)

-- the settings that stand were applied
abbrev pub IsUpToDate : Start → List Entry → Type 0
IsUpToDate s p = (source s p).applied ≡ Some (settings s p)

-- Entries of a step that are no backends were added, and maybe room was taken. As many jobs are held, and the room for their end is
-- kept where it was there.
pub record StepsHand {K Fixed : Type 0} (seen : K → Hooked Fixed) (rule : Fixed → List Entry → Entry → Type 0) (holds : K → List Entry → Type 0) (s : Start) (w : Worker) (j : Written) (x : K) (w' : Worker) (j' : Written) (x' : K) : Type 0 where
  pub grows : GrowsHand seen rule holds s j.past x w' j'.past x'
  pub leaves : LeavesWatch s j.past j'.past
  pub end_kept : end_room w' ≡ end_room w
  pub room : end_room w ≤ j.spare → end_room w' ≤ j'.spare

-- the entry says how a directory was judged
abbrev pub IsDir : Entry → Type 0
IsDir (Dir n path answer) = Unit {0}
IsDir (_) = ⊥

-- the new journal is the old one with such entries on top
abbrev pub AddsDirs : List Entry → List Entry → Type 0
AddsDirs p p' = Added (λ q e. IsDir e) p p'

-- a start, and worker, journal and hooks as they were at the beginning of a step
pub record Base (K : Type 0) : Type 0 where
  pub start : Start
  pub worker : Worker
  pub journal : Written
  pub hooks : K

-- what is known of them since then: the step goes on
pub record IsKept {K Fixed : Type 0} (seen : K → Hooked Fixed) (rule : Fixed → List Entry → Entry → Type 0) (holds : K → List Entry → Type 0) (b : Base K) (folder : List ℕ) (w' : Worker) (j' : Written) (x' : K) : Type 0 where
  pub hand : StepsHand seen rule holds b.start b.worker b.journal b.hooks w' j' x'
  pub dirs : AddsDirs b.journal.past j'.past
  pub stepping : IsStepping b.start j'.past
  pub applied_now : IsUpToDate b.start j'.past
  pub folder_kept : folder ≡ b.start.folder
