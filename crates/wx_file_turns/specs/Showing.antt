-- How the errors of a step and of its rebuilds are shown.
use Rattle.wx_scan.specs.declared.backend.Backend.{Ghosts}
use Rattle.std.specs.Prelude.{◌≡◌, ◌⊎◌, Bool, true, false, Ok, List, [], ◌∷◌}
use Rattle.wx_error.specs.declared.runtime.RuntimeError.{RuntimeError}
use Rattle.wx_recursor.specs.Rebuilds.{installed, prepared, replay_deferred}
use Rattle.wx_holding.specs.Holding.{state_of}
use Rattle.wx_fs.specs.Told.{TellsReplay, TellsStep}
use Rattle.wx_journal.specs.declared.entry.Entry.{Entry}
use Rattle.wx_journal.specs.declared.entry.Entry.TheVariants.{Make, Word as Said}
use Rattle.wx_journal.specs.declared.entry.Word.TheVariants.{Stepped}
use Rattle.wx_machine.specs.Start.{Start}
use Rattle.wx_machine.specs.Journal.{closed}
use Rattle.wx_worker.specs.Calls.{IsShown}
use Rattle.wx_file_turns.specs.declared.files.Watching.{Watching}
use Rattle.wx_file_turns.specs.Judged.{AddsDirs}

-- this error was shown, unless the queue was closed
abbrev pub ShowsUnless : Bool → Start → RuntimeError → List Entry → List Entry → Type 0
ShowsUnless true s error p p' = p' ≡ p
ShowsUnless false s error p p' = IsShown s error p p'

-- each of these errors was, in order
abbrev pub ShowsAll : Start → List RuntimeError → List Entry → List Entry → Type 0
ShowsAll s [] p p' = p' ≡ p
ShowsAll s (error ∷ errors) p p' = (q : List Entry) × ShowsUnless (closed p) s error p q × ShowsAll s errors q p'

-- One rebuild: another backend was made, what was registered was replayed, and each error of that was shown.
pub record RebuildsOnce {B : Type 0} {G : Ghosts B} (s : Start) (w v : Watching B G) (more : Bool) (p p' : List Entry) : Type 0 where
  pub errors : List RuntimeError
  pub tells : TellsReplay w.recursor.kind (installed (prepared (state_of w.recursor.held))) (state_of v.recursor.held) errors more
  pub shows : ShowsAll s errors (Make v.back w.recursor.kind w.recursor.follow (Ok tt) ∷ p) p'

-- such rebuilds, one after the other
pub data Rebuilds {B : Type 0} {G : Ghosts B} (s : Start) (w : Watching B G) (p : List Entry) : Watching B G → List Entry → Type 0 where
  NoRebuild : Rebuilds s w p w p
  OneMore : (v u : Watching B G) (q r : List Entry) (more : Bool) → Rebuilds s w p v q → RebuildsOnce s v u more q r → Rebuilds s w p u r

-- and then what waits still may be left to a later turn
pub record RebuildsAll {B : Type 0} {G : Ghosts B} (s : Start) (w v : Watching B G) (p p' : List Entry) : Type 0 where
  pub last : Watching B G
  pub rebuilds : Rebuilds s w p last p'
  pub rest : (state_of v.recursor.held ≡ state_of last.recursor.held) ⊎ (state_of v.recursor.held ≡ replay_deferred (state_of last.recursor.held))

-- the rebuilds of a step that asks for one, or doesn't
abbrev pub RebuildsWhere : {B : Type 0} {G : Ghosts B} → Bool → Start → Watching B G → Watching B G → List Entry → List Entry → Type 0
RebuildsWhere true s w v p p' = RebuildsAll s w v p p'
RebuildsWhere false s w v p p' = (v ≡ w) × (p' ≡ p)

-- A step: directories were judged, each error that it found was shown, and then it was rebuilt where it asks for that.
pub record ShowsStep {B : Type 0} {G : Ghosts B} (s : Start) (w v : Watching B G) (p p' : List Entry) : Type 0 where
  pub stepped : Watching B G
  pub errors : List RuntimeError
  pub rebuild : Bool
  pub tells : TellsStep w.recursor.kind (state_of w.recursor.held) (state_of stepped.recursor.held) errors rebuild
  pub judged : List Entry
  pub dirs : AddsDirs p judged
  pub behind : List Entry
  pub shows : ShowsAll s errors judged behind
  pub rebuilds : RebuildsWhere rebuild s stepped v behind p'

-- and the turn says so
pub record DoesStep {B : Type 0} {G : Ghosts B} (s : Start) (w v : Watching B G) (p p' : List Entry) : Type 0 where
  pub worked : List Entry
  pub shows : ShowsStep s w v p worked
  pub said : p' ≡ Said Stepped ∷ worked
