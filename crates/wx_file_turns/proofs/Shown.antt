-- Each error of a step, and of its rebuilds, is shown.
use Rattle.std.proofs.Common.{◌≡◌, Bool, true, false, List, [], ◌∷◌, refl, ap, sym, subst, ◌∙◌}
use Rattle.std.specs.Prelude.{Result, Ok, Err, OnOk}
use Rattle.wx_scan.specs.declared.backend.Backend.{Ghosts}
use Rattle.wx_watch.specs.declared.watched.Watcher.{Watcher}
use Rattle.wx_error.specs.declared.runtime.RuntimeError.{RuntimeError}
use Rattle.wx_recursor.specs.Rebuilds.{installed, prepared}
use Rattle.wx_recursor.specs.States.{RecursorState}
use Rattle.wx_holding.specs.Holding.{state_of}
use Rattle.wx_fs.specs.Told.{TellsReplay, TellsStep}
use Rattle.wx_journal.specs.declared.entry.Entry.{Entry}
use Rattle.wx_journal.specs.declared.entry.Entry.TheVariants.{Make}
use Rattle.wx_machine.specs.Start.{Start}
use Rattle.wx_machine.specs.Journal.{closed}
use Rattle.wx_worker.specs.declared.worker_state.Worker.{Worker}
use Rattle.wx_worker.specs.Calls.{IsShown}
use Rattle.wx_worker.specs.Stands.{Stands}
use Rattle.wx_file_turns.specs.declared.files.Watching.{Watching}
use Rattle.wx_file_turns.specs.Attended.{AttendedBy, Rests}
use Rattle.wx_file_turns.specs.Judged.{AddsDirs}
use Rattle.wx_file_turns.specs.Showing.{DoesStep, NoRebuild, OneMore, Rebuilds, RebuildsOnce, RebuildsWhere, ShowsAll, ShowsStep, ShowsUnless}
use Rattle.wx_file_turns.specs.Standing.{works}

-- ---- errors

-- the queue is closed
pub shut_shows : (s : Start) (w : Worker) (error : RuntimeError) (p : List Entry) → Stands s w p → w.queue.closed ≡ true → ShowsUnless (closed p) s error p p
shut_shows s w error p stands shut = subst (λ (b : Bool). ShowsUnless b s error p p) (sym (sym stands.closed_kept ∙ shut)) refl

-- or isn't
pub open_shows : {X E : Type 0} (s : Start) (w : Worker) (error : RuntimeError) (p q r : List Entry) (result : Result X E) → Stands s w p → w.queue.closed ≡ false → q ≡ p → OnOk result (IsShown s error q r) → OnOk result (ShowsUnless (closed p) s error p r)
open_shows s w error p q r (Ok x) stands shut same done = subst (λ (b : Bool). ShowsUnless b s error p r) (sym (sym stands.closed_kept ∙ shut)) (subst (λ (z : List Entry). IsShown s error z r) same done)
open_shows s w error p q r (Err e) stands shut same done = tt

-- the first of those that are left, and then the others
pub shows_first : (s : Start) (old new : List RuntimeError) (error : RuntimeError) (p q r : List Entry) → old ≡ error ∷ new → ShowsUnless (closed p) s error p q → ShowsAll s new q r → ShowsAll s old p r
shows_first s old new error p q r is first others = subst (λ (xs : List RuntimeError). ShowsAll s xs p r) (sym is) (q, first, others)

pub shows_none : (s : Start) (left : List RuntimeError) (p : List Entry) → left ≡ [] → ShowsAll s left p p
shows_none s left p none = subst (λ (xs : List RuntimeError). ShowsAll s xs p p) (sym none) refl

-- ---- rebuilds

module _ {B : Type 0} {G : Ghosts B} (s : Start) where
  -- one was done
  pub rebuilds_once : (w v : Watching B G) (dropped placed : RecursorState) (kind : Watcher) (errors : List RuntimeError) (more : Bool) (p q r : List Entry) → kind ≡ w.recursor.kind → dropped ≡ prepared (state_of w.recursor.held) → placed ≡ installed dropped → TellsReplay kind placed (state_of v.recursor.held) errors more → q ≡ Make v.back w.recursor.kind w.recursor.follow (Ok tt) ∷ p → ShowsAll s errors q r → RebuildsOnce s w v more p r
  rebuilds_once w v dropped placed kind errors more p q r same prepares installs tells made shows = record {
    errors = errors;
    tells = subst (λ (k : Watcher). TellsReplay k (installed (prepared (state_of w.recursor.held))) (state_of v.recursor.held) errors more) same (subst (λ (x : RecursorState). TellsReplay kind x (state_of v.recursor.held) errors more) (installs ∙ ap installed prepares) tells);
    shows = subst (λ (x : List Entry). ShowsAll s errors x r) made shows;
  }

  pub rebuilds_first : (w v : Watching B G) (more : Bool) (p r : List Entry) → RebuildsOnce s w v more p r → Rebuilds s w p v r
  rebuilds_first w v more p r h = OneMore w v p r more NoRebuild h

  pub rebuilds_then : (w v : Watching B G) (p q : List Entry) (u : Watching B G) (r : List Entry) → Rebuilds s w p v q → Rebuilds s v q u r → Rebuilds s w p u r
  rebuilds_then w v p q _ _ h NoRebuild = h
  rebuilds_then w v p q _ _ h (OneMore x u y r more before once) = OneMore x u y r more (rebuilds_then w v p q x y h before) once

  -- ---- a step

  pub step_shows : {X E : Type 0} (w u v : Watching B G) (errors : List RuntimeError) (rebuild : Bool) (p q r p' : List Entry) (result : Result X E) → TellsStep w.recursor.kind (state_of w.recursor.held) (state_of u.recursor.held) errors rebuild → AddsDirs p q → ShowsAll s errors q r → OnOk result (RebuildsWhere rebuild s u v r p') → OnOk result (ShowsStep s w v p p')
  step_shows w u v errors rebuild p q r p' (Ok x) tells dirs shows rebuilds = record { stepped = u; errors = errors; rebuild = rebuild; tells = tells; judged = q; dirs = dirs; behind = r; shows = shows; rebuilds = rebuilds }
  step_shows w u v errors rebuild p q r p' (Err e) tells dirs shows rebuilds = tt

  -- a turn does one where there is work
  pub attended_step : (w v : Watching B G) (p p' : List Entry) → works w ≡ true → DoesStep s w v p p' → AttendedBy (works w) s w v p p'
  attended_step w v p p' is h = subst (λ (b : Bool). AttendedBy b s w v p p') (sym is) h

  -- and rests where there is none
  pub attended_rest : {X E : Type 0} (w v : Watching B G) (p p' : List Entry) (result : Result X E) → works w ≡ false → OnOk result (Rests s w v p p') → OnOk result (AttendedBy (works w) s w v p p')
  attended_rest w v p p' result is h = subst (λ (b : Bool). OnOk result (AttendedBy b s w v p p')) (sym is) h
