-- A step of what keeps watches, and a rebuild.
use Rattle.std.proofs.Common.{◌≡◌, ◌≤◌, ◌+◌, ℕ, Bool, true, false, List, ◌∷◌, inl, inr, arith, refl, ap, sym, ◌∙◌}
use Rattle.std.specs.Prelude.{is_some, Result, Ok, Err, OnOk, IfOk}
use Rattle.wx_scan.specs.declared.backend.Backend.{Ghosts}
use Rattle.wx_scan.specs.Looked.{Looked, OnlyLooks}
use Rattle.wx_watch.specs.declared.watched.Watcher.{Watcher}
use Rattle.wx_error.specs.declared.runtime.RuntimeError.{RuntimeError}
use Rattle.wx_recursor.specs.Calls.{has_work}
use Rattle.wx_recursor.specs.Rebuilds.{prepared, installed}
use Rattle.wx_recursor.specs.States.{RecursorState}
use Rattle.wx_recursor.specs.declared.answers.BackendPlace.{BackendPlace}
use Rattle.wx_holding.specs.Holding.{state_of}
use Rattle.wx_holding.proofs.Watching.{rose_later}
use Rattle.wx_step.specs.Stepped.{LooksOrSweeps}
use Rattle.wx_fs.specs.Told.{TellsReplay, TellsStep}
use Rattle.wx_fs.specs.declared.recursor.StepResult.{StepResult}
use Rattle.wx_journal.specs.declared.entry.Entry.{Entry}
use Rattle.wx_journal.specs.declared.entry.Entry.TheVariants.{Make}
use Rattle.wx_machine.specs.Start.{Start}
use Rattle.wx_machine.specs.Seen.{Seen}
use Rattle.wx_machine.specs.Settings.{settings}
use Rattle.wx_machine.specs.Steps.{work_count}
use Rattle.wx_machine.specs.Files.{Source}
use Rattle.wx_file_turns.specs.declared.files.Watching.{Watching}
use Rattle.wx_file_turns.specs.Judged.{IsStepping}
use Rattle.wx_file_turns.specs.Serves.{LeavesWatch, CountsOnward}
use Rattle.wx_file_turns.specs.Standing.{works}
use Rattle.wx_file_turns.specs.Stepping.{IsWatching, IsAtStep, IsWorthwhile, IsWorthwhileUnless}
use Rattle.wx_file_turns.proofs.Onward.{onward_then}
use Rattle.wx_file_turns.proofs.Standing.{watches_on}
use Rattle.wx_file_turns.proofs.Staying.{asked, step_stays, replay_stays, installed_stays}

-- ---- it keeps watches on

-- over entries of a step
pub watching_on : {B : Type 0} {G : Ghosts B} (s : Start) (w v : Watching B G) (p p' : List Entry) → IsWatching s w p → LeavesWatch s p p' → v.back ≡ w.back → v.recursor.spent ≡ false → is_some v.recursor.back ≡ true → (v.recursor.kind ≡ w.recursor.kind) × (v.recursor.follow ≡ w.recursor.follow) × (v.recursor.cwd ≡ w.recursor.cwd)
    → asked (state_of v.recursor.held) ≡ asked (state_of w.recursor.held) → IsWatching s v p'
watching_on s w v p p' h leaves named unspent backed others same = record {
  applied_now = rw (leaves.source_kept, leaves.settings_kept) h.applied_now;
  back = h.back;
  current = ap (λ (x : Source). x.current) leaves.source_kept ∙ h.current;
  watches = rw leaves.settings_kept (watches_on s.folder (settings s p) h.back h.back w v h.watches (named ∙ h.watches.named) unspent backed others same);
}

pub watching_still : {B : Type 0} {G : Ghosts B} (s : Start) (w : Watching B G) (p p' : List Entry) → IsWatching s w p → LeavesWatch s p p' → IsWatching s w p'
watching_still s w p p' h leaves = watching_on s w w p p' h leaves refl h.watches.unspent h.watches.has_backend (refl, refl, refl) refl

-- ---- a step was done

pub step_done : {B E : Type 0} {G : Ghosts B} (s : Start) (w v : Watching B G) (p p' : List Entry) (result : Result StepResult E) → IsWatching s w p → LeavesWatch s p p' → IsStepping s p' → v.back ≡ w.back → OnOk result ((w.recursor.spent ≡ false) × (v.recursor.spent ≡ false)) → (is_some v.recursor.back ≡ true) × (v.recursor.kind ≡ w.recursor.kind) × (v.recursor.follow ≡ w.recursor.follow) × (v.recursor.cwd ≡ w.recursor.cwd)
    → IfOk result (λ r. TellsStep w.recursor.kind (state_of w.recursor.held) (state_of v.recursor.held) r.errors r.rebuild_backend) → OnOk result (IsAtStep s v p')
step_done s w v p p' (Ok r) h leaves step named spent others tells = record { stepping = step; watching = watching_on s w v p p' h leaves named spent.1 others.0 (others.1, others.2, others.3) (step_stays w.recursor.kind (state_of w.recursor.held) (state_of v.recursor.held) r.errors r.rebuild_backend tells) }
step_done s w v p p' (Err e) h leaves step named spent others tells = tt

idle : {B : Type 0} {G : Ghosts B} (v : Watching B G) (spent : Bool) → v.recursor.spent ≡ spent → has_work (state_of v.recursor.held).queue (state_of v.recursor.held).sweep_due ≡ false → works v ≡ false
idle v true is none = rw is refl
idle v false is none = rw (is, none) refl

worth_looked : {B Plan : Type 0} {G : Ghosts B} (w v : Watching B G) (p p' : List Entry) (a b : Seen Plan) (x y : Looked) → a.looked ≡ x → b.looked ≡ y → LooksOrSweeps (state_of w.recursor.held) (state_of v.recursor.held) x y → IsWorthwhile v p a p' b
worth_looked w v p p' a b x y is now (inl rose) = inr (inl (rw (is, now) rose))
worth_looked w v p p' a b x y is now (inr sweeps) = inr (inr (idle v v.recursor.spent refl sweeps.rests))

worth_unless : {B Plan : Type 0} {G : Ghosts B} (rebuild : Bool) (v : Watching B G) (p p' : List Entry) (a b : Seen Plan) → IsWorthwhile v p a p' b → IsWorthwhileUnless rebuild v p a p' b
worth_unless true v p p' a b h = tt
worth_unless false v p p' a b h = h

pub step_worth : {B E Plan : Type 0} {G : Ghosts B} (w v : Watching B G) (p p' : List Entry) (a b : Seen Plan) (x y : Looked) (result : Result StepResult E) → a.looked ≡ x → b.looked ≡ y → OnOk result (LooksOrSweeps (state_of w.recursor.held) (state_of v.recursor.held) x y) → IfOk result (λ r. IsWorthwhileUnless r.rebuild_backend v p a p' b)
step_worth w v p p' a b x y (Ok r) is now raised = worth_unless r.rebuild_backend v p p' a b (worth_looked w v p p' a b x y is now raised)
step_worth w v p p' a b x y (Err e) is now raised = tt

-- ---- a rebuild was done

pub rebuilt : {B : Type 0} {G : Ghosts B} (s : Start) (w v : Watching B G) (p p' p'' : List Entry) (back : ℕ) (kind other : Watcher) (follow : Bool) (t u : RecursorState) (errors : List RuntimeError) (rebuild : Bool) → IsWatching s w p → p' ≡ Make back kind follow (Ok tt) ∷ p → LeavesWatch s p' p'' → v.back ≡ back → v.recursor.spent ≡ false → is_some v.recursor.back ≡ true → (v.recursor.kind ≡ w.recursor.kind) × (v.recursor.follow ≡ w.recursor.follow) × (v.recursor.cwd ≡ w.recursor.cwd)
    → t ≡ prepared (state_of w.recursor.held) → u ≡ installed t → TellsReplay other u (state_of v.recursor.held) errors rebuild → IsWatching s v p''
rebuilt s w v p p' p'' back kind other follow t u errors rebuild h grown leaves named unspent backed others was then told =
    let same : asked (state_of v.recursor.held) ≡ asked (state_of w.recursor.held) =
    replay_stays other u (state_of v.recursor.held) errors rebuild told ∙ ap asked then ∙ installed_stays t ∙ ap (λ (x : RecursorState). asked (installed x)) was ∙ ap (λ (b : BackendPlace). record { roots = (state_of w.recursor.held).roots; filter = (state_of w.recursor.held).filter; backend = b }) (sym h.watches.installed) in
    record {
      applied_now = rw (leaves.source_kept, leaves.settings_kept) (rw grown h.applied_now);
      back = back;
      current = ap (λ (x : Source). x.current) leaves.source_kept ∙ (rw grown refl);
      watches = rw (leaves.settings_kept, grown) (watches_on s.folder (settings s p) h.back back w v h.watches named unspent backed others same);
    }

-- ---- looks

-- what was looked at is a part of what was seen
pub looks_seen : {Plan : Type 0} (a b : Seen Plan) (x y : Looked) → a ≡ record a { looked = x } → b ≡ record a { looked = y } → OnlyLooks x y → (b ≡ record a { looked = b.looked }) × OnlyLooks a.looked b.looked
looks_seen {Plan} a b x y was now only =
    let at : a.looked ≡ x = ap (λ (c : Seen Plan). c.looked) was in
    let then : b.looked ≡ y = ap (λ (c : Seen Plan). c.looked) now in
    (now ∙ ap (λ (l : Looked). record a { looked = l }) (sym then), rw (at, then) only)

-- ---- all of a step

worth_on : {B Plan : Type 0} {G : Ghosts B} (v u : Watching B G) (p q r : List Entry) (a b c : Seen Plan) → IsWorthwhile v p a q b → CountsOnward q b r c → u ≡ v → IsWorthwhile u p a r c
worth_on v u p q r a b c (inl made) onward same = inl (omega (arith, made, onward.work_more))
worth_on v u p q r a b c (inr (inl rose)) onward same = inr (inl (rose_later a.looked.looks b.looked.looks c.looked.looks rose onward.looks_more))
worth_on v u p q r a b c (inr (inr none)) onward same = inr (inr (ap works same ∙ none))

worth_then : {B Plan : Type 0} {G : Ghosts B} (rebuild : Bool) (v u : Watching B G) (p q r t : List Entry) (a b c : Seen Plan) → IsWorthwhileUnless rebuild v p a q b → CountsOnward p a q b → CountsOnward q b r b → CountsOnward r b t c → (rebuild ≡ true → work_count r + 1 ≤ work_count t) → (rebuild ≡ false → u ≡ v) → IsWorthwhile u p a t c
worth_then true v u p q r t a b c h first shown rest made same = let more = made refl in inl (omega (arith, first.work_more, shown.work_more, more))
worth_then false v u p q r t a b c h first shown rest made same = worth_on v u p q t a b c h (onward_then q r t b b c shown rest) (same refl)

-- a step was done, its errors were shown, and where it asked for a rebuild that was done
pub work_worth : {B Plan X E : Type 0} {G : Ghosts B} (result : Result X E) (rebuild : Bool) (v u : Watching B G) (p q r t : List Entry) (a b c : Seen Plan) → IsWorthwhileUnless rebuild v p a q b → CountsOnward p a q b → CountsOnward q b r b → CountsOnward r b t c → OnOk result (rebuild ≡ true → work_count r + 1 ≤ work_count t) → (rebuild ≡ false → u ≡ v) → OnOk result (IsWorthwhile u p a t c)
work_worth (Ok x) rebuild v u p q r t a b c h first shown rest made same = worth_then rebuild v u p q r t a b c h first shown rest made same
work_worth (Err e) rebuild v u p q r t a b c h first shown rest made same = tt

-- its errors were shown
pub at_step_still : {B : Type 0} {G : Ghosts B} (s : Start) (w : Watching B G) (p p' : List Entry) → IsAtStep s w p → LeavesWatch s p p' → IsStepping s p' → IsAtStep s w p'
at_step_still s w p p' h leaves step = record { stepping = step; watching = watching_still s w p p' h.watching leaves }
