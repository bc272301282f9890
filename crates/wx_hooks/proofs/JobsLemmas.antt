-- One of several held jobs changes, and the others stand as before.
use Rattle.std.proofs.Common.{◌≡◌, ◌≢◌, ℕ, zero, suc, ◌<◌, List, [], ◌∷◌, length, get_or, set as put, inl, inr, arith, ap, sym, subst, ◌∙◌}
use Rattle.std.specs.Prelude.{map}
use Rattle.std.specs.List.{AllByRecursion}
use Rattle.wx_control.specs.declared.id.Id.{Id}
use Rattle.wx_journal.specs.declared.entry.Entry.{Entry}
use Rattle.wx_machine.specs.Leaves.{SameHistory}
use Rattle.wx_machine.specs.Leaves.{LeavesOthers}
use Rattle.wx_machine.specs.Jobs.{set}
use Rattle.wx_machine.proofs.JobSets.{IsIn}
use Rattle.wx_job.specs.Stands.{TaskStands, SameJob}
use Rattle.wx_job.proofs.StandsLemmas.{stands_history}
use Rattle.wx_hooks.specs.declared.held.Held.{Held}
use Rattle.wx_hooks.specs.JobsStand.{HeldStands, JobsStand, AreDistinct, held_id}
use Rattle.wx_hooks.proofs.QuietLemmas.{SameRest}

pub same_held : (p p' : List Entry) (h : Held) → SameHistory (held_id h) p p' → HeldStands p h → HeldStands p' h
same_held p p' h same s = record { task_stands = stands_history h.task p p' same s.task_stands; command_is = same.command_same ∙ s.command_is; handle_is = s.handle_is; handle_command = s.handle_command; is_open = s.is_open }

-- ---- one of several

pub ids_put : (hs : List Held) (n : ℕ) (h h' : Held) → n < length hs → h ≡ get_or hs n h → held_id h' ≡ held_id h → map held_id (put hs n h') ≡ map held_id hs
ids_put [] n h h' lt is same = absurd (omega arith)
ids_put (x ∷ hs) zero h h' lt is same = ap (λ j. j ∷ map held_id hs) (same ∙ ap held_id is)
ids_put (x ∷ hs) (suc n) h h' lt is same = ap (λ js. held_id x ∷ js) (ids_put hs n h h' (omega arith) is same)

at_place : (P : Id → Type 0) (hs : List Held) (n : ℕ) (h : Held) → n < length hs → h ≡ get_or hs n h → AllByRecursion P (map held_id hs) → P (held_id h)
at_place P [] n h lt is all = absurd (omega arith)
at_place P (x ∷ hs) zero h lt is all = subst (λ (y : Held). P (held_id y)) (sym is) all.0
at_place P (x ∷ hs) (suc n) h lt is all = at_place P hs n h (omega arith) is all.1

-- its id is among theirs
pub is_in_place : (hs : List Held) (n : ℕ) (h : Held) → n < length hs → h ≡ get_or hs n h → IsIn (held_id h) (map held_id hs)
is_in_place [] n h lt is = absurd (omega arith)
is_in_place (x ∷ hs) zero h lt is = inl (ap held_id (sym is))
is_in_place (x ∷ hs) (suc n) h lt is = inr (is_in_place hs n h (omega arith) is)

-- what is held at a place stands
pub held_at : (p : List Entry) (hs : List Held) (n : ℕ) (h : Held) → n < length hs → h ≡ get_or hs n h → AllByRecursion (HeldStands p) hs → HeldStands p h
held_at p [] n h lt is all = absurd (omega arith)
held_at p (x ∷ hs) zero h lt is all = subst (HeldStands p) (sym is) all.0
held_at p (x ∷ hs) (suc n) h lt is all = held_at p hs n h (omega arith) is all.1

-- what stands for one journal stands for another, but for the job of this name
abbrev pub Reframes : Id → List Entry → List Entry → Type 0
Reframes i p p' = (h : Held) → held_id h ≢ i → HeldStands p h → HeldStands p' h

pub tasks_others : (i : Id) (p p' : List Entry) (hs : List Held) → Reframes i p p' → AllByRecursion (λ j. j ≢ i) (map held_id hs) → AllByRecursion (HeldStands p) hs → AllByRecursion (HeldStands p') hs
tasks_others i p p' [] frame ne s = tt
tasks_others i p p' (h ∷ hs) frame ne s = (frame h ne.0 s.0, tasks_others i p p' hs frame ne.1 s.1)

pub tasks_put : (p p' : List Entry) (hs : List Held) (n : ℕ) (h h' : Held) → AreDistinct (map held_id hs) → n < length hs → h ≡ get_or hs n h → Reframes (held_id h) p p' → AllByRecursion (HeldStands p) hs → HeldStands p' h' → AllByRecursion (HeldStands p') (put hs n h')
tasks_put p p' [] n h h' apart lt is frame s new = absurd (omega arith)
tasks_put p p' (x ∷ hs) zero h h' apart lt is frame s new =
    (new, tasks_others (held_id h) p p' hs frame (subst (λ (y : Held). AllByRecursion (λ j. j ≢ held_id y) (map held_id hs)) (sym is) apart.0) s.1)
tasks_put p p' (x ∷ hs) (suc n) h h' apart lt is frame s new =
    let other : held_id h ≢ held_id x = at_place (λ j. j ≢ held_id x) hs n h (omega arith) is apart.0 in
    (frame x (λ e. other (sym e)) s.0, tasks_put p p' hs n h h' apart.1 (omega arith) is frame s.1 new)

-- what is held of a job at a place changes to what stands for another journal
pub record Changes (hs hs' : List Held) (n : ℕ) (h h' : Held) (p' : List Entry) : Type 0 where
  pub within : n < length hs
  pub held : h ≡ get_or hs n h
  pub items : hs' ≡ put hs n h'
  pub handle_same : h'.handle ≡ h.handle
  pub job_same : SameJob h.task h'.task
  pub task_stands : TaskStands h'.task p'

-- the others stand as before
pub jobs_change : (p p' : List Entry) (hs hs' : List Held) (n : ℕ) (h h' : Held) → JobsStand p hs → SameRest p p' → LeavesOthers (held_id h) p p' → Changes hs hs' n h h' p' → (map held_id hs' ≡ set p') × AllByRecursion (HeldStands p') hs'
jobs_change p p' hs hs' n h h' jobs still leaves change =
    let stood : HeldStands p h = held_at p hs n h change.within change.held jobs.tasks_stand in
    let new : HeldStands p' h' = record {
      task_stands = change.task_stands;
      command_is = rw (change.job_same.same_id, change.job_same.same_command) (still.commands_same (held_id h) ∙ stood.command_is);
      handle_is = rw (change.handle_same, change.job_same.same_id) stood.handle_is;
      handle_command = rw (change.handle_same, change.job_same.same_command) stood.handle_command;
      is_open = change.job_same.same_closed ∙ stood.is_open;
    } in
    rw change.items (
      ids_put hs n h h' change.within change.held change.job_same.same_id ∙ jobs.ids_are ∙ sym still.set_same,
      tasks_put p p' hs n h h' jobs.ids_apart change.within change.held (λ x ne st. same_held p p' x (leaves.others (held_id x) ne) st) jobs.tasks_stand new,
    )
