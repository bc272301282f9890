-- What a graceful quit asks of the jobs that live is asked of them.
use Rattle.std.proofs.Common.{◌≡◌, ℕ, List, [], ◌∷◌, length, inl, inr, refl, ap, ◌∙◌}
use Rattle.std.specs.Prelude.{Option, None, Some, Result, Ok, Err, OnOk, OnErr, map, ◌⊎◌}
use Rattle.std.specs.List.{AllByRecursion, filter}
use Rattle.wx_events.specs.declared.process.Signal.{Signal}
use Rattle.wx_control.specs.declared.id.Id.{Id}
use Rattle.wx_control.specs.declared.ask.Ask.TheVariants.{One, Delete}
use Rattle.wx_control.specs.declared.control.Control.TheVariants.{GracefulStop}
use Rattle.wx_journal.specs.Acts.{JournalAct as Act}
use Rattle.wx_journal.specs.declared.entry.Act.TheVariants.{Ask}
use Rattle.wx_journal.specs.declared.entry.Entry.{Entry}
use Rattle.wx_machine.specs.History.{lives}
use Rattle.wx_hooks.specs.declared.held.Held.{Held}
use Rattle.wx_hooks.specs.HeldJobs.{is_here, living_ids}
use Rattle.wx_hooks.specs.JobsStand.{HeldStands, held_id}
use Rattle.wx_worker.specs.declared.worker_state.Worker.{Worker}
use Rattle.wx_machine.specs.Start.{Start}
use Rattle.wx_machine.specs.Jobs.{jobs}
use Rattle.wx_machine.specs.declared.quit.QuitManner.{QuitManner}
use Rattle.wx_machine.specs.declared.quit.QuitManner.TheVariants.{Abort}
use Rattle.wx_machine.specs.Quits.{stop_asks, quit_asks}
use Rattle.wx_machine.specs.Answer.{NoneIsToGo}
use Rattle.wx_machine.specs.Due.{agenda}
use Rattle.wx_action.specs.Perform.{OwesPlan, HasAsked, DoesAsk}
use Rattle.wx_worker.specs.Stands.{Stands}
use Rattle.wx_action.proofs.HandLemmas.{ids_here, all_here, plan_to_go}

-- the ids of the jobs that are held and aren't gone are those of the jobs that live
same_ids : (p : List Entry) (hs : List Held) → AllByRecursion (HeldStands p) hs → map (λ h. h.handle.id) hs ≡ map held_id hs
same_ids p [] s = refl
same_ids p (h ∷ hs) s = ap (λ (id : Id). id ∷ map (λ h. h.handle.id) hs) s.0.handle_is ∙ ap (λ (ids : List Id). held_id h ∷ ids) (same_ids p hs s.1)

pub living_are : (s : Start) (w : Worker) (p : List Entry) → Stands s w p → living_ids w.jobs ≡ jobs p
living_are s w p stands =
    same_ids p (filter is_here w.jobs) (all_here (HeldStands p) w.jobs stands.tasks_kept) ∙ ids_here p w.jobs stands.tasks_kept ∙ ap (λ (ids : List Id). filter (λ id. lives id p) ids) stands.jobs_kept

-- once its second ask was asked, a job is stopped
pub job_stopped : {X E : Type 0} (r : Result X E) (s : Start) (p p₁ p₂ : List Entry) (id : Id) (signal : Signal) (grace : ℕ) → HasAsked s p id (One (GracefulStop signal grace)) p₁ → DoesAsk r s p₁ id Delete p₂
    → OnOk r ((ids : List Id) → OwesPlan s p (stop_asks signal grace (id ∷ ids)) → OwesPlan s p₂ (stop_asks signal grace ids))
job_stopped (Ok x) s p p₁ p₂ id signal grace stops does = λ ids owes. does.done.owes (stop_asks signal grace ids) (stops.owes (Ask id Delete ∷ stop_asks signal grace ids) owes)
job_stopped (Err e) s p p₁ p₂ id signal grace stops does = tt

-- where it wasn't, nothing is to go
pub ask_cut : {X E : Type 0} (r : Result X E) (s : Start) (p p' : List Entry) (id : Id) (acts : List Act) → OwesPlan s p (Ask id Delete ∷ acts) → DoesAsk r s p id Delete p' → OnErr r (NoneIsToGo (agenda s p'))
ask_cut (Ok x) s p p' id acts owes does = tt
ask_cut (Err e) s p p' id acts owes does = rw does.err (plan_to_go s p (Ask id Delete ∷ acts) owes)

-- no job is left to be stopped
pub all_stopped : (s : Start) (p : List Entry) (signal : Signal) (grace : ℕ) (ids : List Id) → length ids ≡ 0 → OwesPlan s p (stop_asks signal grace ids) → OwesPlan s p []
all_stopped s p signal grace [] none owes = owes
all_stopped s p signal grace (id ∷ ids) none owes = absurd cc

-- a quit that isn't graceful asks nothing
pub asks_none : (quit : Option QuitManner) (ids : List Id) → (quit ≡ Some Abort) ⊎ (quit ≡ None) → quit_asks quit ids ≡ []
asks_none quit ids (inl is) = rw is refl
asks_none quit ids (inr is) = rw is refl
