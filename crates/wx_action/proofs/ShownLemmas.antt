-- What a worker holds is what the journal shows.
use Rattle.std.proofs.Common.{◌≡◌, Bool, true, false, cond, List, [], ◌∷◌, refl, ap, sym, ◌∙◌}
use Rattle.std.specs.Prelude.{Option, None, Some, is_some, map}
use Rattle.std.specs.List.{find, list_any, AllByRecursion}
use Rattle.wx_control.specs.declared.id.Id.{Id}
use Rattle.wx_control.specs.declared.job.Job.{Job}
use Rattle.wx_journal.specs.declared.entry.Entry.{Entry}
use Rattle.wx_machine.specs.History.{same, lives, child}
use Rattle.wx_machine.specs.Jobs.{set}
use Rattle.wx_machine.specs.Start.{Start}
use Rattle.wx_machine.proofs.Owners.{same-is}
use Rattle.wx_machine.proofs.JobSets.{any_in, in_set, set_rising}
use Rattle.wx_hooks.specs.declared.held.Held.{Held}
use Rattle.wx_hooks.specs.HeldJobs.{IsHandle, AreShown, is_of, is_alive, handles, runs}
use Rattle.wx_hooks.specs.JobsStand.{HeldStands, held_id}
use Rattle.wx_worker.specs.declared.worker_state.Worker.{Worker}
use Rattle.wx_worker.specs.Stands.{Stands}
use Rattle.wx_job.proofs.StandsLemmas.{lives-kept, child-kept}

-- ---- the jobs that a handler is shown

held_handles : (p : List Entry) (held : List Held) → AllByRecursion (HeldStands p) held → AllByRecursion (λ job. IsHandle p job.0 job.1) (handles held)
held_handles p [] s = tt
held_handles p (h ∷ held) s = (record { names = refl; runs = rw (s.0.handle_is, s.0.handle_command) s.0.command_is }, held_handles p held s.1)

held_ids : (p : List Entry) (held : List Held) → AllByRecursion (HeldStands p) held → map (λ (job : Id × Job). job.0) (handles held) ≡ map held_id held
held_ids p [] s = refl
held_ids p (h ∷ held) s = λ i. s.0.handle_is i ∷ held_ids p held s.1 i

runs_or : (p : List Entry) (id : Id) (b : Bool) (h : Held) (rest : Option Held) → is_of id h ≡ b → HeldStands p h → (b ≡ false → runs rest ≡ is_some (child id p)) → runs (cond b (Some h) rest) ≡ is_some (child id p)
runs_or p id true h rest mine s other = ap is_some (child-kept h.task p s.task_stands ∙ ap (λ i. child i p) (sym s.handle_is ∙ same-is h.handle.id id mine))
runs_or p id false h rest mine s other = other refl

held_runs : (p : List Entry) (id : Id) (held : List Held) → AllByRecursion (HeldStands p) held → (list_any (λ job. same job id) (map (λ (job : Id × Job). job.0) (handles held)) ≡ false → child id p ≡ None) → runs (find (is_of id) held) ≡ is_some (child id p)
held_runs p id [] s none = rw (none refl) refl
held_runs p id (h ∷ held) s none = runs_or p id (is_of id h) h (find (is_of id) held) refl s.0 (λ other. held_runs p id held s.1 (λ e. none (rw (other, e) refl)))

pub shown : (s : Start) (w : Worker) (p : List Entry) → Stands s w p → AreShown p w.jobs
shown s w p stands =
    let ids : map (λ (job : Id × Job). job.0) (handles w.jobs) ≡ set p = held_ids p w.jobs stands.tasks_kept ∙ stands.jobs_kept in
    let rising = set_rising p in
    record {
      seen = record { ids = ids; rising = rising.rising; handles = held_handles p w.jobs stands.tasks_kept };
      below = rising.below;
      running = λ id. held_runs p id w.jobs stands.tasks_kept (λ none. stands.idle_kept id (rw ids at none));
    }

-- ---- what is held, and isn't gone, lives

alive_or : (p : List Entry) (id : Id) (b : Bool) (h : Held) (rest : Option Held) → is_of id h ≡ b → HeldStands p h → (b ≡ false → is_alive rest ≡ lives id p) → is_alive (cond b (Some h) rest) ≡ lives id p
alive_or p id true h rest mine s other = lives-kept h.task p s.task_stands ∙ ap (λ i. lives i p) (sym s.handle_is ∙ same-is h.handle.id id mine)
alive_or p id false h rest mine s other = other refl

held_alive : (p : List Entry) (id : Id) (held : List Held) → AllByRecursion (HeldStands p) held → (list_any (λ job. same job id) (map (λ (job : Id × Job). job.0) (handles held)) ≡ false → lives id p ≡ false) → is_alive (find (is_of id) held) ≡ lives id p
held_alive p id [] s none = sym (none refl)
held_alive p id (h ∷ held) s none = alive_or p id (is_of id h) h (find (is_of id) held) refl s.0 (λ other. held_alive p id held s.1 (λ e. none (rw (other, e) refl)))

unlisted : (p : List Entry) (id : Id) (b : Bool) → lives id p ≡ b → list_any (λ job. same job id) (set p) ≡ false → lives id p ≡ false
unlisted p id true alive none = let seen : true ≡ false = sym (any_in id (set p) (in_set id p alive)) ∙ none in absurd cc
unlisted p id false dead none = dead

pub alive_is : (s : Start) (w : Worker) (p : List Entry) (id : Id) → Stands s w p → is_alive (find (is_of id) w.jobs) ≡ lives id p
alive_is s w p id stands =
    let ids : map (λ (job : Id × Job). job.0) (handles w.jobs) ≡ set p = held_ids p w.jobs stands.tasks_kept ∙ stands.jobs_kept in
    held_alive p id w.jobs stands.tasks_kept (λ none. unlisted p id (lives id p) refl (rw ids at none))
