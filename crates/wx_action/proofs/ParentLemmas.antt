-- The job of a child is found by the job for which it was spawned.
use Rattle.std.proofs.Common.{◌≡◌, ℕ, zero, suc, Bool, true, false, cond, List, [], ◌∷◌, ◌++◌, length, length-append, eqb-true, arith, refl, ap, sym, ◌∙◌}
use Rattle.std.specs.Prelude.{Option, None, Some, is_some, option_map, slice_get, ◌==◌}
use Rattle.std.specs.List.{AllByRecursion, find}
use Rattle.wx_control.specs.declared.id.Id.{Id}
use Rattle.wx_journal.specs.declared.entry.Entry.{Entry}
use Rattle.wx_journal.specs.declared.entry.Entry.TheVariants.{Spawn}
use Rattle.wx_journal.specs.declared.entry.TurnKind.TheVariants.{Ended}
use Rattle.wx_journal.specs.Names.{NamesItsOwn, child_count}
use Rattle.wx_journal.specs.Owners.{owners}
use Rattle.wx_machine.specs.Start.{Start}
use Rattle.wx_machine.specs.History.{same, child, owner, is_child}
use Rattle.wx_machine.specs.JobLaws.{NamesChildren}
use Rattle.wx_machine.proofs.Owners.{self, children_named, child_owner, is_child_some}
use Rattle.wx_job.specs.Stands.{running_of}
use Rattle.wx_job.proofs.StandsLemmas.{child-kept}
use Rattle.wx_hooks.specs.declared.held.Held.{Held}
use Rattle.wx_hooks.specs.HeldJobs.{is_of, runs_child, runs_in, handle_id}
use Rattle.wx_hooks.specs.JobsStand.{HeldStands, held_id}
use Rattle.wx_hooks.proofs.JobsLemmas.{held_at}
use Rattle.wx_hooks.proofs.JobListLemmas.{placed, also, held_some}
use Rattle.wx_worker.specs.declared.worker_state.Worker.{Worker}
use Rattle.wx_worker.specs.Stands.{AtTurn}
use Rattle.wx_action.proofs.JobLemmas.{of_found}

-- ---- the owner of a child, by its name

many : (p : List Entry) → length (owners p) ≡ child_count p
many [] = refl
many (Spawn d job tag what answer ∷ p) = let more = length-append (owners p) (job ∷ []) in let was = many p in omega arith
many (_ ∷ p) = many p

get_front : (xs : List Id) (y x : Id) (i : ℕ) → slice_get xs i ≡ Some x → slice_get (xs ++ y ∷ []) i ≡ Some x
get_front [] y x i e = absurd cc
get_front (a ∷ xs) y x zero e = e
get_front (a ∷ xs) y x (suc i) e = get_front xs y x i e

get_last : (xs : List Id) (y : Id) (i : ℕ) → i ≡ length xs → slice_get (xs ++ y ∷ []) i ≡ Some y
get_last [] y zero is = refl
get_last [] y (suc i) is = absurd (omega arith)
get_last (a ∷ xs) y zero is = absurd (omega arith)
get_last (a ∷ xs) y (suc i) is = get_last xs y i (omega (arith, is))

spawned : (c d : ℕ) (job id : Id) (p : List Entry) (b : Bool) → (d == c) ≡ b → d ≡ child_count p → (owner c p ≡ Some id → slice_get (owners p) c ≡ Some id) → cond b (Some job) (owner c p) ≡ Some id → slice_get (owners p ++ job ∷ []) c ≡ Some id
spawned c d job id p true is name was e =
    let at : d ≡ c = eqb-true d c is in
    let count = many p in
    let mine : Some job ≡ Some id = e in
    get_last (owners p) job c (omega (arith, at, name, count)) ∙ mine
spawned c d job id p false is name was e = get_front (owners p) job id c (was e)

by_name : (c : ℕ) (id : Id) (p : List Entry) → NamesChildren p → owner c p ≡ Some id → slice_get (owners p) c ≡ Some id
by_name c id [] own e = absurd cc
by_name c id (Spawn d job tag what answer ∷ p) own e = spawned c d job id p (d == c) refl own.0 (λ h. by_name c id p own.1 h) e
by_name c id (_ ∷ p) own e = by_name c id p own e

-- ---- the job of a child

-- the job of this id, where this child of it runs
abbrev pub by_owner : ℕ → List Held → Option Id → Option Id
by_owner c hs None = None
by_owner c hs (Some id) = cond (runs_in c (find (is_of id) hs)) (Some id) None

runs_or : (c : ℕ) (id : Id) (hs : List Held) (h : Held) (b : Bool) → runs_child c h ≡ b → find (is_of id) hs ≡ Some h → find (runs_child c) hs ≡ None → b ≡ false
runs_or c id hs h true is e none = sym (also (is_of id) (runs_child c) hs h e is) ∙ ap is_some none
runs_or c id hs h false is e none = refl

none_in : (c : ℕ) (id : Id) (hs : List Held) (o : Option Held) → find (is_of id) hs ≡ o → find (runs_child c) hs ≡ None → runs_in c o ≡ false
none_in c id hs None e none = refl
none_in c id hs (Some h) e none = runs_or c id hs h (runs_child c h) refl e none

-- where this child runs of no job, it does of none that is found
none_by : (c : ℕ) (hs : List Held) (o : Option Id) → find (runs_child c) hs ≡ None → None ≡ by_owner c hs o
none_by c hs None none = refl
none_by c hs (Some id) none = rw (none_in c id hs (find (is_of id) hs) refl none) refl

child_is : (c : ℕ) (o : Option ℕ) → o ≡ Some c → is_child c o ≡ true
child_is c o e = rw e (self (record { 0 = c }))

found_by : (c : ℕ) (p : List Entry) (hs : List Held) (h : Held) → NamesItsOwn p → AllByRecursion (HeldStands p) hs → find (runs_child c) hs ≡ Some h → Some h.handle.id ≡ by_owner c hs (slice_get (owners p) c)
found_by c p hs h own all e =
    let place = placed (runs_child c) hs h e in
    let stood : HeldStands p h = held_at p hs place.0 h place.1.within place.1.held all in
    let runs : child (held_id h) p ≡ Some c = sym (child-kept h.task p stood.task_stands) ∙ is_child_some c (running_of h.task) place.1.mine in
    let at : slice_get (owners p) c ≡ Some (held_id h) = by_name c (held_id h) p (children_named p own) (child_owner (held_id h) c p (children_named p own) runs) in
    let mine : is_of (held_id h) h ≡ true = ap (λ i. same i (held_id h)) stood.handle_is ∙ self (held_id h) in
    let other = held_some (find (is_of (held_id h)) hs) (also (runs_child c) (is_of (held_id h)) hs h e mine) in
    let l = of_found p hs (held_id h) other.0 all other.1 in
    let too : running_of l.held.task ≡ Some c = child-kept l.held.task p l.stood.task_stands ∙ ap (λ i. child i p) l.id_is ∙ runs in
    let yes : runs_in c (find (is_of (held_id h)) hs) ≡ true = ap (runs_in c) l.found ∙ child_is c (running_of l.held.task) too in
    let there : by_owner c hs (slice_get (owners p) c) ≡ Some (held_id h) = ap (by_owner c hs) at ∙ ap (λ b. cond b (Some (held_id h)) None) yes in
    ap (λ i. Some i) stood.handle_is ∙ sym there

parent_or : (c : ℕ) (p : List Entry) (hs : List Held) (o : Option Held) → NamesItsOwn p → AllByRecursion (HeldStands p) hs → find (runs_child c) hs ≡ o → option_map handle_id o ≡ by_owner c hs (slice_get (owners p) c)
parent_or c p hs None own all e = none_by c hs (slice_get (owners p) c) e
parent_or c p hs (Some h) own all e = found_by c p hs h own all e

-- in the turn that tells the end of a child, the job whose child it is is the one for which it was spawned, where that runs it
pub parent_found : (s : Start) (w : Worker) (at c : ℕ) (p : List Entry) (o : Option Id) → AtTurn s w at (Ended c) p → o ≡ slice_get (owners p) c → by_owner c w.jobs o ≡ option_map handle_id (find (runs_child c) w.jobs)
parent_found s w at c p o a is = ap (by_owner c w.jobs) (is ∙ ap (λ (q : List Entry). slice_get (owners q) c) a.last) ∙ sym (parent_or c a.before w.jobs (find (runs_child c) w.jobs) a.stands.own a.stands.tasks_kept refl)
