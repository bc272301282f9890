-- The turns of jobs.
use Rattle.std.proofs.Common.{◌≡◌, ◌≢◌, ℕ, ◌+◌, Bool, true, false, cond, List, [], ◌∷◌, inl, inr, refl, ap, sym, subst, ◌∙◌, eq-eqb, ne_eqb}
use Rattle.std.specs.Prelude.{Option, None, Some, Result, Ok, Err, is_some, option_map, map, not}
use Rattle.std.specs.List.{AllByRecursion, find}
use Rattle.std.proofs.lemmas.Bool.{or_parts}
use Rattle.wx_words.specs.OptionLaws.{refused}
use Rattle.wx_command.specs.declared.command.Command.{Command}
use Rattle.wx_control.specs.declared.id.Id.{Id}
use Rattle.wx_control.specs.declared.ask.Ask.{Ask}
use Rattle.wx_control.specs.Asks.{sends_of}
use Rattle.wx_journal.specs.declared.entry.Entry.{Entry}
use Rattle.wx_journal.specs.declared.entry.Entry.TheVariants.{Turn as Turned, Changed}
use Rattle.wx_journal.specs.declared.entry.TurnKind.TheVariants.{Ended}
use Rattle.wx_journal.specs.declared.entry.Word.TheVariants.{Ignored}
use Rattle.wx_journal.specs.Names.{NamesItsOwn, moment}
use Rattle.wx_job.specs.declared.task.JobTask.{JobTask}
use Rattle.wx_machine.specs.History.{lives, child, same, is_child, command}
use Rattle.wx_machine.specs.Table.{Plan, Done, send_plan, step_by, step_plan, ask_plan}
use Rattle.wx_machine.specs.Case.{IsCut, GaveUp, PlanFollowsAlone, PlanLeads, PlanHere}
use Rattle.wx_machine.specs.Leaves.{LeavesOthers}
use Rattle.wx_journal.specs.Written.{Written}
use Rattle.wx_machine.specs.Seen.{Seen}
use Rattle.wx_job.specs.Stands.{StepFails, AllAsBefore, BehindHook, TaskStands, SameJob, IsEnding, id_of, command_of, closed_of, gone_of, running_of, parked_count}
use Rattle.wx_machine.proofs.Owners.{self, same-is, is_child_some}
use Rattle.wx_hooks.specs.declared.held.Held.{Held}
use Rattle.wx_worker.specs.declared.worker_state.Worker.{Worker}
use Rattle.wx_machine.specs.Start.{Start}
use Rattle.wx_machine.specs.Keyboard.{ended_over}
use Rattle.wx_config.specs.Changes.{changed as changed_by, last_revision}
use Rattle.wx_config.specs.declared.change.Change.{Change}
use Rattle.wx_config.specs.declared.config.Config.{Config}
use Rattle.wx_machine.specs.Settings.{pending, first_changed, settings, revision}
use Rattle.wx_machine.proofs.PlanLaws.{raised}
use Rattle.wx_machine.specs.Jobs.{set, living, parent, change_plan}
use Rattle.wx_machine.specs.Due.{Agenda, Open, Plans, Admits, Due, plans, says, ask_turn, change_turn, job_turn, ended_turn, is_through, is_quitting, settle, rest, agenda}
use Rattle.wx_machine.proofs.SettleLaws.{settle_calm, settle_through, served_settled, quiet_open}
use Rattle.wx_machine.specs.Quits.{is_aborting}
use Rattle.wx_worker.specs.Serves.{IsServed}
use Rattle.wx_machine.specs.Kept.{StaysQuiet, More}
use Rattle.wx_machine.specs.Leads.{FollowsAlone, Follows, Then}
use Rattle.wx_worker.specs.Serves.{LeavesOff, Steps, Settles}
use Rattle.wx_machine.specs.Turns.{StaysInTurn}
use Rattle.wx_machine.proofs.AllJobs.{turns_over, calls_none_ask, none_by_ask, none_by_step, parent_is, parent_is_none}
use Rattle.wx_machine.proofs.JobSets.{IsIn}
use Rattle.wx_worker.proofs.TurnLaws.{at_end_of_none, other_over_end}
use Rattle.wx_hooks.specs.HeldJobs.{is_of, runs_child, handle_id, task_of, with_task, parked_in, parked_at}
use Rattle.wx_worker.specs.Stands.{Stands, AtTurn, IsStepOf}
use Rattle.wx_hooks.specs.JobsStand.{HeldStands, held_id}
use Rattle.wx_hooks.proofs.JobListLemmas.{placed, with_put, none_at, also, some_alive, held_some, task_held, id_held, none_held}
use Rattle.wx_action.proofs.ShownLemmas.{alive_is}
use Rattle.wx_worker.proofs.StandsLemmas.{rest_over, stands_rest, stands_changed}
use Rattle.wx_hooks.proofs.JobsLemmas.{held_at, is_in_place, tasks_put, ids_put}
use Rattle.wx_action.proofs.PlanLemmas.{JobDone, jobs_stand, plan_done, same_done}
use Rattle.wx_hooks.proofs.JobsLemmas.{Changes}
use Rattle.wx_job.proofs.StandsLemmas.{lives-kept, child-kept}

-- ---- a job that is held

-- a job that lives is held
pub alive_held : (s : Start) (w : Worker) (p : List Entry) (id : Id) → Stands s w p → lives id p ≡ true → is_some (find (is_of id) w.jobs) ≡ true
alive_held s w p id stands alive = some_alive (find (is_of id) w.jobs) (alive_is s w p id stands ∙ alive)

-- what is held where a task is found
pub record Lent (p : List Entry) (hs : List Held) (id : Id) (task : JobTask) : Type 0 where
  pub held : Held
  pub found : find (is_of id) hs ≡ Some held
  pub task_is : held.task ≡ task
  pub id_is : held_id held ≡ id
  pub stood : HeldStands p held

pub of_found : (p : List Entry) (hs : List Held) (id : Id) (h : Held) → AllByRecursion (HeldStands p) hs → find (is_of id) hs ≡ Some h → Lent p hs id h.task
of_found p hs id h stands e =
    let at = placed (is_of id) hs h e in
    let stood : HeldStands p h = held_at p hs at.0 h at.1.within at.1.held stands in
    record { held = h; found = e; task_is = refl; id_is = sym stood.handle_is ∙ same-is h.handle.id id at.1.mine; stood = stood }

pub lent : (s : Start) (w : Worker) (p : List Entry) (id : Id) (task : JobTask) → Stands s w p → option_map task_of (find (is_of id) w.jobs) ≡ Some task → Lent p w.jobs id task
lent s w p id task stands e =
    let h = task_held (find (is_of id) w.jobs) task e in
    subst (Lent p w.jobs id) h.2 (of_found p w.jobs id h.0 stands.tasks_kept h.1)

-- how many tickets its task has parked
parked_found : (o : Option Held) (task : JobTask) → option_map task_of o ≡ Some task → parked_in o ≡ parked_count task
parked_found None task e = absurd cc
parked_found (Some h) task e = let is : h.task ≡ task = cc in ap parked_count is

pub parked_lent : (hs : List Held) (id : Id) (task : JobTask) → option_map task_of (find (is_of id) hs) ≡ Some task → parked_at id hs ≡ parked_count task
parked_lent hs id task e = parked_found (find (is_of id) hs) task e

-- ---- controls are asked

-- what is held of a job changes with its task
pub changed : (p p' : List Entry) (hs hs' : List Held) (id : Id) (task task' : JobTask) → (l : Lent p hs id task) → hs' ≡ with_task id hs task' → SameJob task task' → TaskStands task' p' → (n : ℕ) × Changes hs hs' n l.held (record l.held { task = task' }) p'
changed p p' hs hs' id task task' l jobs same stood =
    let at = placed (is_of id) hs l.held l.found in (
      at.0,
      record { within = at.1.within; held = at.1.held; items = jobs ∙ sym (with_put id hs at.0 l.held task' at.1); handle_same = refl; job_same = rw l.task_is same; task_stands = stood },
    )

-- the same where no entry was added
pub same_lent : (s : Start) (w w' : Worker) (id : Id) (task task' : JobTask) (p p' : List Entry) → Stands s w p → p' ≡ p → (l : Lent p w.jobs id task) → w' ≡ record w { jobs = w'.jobs } → w'.jobs ≡ with_task id w.jobs task' → SameJob task task' → TaskStands task' p' → Stands s w' p'
same_lent s w w' id task task' p p' stands same l fields jobs job stood =
    let change = changed p p' w.jobs w'.jobs id task task' l jobs job stood in
    same_done s w w' change.0 l.held (record l.held { task = task' }) p p' stands same fields change.1

pub record AskDone (s : Start) (w' : Worker) (p p' : List Entry) : Type 0 where
  pub stands : Stands s w' p'
  pub follows : FollowsAlone s p p'
  pub quiet : StaysQuiet p p'
  pub turns : StaysInTurn p p'
  pub done : IsServed s p'

pub ask_done : (s : Start) (w w' : Worker) (id : Id) (task task' : JobTask) (ask : Ask) (p p' : List Entry) → Stands s w p → is_quitting p ≡ false → agenda s p ≡ ask_turn id ask p → lives id p ≡ true → Lent p w.jobs id task
    → w' ≡ record w { jobs = w'.jobs } → w'.jobs ≡ with_task id w.jobs task' → SameJob task task' → TaskStands task' p' → LeavesOthers (id_of task) p p' → PlanFollowsAlone (send_plan (id_of task) (sends_of ask) p) p Done p' → AskDone s w' p p'
ask_done s w w' id task task' ask p p' stands going due alive l fields jobs same stood leaves follows =
    let h = l.held in
    let change = changed p p' w.jobs w'.jobs id task task' l jobs same stood in
    let id_is : id_of task ≡ id = ap id_of (sym l.task_is) ∙ l.id_is in
    let owed : agenda s p ≡ plans (ask_plan id (sends_of ask) Done) Open = due ∙ ap (λ (b : Bool). cond b (plans (ask_plan id (sends_of ask) Done) Open) (says Ignored)) alive in
    let plan_is : send_plan (id_of task) (sends_of ask) p ≡ ask_plan id (sends_of ask) Done = rw (id_is, alive) refl in
    let done : (world hooks : Option (List Entry)) → JobDone s w' (ask_plan id (sends_of ask) Done) Open p p' world world hooks hooks = λ world hooks.
    plan_done s w w' change.0 h (record h { task = task' }) p p' (ask_plan id (sends_of ask) Done) Done Open world world hooks hooks 0 0 stands going owed (none_by_ask id ask p) fields change.1 (rw l.task_is leaves)
    (rw (← plan_is) (follows _ p world hooks 0 world hooks 0 PlanHere)) in
    let one = done None None in record {
      stands = one.stands;
      follows = λ world hooks. (done world hooks).follows;
      quiet = one.quiet (calls_none_ask id ask p);
      turns = one.turns;
      done = served_settled s p p' going one.aborts one.done;
    }

-- ---- a change of the settings

pub change_done : (s : Start) (w w' : Worker) (change : Change) (p p' : List Entry) → Stands s w p → is_quitting p ≡ false → agenda s p ≡ change_turn (revision s p) → pending p ≡ change ∷ [] → revision s p ≢ last_revision → w' ≡ record w { config = w'.config; ended = w'.ended } → w'.ended ≡ ended_over w.config.keyboard_events w'.config.keyboard_events w.ended → w'.config ≡ changed_by change w.config → p' ≡ Changed w'.config.change_signal ∷ p → AskDone s w' p p'
change_done s w w' change p p' stands going due waits other fields ended config grown =
    let raises : w'.config.change_signal ≡ revision s p + 1 = ap (λ (c : Config). c.change_signal) (config ∙ ap (changed_by change) stands.config_kept) ∙ raised change (settings s p) in
    let is : p' ≡ Changed (revision s p + 1) ∷ p = grown ∙ ap (λ n. Changed n ∷ p) raises in
    let owed : agenda s p ≡ plans (change_plan (revision s p) Done) Open = due ∙ ap (λ (b : Bool). cond b (says Ignored) (plans (change_plan (revision s p) Done) Open)) (ne_eqb (revision s p) last_revision other) in
    let d : Due s p (Changed (revision s p + 1)) = subst (λ (a : Agenda). Admits s p a (Changed (revision s p + 1))) (sym owed) (tt, refl) in
    let after : settings s (Changed (revision s p + 1) ∷ p) ≡ changed_by change (settings s p) = ap (λ (cs : List Change). first_changed cs (settings s p)) waits in
    rw is (record {
      stands = stands_changed s w w' change (revision s p + 1) p stands fields ended (config ∙ ap (changed_by change) stands.config_kept ∙ sym after) after;
      follows = λ world hooks p₀ world₀ hooks₀ l. Then (Changed (revision s p + 1)) p world hooks l d;
      quiet = λ p₀ a. More (Changed (revision s p + 1)) p a refl;
      turns = turns_over _ _ refl;
      done = ap (λ (a : Agenda). settle (Changed (revision s p + 1) ∷ p) (rest (Changed (revision s p + 1)) a)) owed ∙ settle_through (Changed (revision s p + 1) ∷ p) (or_parts (is_aborting p) (is_through p) going).0;
    })

-- ---- a step

-- a turn of a job that lives owes a step
pub step_owed : (s : Start) (w : Worker) (at : ℕ) (id : Id) (p : List Entry) → Stands s w p → is_quitting p ≡ false → agenda s p ≡ job_turn id (living id p) p → moment p ≡ at → lives id p ≡ true → IsStepOf s id at p
unfolding of_found
step_owed s w at id p stands going due now alive =
    let h = held_some (find (is_of id) w.jobs) (alive_held s w p id stands alive) in
    let l = of_found p w.jobs id h.0 stands.tasks_kept h.1 in
    let commanded : command id p ≡ Some (command_of h.0.task) = ap (λ i. command i p) (sym l.id_is) ∙ l.stood.command_is in
    let runs : living id p ≡ Some (command_of h.0.task) = rw alive commanded in
    record { what = command_of h.0.task; alive = alive; runs = commanded; due = due ∙ rw runs refl; going = going; now = now }

-- what is known behind a step that followed its plan so far: the task is open, so that is the plan which was owed
step_at_plan : (s : Start) (w w' : Worker) (at : ℕ) (id : Id) (task task' : JobTask) (k' : Plan) (p p' : List Entry) (world world' hooks hooks' : Option (List Entry)) (m m' : ℕ) → Stands s w p → IsStepOf s id at p → Lent p w.jobs id task
    → w' ≡ record w { jobs = w'.jobs } → w'.jobs ≡ with_task id w.jobs task' → SameJob task task' → TaskStands task' p' → LeavesOthers (id_of task) p p' → PlanLeads (step_by (closed_of task) (id_of task) (command_of task) p) p world hooks m k' p' world' hooks' m'
    → JobDone s w' (step_plan (id_of task) (command_of task) p) (plans k' Open) p p' world world' hooks hooks'
step_at_plan s w w' at id task task' k' p p' world world' hooks hooks' m m' stands step l fields jobs same stood leaves led =
    let h = l.held in
    let change = changed p p' w.jobs w'.jobs id task task' l jobs same stood in
    let runs : command id p ≡ Some (command_of h.task) = ap (λ i. command i p) (sym l.id_is) ∙ l.stood.command_is in
    let both : Some step.what ≡ Some (command_of h.task) = sym step.runs ∙ runs in
    let what : step.what ≡ command_of h.task = cc in
    let due : agenda s p ≡ plans (step_plan (held_id h) (command_of h.task) p) Open = step.due ∙ ap (λ (i : Id). plans (step_plan i step.what p) Open) (sym l.id_is) ∙ ap (λ (k : Command). plans (step_plan (held_id h) k p) Open) what in
    let owed : agenda s p ≡ plans (step_plan (id_of task) (command_of task) p) Open = rw (← l.task_is) due in
    let is_open : closed_of task ≡ false = ap closed_of (sym l.task_is) ∙ l.stood.is_open in
    let step_led = subst (λ (b : Bool). PlanLeads (step_by b (id_of task) (command_of task) p) p world hooks m k' p' world' hooks' m') is_open led in
    plan_done s w w' change.0 h (record h { task = task' }) p p' (step_plan (id_of task) (command_of task) p) k' Open world world' hooks hooks' m m' stands step.going owed (none_by_step (id_of task) (command_of task) p) fields change.1 (rw l.task_is leaves) step_led

pub step_done : (s : Start) (w w' : Worker) (at : ℕ) (id : Id) (task task' : JobTask) (p p' : List Entry) (world world' hooks hooks' : Option (List Entry)) (m m' : ℕ) → Stands s w p → IsStepOf s id at p → Lent p w.jobs id task
    → w' ≡ record w { jobs = w'.jobs } → w'.jobs ≡ with_task id w.jobs task' → SameJob task task' → TaskStands task' p' → LeavesOthers (id_of task) p p' → PlanLeads (step_by (closed_of task) (id_of task) (command_of task) p) p world hooks m Done p' world' hooks' m'
    → JobDone s w' (step_plan (id_of task) (command_of task) p) Open p p' world world' hooks hooks'
step_done s w w' at id task task' p p' world world' hooks hooks' m m' stands step l fields jobs same stood leaves led = step_at_plan s w w' at id task task' Done p p' world world' hooks hooks' m m' stands step l fields jobs same stood leaves led

-- a step that wanted for memory
pub record StepStopped (s : Start) (w' : Worker) (p p' : List Entry) (world world' hooks hooks' : Option (List Entry)) : Type 0 where
  pub stands : Stands s w' p'
  pub follows : Follows s p world hooks p' world' hooks'
  pub turns : StaysInTurn p p'
  pub leaves : LeavesOff s p p'

-- a plan at which a case may be given up isn't done
cut_plans : (p : List Entry) (k : Plan) → IsCut k → settle p (plans k Open) ≡ Plans k Open
cut_plans p Done cut = absurd cut
cut_plans p (k) cut = refl

step_gave : {Fixed : Type 0} (s : Start) (w w' : Worker) (at : ℕ) (id : Id) (task task' : JobTask) (p p' : List Entry) (a b : Seen Fixed) (hooks hooks' : Option (List Entry)) → Stands s w p → IsStepOf s id at p → Lent p w.jobs id task
    → w' ≡ record w { jobs = w'.jobs } → w'.jobs ≡ with_task id w.jobs task' → SameJob task task' → TaskStands task' p' → LeavesOthers (id_of task) p p' → GaveUp (step_by (closed_of task) (id_of task) (command_of task) p) p a hooks p' b hooks'
    → StepStopped s w' p p' a.shown.told b.shown.told hooks hooks'
step_gave s w w' at id task task' p p' a b hooks hooks' stands step l fields jobs same stood leaves gave =
    let d = step_at_plan s w w' at id task task' gave.rest p p' a.shown.told b.shown.told hooks hooks' a.shown.faults b.shown.faults stands step l fields jobs same stood leaves gave.ran.led in
    record { stands = d.stands; follows = d.follows; turns = d.turns; leaves = inr (record { rest = gave.rest; cut = gave.cut; due = d.done ∙ cut_plans p' gave.rest gave.cut }) }

pub step_stopped : {Host Hooks Fixed Held : Type 0} (seen : Host → Seen Fixed) (told : Hooks → Option (List Entry)) (s : Start) (w w' : Worker) (at : ℕ) (id : Id) (task task' : JobTask) (j j' : Written) (host host' : Host) (x x' : Hooks) → Stands s w j.past → IsStepOf s id at j.past → Lent j.past w.jobs id task
    → w' ≡ record w { jobs = w'.jobs } → w'.jobs ≡ with_task id w.jobs task' → SameJob task task' → TaskStands task' j'.past → LeavesOthers (id_of task) j.past j'.past
    → StepFails task j host x task' j' host' x' (GaveUp (step_by (closed_of task) (id_of task) (command_of task) j.past) j.past (seen host) (told x) j'.past (seen host') (told x') × Held)
    → StepStopped s w' j.past j'.past (seen host).shown.told (seen host').shown.told (told x) (told x')
step_stopped seen told s w w' at id task task' j j' host host' x x' stands step l fields jobs same stood leaves (AllAsBefore undone hooks) = record {
  stands = same_lent s w w' id task task' j.past j'.past stands (ap (λ k. k.past) undone.journal) l fields jobs same stood;
  follows = λ p₀ world₀ hooks₀ led. rw (undone.journal, undone.host, hooks) led;
  turns = λ p₀ t. rw undone.journal t;
  leaves = inl (ap (λ k. k.past) undone.journal);
}
step_stopped seen told s w w' at id task task' j j' host host' x x' stands step l fields jobs same stood leaves (BehindHook pending gave) =
    step_gave s w w' at id task task' j.past j'.past (seen host) (seen host') (told x) (told x') stands step l fields jobs same stood leaves gave.0

-- behind room that was taken
pub steps_after : {X E : Type 0} (s : Start) (p q p' : List Entry) (result : Result X E) → q ≡ p → Steps result s q p' → Steps result s p p'
steps_after s p q p' result same steps = subst (λ (r : List Entry). Steps result s r p') same steps

-- where no entry was added
pub steps_settled : {X E : Type 0} (s : Start) (p p' : List Entry) (result : Result X E) → Settles result s p p' → Steps result s p p'
steps_settled s p p' (Ok x) h = record { done = h.done; err = tt }
steps_settled s p p' (Err e) h = record { done = tt; err = inl h.err }

-- ---- the end of a child

-- a child of none that is held
never_runs : (c : ℕ) (p : List Entry) (hs : List Held) → AllByRecursion (HeldStands p) hs → AllByRecursion (λ h. runs_child c h ≡ false) hs → (id : Id) → IsIn id (map held_id hs) → child id p ≡ Some c → ⊥
never_runs c p [] s none id here runs = here
never_runs c p (h ∷ hs) s none id (inl is) runs =
    let its : running_of h.task ≡ Some c = child-kept h.task p s.0.task_stands ∙ ap (λ j. child j p) is ∙ runs in
    let there : runs_child c h ≡ true = ap (is_child c) its ∙ eq-eqb c c refl in
    let both : true ≡ false = sym there ∙ none.0 in absurd cc
never_runs c p (h ∷ hs) s none id (inr here) runs = never_runs c p hs s.1 none.1 id here runs

-- where none is found the turn is ignored
pub record NoneEnded (s : Start) (w : Worker) (p : List Entry) : Type 0 where
  pub stands : Stands s w p
  pub due : agenda s p ≡ says Ignored

pub none_ended : (s : Start) (w : Worker) (at c : ℕ) (p : List Entry) → AtTurn s w at (Ended c) p → option_map handle_id (find (runs_child c) w.jobs) ≡ None → NoneEnded s w p
none_ended s w at c p a e =
    let found : find (runs_child c) w.jobs ≡ None = none_held (find (runs_child c) w.jobs) e in
    let before : (id : Id) → IsIn id (set a.before) → child id a.before ≡ Some c → ⊥ = λ id here. never_runs c a.before w.jobs a.stands.tasks_kept (none_at (runs_child c) w.jobs found) id (rw a.stands.jobs_kept here) in
    let none : parent c p ≡ None = rw a.last (parent_is_none c (Turned (record { at = at; kind = Ended c }) ∷ a.before) before) in
    let h = at_end_of_none s w at c p a none in
    record { stands = h.stands; due = h.due ∙ rw none refl }

-- what is known of the job whose child ended
pub record OneEnds (w : Worker) (c : ℕ) (id : Id) (p : List Entry) : Type 0 where
  pub there : is_some (find (is_of id) w.jobs) ≡ true
  pub its : child id p ≡ Some c

pub one_ends : (s : Start) (w : Worker) (at c : ℕ) (id : Id) (p : List Entry) (a : AtTurn s w at (Ended c) p) → option_map handle_id (find (runs_child c) w.jobs) ≡ Some id → OneEnds w c id a.before
one_ends s w at c id p a e =
    let o = id_held (find (runs_child c) w.jobs) id e in
    let h = o.0 in
    let place = placed (runs_child c) w.jobs h o.1 in
    let stood : HeldStands a.before h = held_at a.before w.jobs place.0 h place.1.within place.1.held a.stands.tasks_kept in
    let mine : is_of id h ≡ true = ap (λ i. same i id) o.2 ∙ self id in
    record {
      there = also (runs_child c) (is_of id) w.jobs h o.1 mine;
      its = ap (λ i. child i a.before) (sym o.2 ∙ stood.handle_is) ∙ sym (child-kept h.task a.before stood.task_stands) ∙ is_child_some c (running_of h.task) place.1.mine;
    }

-- the task of that job can keep the end
pub record CanEnd (at c : ℕ) (task : JobTask) (p : List Entry) : Type 0 where
  pub ending : IsEnding task c at p
  pub runs : running_of task ≡ Some c

pub can_end : (s : Start) (w : Worker) (at c : ℕ) (id : Id) (task : JobTask) (p : List Entry) (a : AtTurn s w at (Ended c) p) → OneEnds w c id a.before → Lent a.before w.jobs id task → CanEnd at c task p
can_end s w at c id task p a one l = subst (λ (k : JobTask). CanEnd at c k p) l.task_is (record {
  ending = record { before = a.before; last = a.last; stands = l.stood.task_stands };
  runs = child-kept l.held.task a.before l.stood.task_stands ∙ ap (λ i. child i a.before) l.id_is ∙ one.its;
})

-- a journal with the turn that told the end of this child
abbrev told : ℕ → ℕ → List Entry → List Entry
told at c p = Turned (record { at = at; kind = Ended c }) ∷ p

-- its end is kept, and a step of it is owed
pub record EndKept (s : Start) (w' : Worker) (id : Id) (at : ℕ) (p : List Entry) : Type 0 where
  pub stands : Stands s w' p
  pub step : IsStepOf s id at p

-- the turn owes a step of the job whose child it names
owes_step : (s : Start) (at c : ℕ) (id : Id) (what : Command) (p : List Entry) → NamesItsOwn p → IsIn id (set p) → child id p ≡ Some c → lives id p ≡ true → command id p ≡ Some what → is_quitting (told at c p) ≡ false
    → agenda s (told at c p) ≡ plans (step_plan id what (told at c p)) Open
owes_step s at c id what p own here runs alive commanded going =
    let found_is : parent c (told at c p) ≡ Some id = parent_is c id (told at c p) (tt, own) here runs in
    let living_is : living id (told at c p) ≡ Some what = rw alive commanded in
    settle_calm (told at c p) (ended_turn (parent c (told at c p)) (told at c p)) going ∙ ap (λ (o : Option Id). ended_turn o (told at c p)) found_is ∙ ap (λ (o : Option Command). job_turn id o (told at c p)) living_is

pub end_kept : (s : Start) (w w' : Worker) (at c : ℕ) (id : Id) (task task' : JobTask) (p : List Entry) (a : AtTurn s w at (Ended c) p) → OneEnds w c id a.before → (l : Lent a.before w.jobs id task)
    → w' ≡ record w { jobs = w'.jobs } → w'.jobs ≡ with_task id w.jobs task' → SameJob task task' → TaskStands task' p → EndKept s w' id at p
end_kept s w w' at c id task task' p a one l fields items same task_stands =
    let hs = w.jobs in
    let h = l.held in
    let h' = record l.held { task = task' } in
    let the_change = changed a.before p hs w'.jobs id task task' l items same task_stands in
    let n = the_change.0 in
    let change = the_change.1 in
    let own : NamesItsOwn a.before = a.stands.own in
    let jobs = jobs_stand s w a.before a.stands in
    let stood : HeldStands a.before h = l.stood in
    let its : child (held_id h) a.before ≡ Some c = ap (λ i. child i a.before) l.id_is ∙ one.its in
    let runs : running_of h.task ≡ Some c = child-kept h.task a.before stood.task_stands ∙ its in
    let alive : lives (held_id h) a.before ≡ true = sym (lives-kept h.task a.before stood.task_stands) ∙ ap not (refused (gone_of h.task) _ c runs).0 in
    let here : IsIn (held_id h) (set a.before) = rw a.stands.jobs_kept at (is_in_place hs n h change.within change.held) in
    let new : HeldStands (told at c a.before) h' = record {
      task_stands = subst (TaskStands h'.task) a.last change.task_stands;
      command_is = ap (λ (i : Id). command i a.before) change.job_same.same_id ∙ stood.command_is ∙ ap (λ (k : Command). Some k) (sym change.job_same.same_command);
      handle_is = rw (change.handle_same, change.job_same.same_id) stood.handle_is;
      handle_command = rw (change.handle_same, change.job_same.same_command) stood.handle_command;
      is_open = change.job_same.same_closed ∙ stood.is_open;
    } in
    let tasks = tasks_put a.before (told at c a.before) hs n h h' jobs.ids_apart change.within change.held (λ x ne st. other_over_end at c (held_id h) a.before x own its ne st) a.stands.tasks_kept new in
    let ids : map held_id w'.jobs ≡ set a.before = rw change.items (ids_put hs n h h' change.within change.held change.job_same.same_id ∙ a.stands.jobs_kept) in
    let going : is_quitting (told at c a.before) ≡ false = (or_parts (is_aborting a.before) _ (quiet_open s a.before a.open_is)).1 in
    let owed = owes_step s at c (held_id h) (command_of h.task) a.before own here its alive stood.command_is going in
    let step : IsStepOf s (held_id h) at (told at c a.before) = record { what = command_of h.task; alive = alive; runs = stood.command_is; due = owed; going = going; now = refl } in
    subst (EndKept s w' id at) (sym a.last) (record {
      stands = stands_rest s w w' a.before (told at c a.before) a.stands (tt, own) a.stands.idle_kept (rest_over (Turned (record { at = at; kind = Ended c })) a.before tt) fields ids (rw change.items tasks);
      step = subst (λ (i : Id). IsStepOf s i at (told at c a.before)) l.id_is step;
    })
