-- What the acts of a batch ask for is done.
use Rattle.std.proofs.Common.{◌≡◌, ◌≢◌, ℕ, ◌<◌, ◌≤◌, ◌+◌, Bool, true, false, cond, List, [], ◌∷◌, ◌++◌, length, inl, inr, arith, refl, ap, sym, subst, ◌∙◌, ne_eqb}
use Rattle.std.proofs.Math.Arith.{lt_of_le-ne}
use Rattle.std.proofs.lemmas.Bool.{le-ltb, ltb-true, ltb-false, eqb-false, or_parts}
use Rattle.std.specs.Prelude.{Option, None, Some, Result, Ok, Err, map, nat_lt, ◌||◌, ◌⊎◌}
use Rattle.std.specs.List.{filter, find, list_any, AllByRecursion}
use Rattle.wx_words.specs.EachLaws.{each_weaker, each_filter}
use Rattle.wx_command.specs.declared.command.Command.{Command}
use Rattle.wx_control.specs.declared.id.Id.{Id}
use Rattle.wx_control.specs.Flags.{Flag}
use Rattle.wx_control.specs.declared.ask.Ask.{Ask as AnAsk}
use Rattle.wx_control.specs.declared.control.Control.{Control}
use Rattle.wx_control.specs.declared.level.Level.{Level}
use Rattle.wx_control.specs.Asks.{sends_of}
use Rattle.wx_journal.specs.Acts.{JournalAct as Act}
use Rattle.wx_journal.specs.declared.entry.Act.TheVariants.{Create, Ask, Change, Quit, QuitGracefully}
use Rattle.wx_journal.specs.declared.entry.Entry.{Entry}
use Rattle.wx_journal.specs.declared.entry.Entry.TheVariants.{Word as Said, Made, Asked, Changed}
use Rattle.wx_journal.specs.declared.entry.Word.TheVariants.{Ignored}
use Rattle.wx_journal.specs.Names.{above, ticket_count, next_job}
use Rattle.wx_machine.specs.History.{same, lives, command, RunsOnly}
use Rattle.wx_machine.specs.Table.{Plan, Done, adds, asks, ask_second, ask_plan, send_plan}
use Rattle.wx_machine.specs.Case.{PlanAdmits, next, PlanLeads, PlanHere, PlanThen, PlanFollowsAlone}
use Rattle.wx_machine.specs.Leaves.{SameHistory, LeavesOthers}
use Rattle.wx_job.specs.declared.task.JobTask.{JobTask}
use Rattle.wx_job.specs.Stands.{TaskStands, SameJob, id_of}
use Rattle.wx_machine.proofs.Owners.{other-is, self}
use Rattle.wx_machine.proofs.Frame.{frame_apart}
use Rattle.wx_hooks.specs.declared.handler.Todo.{Todo}
use Rattle.wx_hooks.specs.declared.handler.Todo.TheVariants as todo
use Rattle.wx_hooks.specs.declared.held.Held.{Held}
use Rattle.wx_worker.specs.declared.worker_state.Worker.{Worker}
use Rattle.wx_machine.specs.Start.{Start}
use Rattle.wx_machine.specs.Keyboard.{ended_over}
use Rattle.wx_config.specs.Changes.{changed as changed_by, last_revision}
use Rattle.wx_config.specs.declared.change.Change.{Change as AChange}
use Rattle.wx_config.specs.declared.config.Config.{Config}
use Rattle.wx_machine.specs.Settings.{changes, later, pending, first_changed, settings, revision, MayChange}
use Rattle.wx_machine.proofs.PlanLaws.{raised}
use Rattle.wx_machine.specs.Jobs.{with_id, with_created, set, is_seen, jobs, change_plan, act_plan, is_free, MayCreate, but, AreLawfulBy, AreLawful, AreRising}
use Rattle.wx_machine.specs.declared.quit.QuitManner.{QuitManner}
use Rattle.wx_machine.specs.Quits.{quit_asks}
use Rattle.wx_machine.specs.Due.{Agenda, Open, settle, agenda, plans, rest, Admits, Due}
use Rattle.wx_hooks.specs.Todo.{IsNew, AreTodo}
use Rattle.wx_action.specs.Perform.{AreCommanded, OwesPlan, OwesActs, Does, HasAsked, DoesAsk}
use Rattle.wx_machine.specs.Kept.{StaysQuiet, More}
use Rattle.wx_machine.specs.Leads.{FollowsAlone, Then}
use Rattle.wx_machine.specs.Turns.{StaysInTurn}
use Rattle.wx_hooks.specs.HeldJobs.{is_of, with_task, with_held}
use Rattle.wx_hooks.proofs.JobListLemmas.{all_with, ids_with}
use Rattle.wx_machine.proofs.AllJobs.{unseen_made, commanded_created, none_by_ask, turns_over}
use Rattle.wx_machine.proofs.JobSets.{set_rising, may_unseen, lawful_made}
use Rattle.wx_worker.specs.Stands.{Stands}
use Rattle.wx_hooks.specs.JobsStand.{HeldStands, held_id}
use Rattle.wx_worker.proofs.StandsLemmas.{stands_rest, stands_behind, stands_changed}
use Rattle.wx_hooks.proofs.JobsLemmas.{same_held}
use Rattle.wx_action.proofs.PlanLemmas.{jobs_stand, idle_then}
use Rattle.wx_hooks.proofs.JobsLemmas.{jobs_change}
use Rattle.wx_hooks.proofs.QuietLemmas.{still_led}
use Rattle.wx_action.proofs.JobLemmas.{Lent, changed}

commanded_same : (p p' : List Entry) (acts : List Act) → ((i : Id) → command i p' ≡ command i p) → AreCommanded p acts → AreCommanded p' acts
commanded_same p p' [] same h = tt
commanded_same p p' (Create id what ∷ acts) same h = (same id ∙ h.0, commanded_same p p' acts same h.1)
commanded_same p p' (Ask id ask ∷ acts) same h = commanded_same p p' acts same h
commanded_same p p' (Change change ∷ acts) same h = commanded_same p p' acts same h
commanded_same p p' (Quit ∷ acts) same h = commanded_same p p' acts same h
commanded_same p p' (QuitGracefully signal grace ∷ acts) same h = commanded_same p p' acts same h

-- one act was done for a worker
pub record OneDone (s : Start) (w' : Worker) (rest : List Todo) (quit : Option QuitManner) (ids : List Id) (p p' : List Entry) : Type 0 where
  pub stands : Stands s w' p'
  pub follows : FollowsAlone s p p'
  pub quiet : StaysQuiet p p'
  pub turns : StaysInTurn p p'
  pub owes : OwesActs s p' rest quit ids

-- ---- a job is made

-- the jobs that live, once a job was made whose id is none of them
jobs_kept : (p : List Entry) (id x : Id) (ids : List Id) (alive : Bool) → nat_lt x.0 id.0 ≡ true → same id x ≡ false → filter (λ j. same id j || lives j p) (with_id id ids) ≡ with_id id (filter (λ j. lives j p) ids) → lives x p ≡ alive
    → filter (λ j. same id j || lives j p) (with_id id (x ∷ ids)) ≡ with_id id (filter (λ j. lives j p) (x ∷ ids))
jobs_kept p id x ids true below other more is = rw (below, other, is) (rw below (ap (λ (js : List Id). x ∷ js) more))
jobs_kept p id x ids false below other more is = rw (below, other, is) more

-- where all are above it
filter_same : (p : List Entry) (id : Id) (ids : List Id) → AllByRecursion (λ j. id.0 < j.0) ids → filter (λ j. same id j || lives j p) ids ≡ filter (λ j. lives j p) ids
filter_same p id [] above = refl
filter_same p id (x ∷ ids) above = rw (ne_eqb id.0 x.0 (λ e. absurd (omega (arith, e, above.0))), filter_same p id ids above.1) refl

with_first : (id : Id) (ids : List Id) → AllByRecursion (λ j. id.0 < j.0) ids → with_id id ids ≡ id ∷ ids
with_first id [] above = refl
with_first id (x ∷ ids) above = rw (le-ltb x.0 id.0 (omega (arith, above.0)), ne_eqb x.0 id.0 (λ e. absurd (omega (arith, e, above.0)))) refl

jobs_above : (p : List Entry) (id x : Id) (ids : List Id) → AllByRecursion (λ j. id.0 < j.0) (x ∷ ids) → filter (λ j. same id j || lives j p) (with_id id (x ∷ ids)) ≡ with_id id (filter (λ j. lives j p) (x ∷ ids))
jobs_above p id x ids above =
    let first : with_id id (x ∷ ids) ≡ id ∷ x ∷ ids = with_first id (x ∷ ids) above in
    let kept : filter (λ j. same id j || lives j p) (id ∷ x ∷ ids) ≡ id ∷ filter (λ j. lives j p) (x ∷ ids) = rw (self id) (ap (λ (js : List Id). id ∷ js) (filter_same p id (x ∷ ids) above)) in
    ap (λ (js : List Id). filter (λ j. same id j || lives j p) js) first ∙ kept ∙ sym (with_first id (filter (λ j. lives j p) (x ∷ ids)) (each_filter (λ j. id.0 < j.0) (λ j. lives j p) (x ∷ ids) above))

jobs_by : (p : List Entry) (id x : Id) (ids : List Id) (b : Bool) → nat_lt x.0 id.0 ≡ b → same x id ≡ false → AreRising (x ∷ ids) → filter (λ j. same id j || lives j p) (with_id id ids) ≡ with_id id (filter (λ j. lives j p) ids)
    → filter (λ j. same id j || lives j p) (with_id id (x ∷ ids)) ≡ with_id id (filter (λ j. lives j p) (x ∷ ids))
jobs_by p id x ids true lt other r more = jobs_kept p id x ids (lives x p) lt (ne_eqb id.0 x.0 (λ e. absurd (omega (arith, e, ltb-true x.0 id.0 lt)))) more refl
jobs_by p id x ids false lt other r more =
    let above : id.0 < x.0 = lt_of_le-ne (ltb-false x.0 id.0 lt) (λ e. eqb-false x.0 id.0 other (sym e)) in
    jobs_above p id x ids (above, each_weaker (λ j. x.0 < j.0) (λ j. id.0 < j.0) (λ j more. omega (arith, above, more)) ids r.0)

jobs_among : (p : List Entry) (id : Id) (ids : List Id) → AreRising ids → list_any (λ job. same job id) ids ≡ false → filter (λ j. same id j || lives j p) (with_id id ids) ≡ with_id id (filter (λ j. lives j p) ids)
jobs_among p id [] r none = rw (self id) refl
jobs_among p id (x ∷ ids) r none = let parts = or_parts (same x id) (list_any (λ job. same job id) ids) none in jobs_by p id x ids (nat_lt x.0 id.0) refl parts.0 r (jobs_among p id ids r.1 parts.1)

jobs_made : (p : List Entry) (id : Id) → is_seen id p ≡ false → jobs (Made id ∷ p) ≡ with_id id (jobs p)
jobs_made p id unseen = jobs_among p id (set p) (set_rising p).rising unseen

-- the first act that isn't a quit creates a job
record FirstMake (s : Start) (p : List Entry) (held : Held) (rest : List Todo) (quit : Option QuitManner) (ids : List Id) : Type 0 where
  id : Id
  what : Command
  acts : List Act
  is_new : IsNew held id what
  may : MayCreate (is_free p) (next_job p) id
  lawful : AreLawfulBy (but id (is_free p)) (above (next_job p) id) acts
  is_todo : AreTodo acts rest
  commanded : command id p ≡ Some what
  later : AreCommanded p acts
  may_change : MayChange (revision s p) acts
  waiting : pending p ≡ changes acts
  then : with_created acts (with_id id (jobs p)) ≡ ids
  due : agenda s p ≡ settle p (plans (adds (Made id) (act_plan (λ job. same id job || lives job p) (revision s p) (acts ++ quit_asks quit ids))) Open)

first_make : (s : Start) (p : List Entry) (held : Held) (rest : List Todo) (quit : Option QuitManner) (ids : List Id) (acts : List Act) → AreLawful p acts → MayChange (revision s p) acts → AreTodo acts (todo.Create held ∷ rest) → AreCommanded p acts → pending p ≡ changes acts → with_created acts (jobs p) ≡ ids → OwesPlan s p (acts ++ quit_asks quit ids) → FirstMake s p held rest quit ids
first_make s p held rest quit ids [] l m t k w e d = absurd t
first_make s p held rest quit ids (Create id what ∷ acts) l m t k w e d = record { id = id; what = what; acts = acts; is_new = t.0; may = l.0; lawful = l.1; is_todo = t.1; commanded = k.0; later = k.1; may_change = m; waiting = w; then = e; due = d }
first_make s p held rest quit ids (Ask id ask ∷ acts) l m t k w e d = absurd t
first_make s p held rest quit ids (Change change ∷ acts) l m t k w e d = absurd t
first_make s p held rest quit ids (Quit ∷ acts) l m t k w e d = first_make s p held rest quit ids acts l m t k w e d
first_make s p held rest quit ids (QuitGracefully signal grace ∷ acts) l m t k w e d = first_make s p held rest quit ids acts l m t k w e d

over_made : (i id : Id) (p : List Entry) → i ≢ id → SameHistory i p (Made id ∷ p)
over_made i id p ne = frame_apart i (Made id) p (other-is i id ne) refl

-- a job runs what it was created to run
runs_only : (id : Id) (what : Command) (p : List Entry) → command id p ≡ Some what → RunsOnly id what p
runs_only id what p is created made = let here : Some what ≡ Some created = sym is ∙ made in cc

-- the id of a job that isn't seen is none of these
none_is : (id : Id) (ids : List Id) → list_any (λ job. same job id) ids ≡ false → AllByRecursion (λ j. j ≢ id) ids
none_is id [] none = tt
none_is id (x ∷ ids) none =
    let parts = or_parts (same x id) (list_any (λ job. same job id) ids) none in
    (λ e. (let both : true ≡ false = sym (rw e (self id)) ∙ parts.0 in absurd cc), none_is id ids parts.1)

-- and none of them is found under it
none_found : (p : List Entry) (id : Id) (hs : List Held) → AllByRecursion (HeldStands p) hs → AllByRecursion (λ j. j ≢ id) (map held_id hs) → find (is_of id) hs ≡ None
none_found p id [] stand ne = refl
none_found p id (h ∷ hs) stand ne =
    let other : is_of id h ≡ false = other-is id h.handle.id (λ e. ne.0 (sym stand.0.handle_is ∙ sym e)) in
    rw other (none_found p id hs stand.1 ne.1)

-- the id of a job that is to be made isn't held
pub fresh : (s : Start) (w : Worker) (held : Held) (rests : List Todo) (quit : Option QuitManner) (ids : List Id) (p : List Entry) → OwesActs s p (todo.Create held ∷ rests) quit ids → Stands s w p → find (is_of held.handle.id) w.jobs ≡ None
fresh s w held rests quit ids p owes stands =
    let f = first_make s p held rests quit ids owes.acts owes.lawful owes.may_change owes.is_todo owes.commanded owes.waiting owes.then owes.due in
    let others : AllByRecursion (λ j. j ≢ f.id) (map held_id w.jobs) = rw stands.jobs_kept (none_is f.id (set p) (may_unseen p f.id f.may)) in
    ap (λ (i : Id). find (is_of i) w.jobs) f.is_new.handle_id ∙ none_found p f.id w.jobs stands.tasks_kept others

tasks_made : (p : List Entry) (id : Id) (hs : List Held) → AllByRecursion (λ j. j ≢ id) (map held_id hs) → AllByRecursion (HeldStands p) hs → AllByRecursion (HeldStands (Made id ∷ p)) hs
tasks_made p id [] ne s = tt
tasks_made p id (x ∷ hs) ne s = (same_held p (Made id ∷ p) x (over_made (held_id x) id p ne.0) s.0, tasks_made p id hs ne.1 s.1)

made_by : (s : Start) (w w' : Worker) (held : Held) (rests : List Todo) (quit : Option QuitManner) (ids : List Id) (p : List Entry) (f : FirstMake s p held rests quit ids) → Stands s w p → w' ≡ record w { jobs = w'.jobs } → w'.jobs ≡ with_held held w.jobs → OneDone s w' rests quit ids p (Made f.id ∷ p)
made_by s w w' held rests quit ids p f stands fields items =
    let due : Due s p (Made f.id) = subst (λ (a : Agenda). Admits s p a (Made f.id)) (sym f.due) (tt, refl) in
    let unseen : is_seen f.id p ≡ false = may_unseen p f.id f.may in
    let others : AllByRecursion (λ j. j ≢ f.id) (map held_id w.jobs) = rw stands.jobs_kept (none_is f.id (set p) unseen) in
    let ids = ids_with p w.jobs held stands.tasks_kept (f.is_new.handle_id ∙ sym f.is_new.task_id) (rw f.is_new.task_id others) in
    let new : HeldStands (Made f.id ∷ p) held = record {
      task_stands = f.is_new.stands p (runs_only f.id f.what p f.commanded);
      command_is = ap (λ (i : Id). command i p) f.is_new.task_id ∙ f.commanded ∙ ap (λ (k : Command). Some k) (sym f.is_new.task_command);
      handle_is = f.is_new.handle_id ∙ sym f.is_new.task_id;
      handle_command = f.is_new.handle_command ∙ sym f.is_new.task_command;
      is_open = f.is_new.is_open;
    } in
    let stood : Stands s (record w { jobs = w'.jobs }) (Made f.id ∷ p) = record {
      own = (commanded_created f.id p f.what f.commanded, stands.own);
      config_kept = stands.config_kept;
      queue_kept = stands.queue_kept;
      size_kept = stands.size_kept;
      closed_kept = stands.closed_kept;
      named_kept = stands.named_kept;
      names_kept = stands.names_kept;
      events_kept = stands.events_kept;
      first_kept = stands.first_kept;
      jobs_kept = ap (λ (hs : List Held). map held_id hs) items ∙ ids ∙ ap (λ (i : Id). with_id i (map held_id w.jobs)) f.is_new.task_id ∙ ap (with_id f.id) stands.jobs_kept;
      tasks_kept = rw items (all_with (HeldStands (Made f.id ∷ p)) w.jobs held (tasks_made p f.id w.jobs others stands.tasks_kept) new);
      idle_kept = unseen_made f.id p stands.idle_kept;
      graceful_kept = stands.graceful_kept;
      ended_kept = stands.ended_kept;
    } in
    record {
      stands = rw fields stood;
      follows = λ world hooks p₀ world₀ hooks₀ l. Then (Made f.id) p world hooks l due;
      quiet = λ p₀ a. More (Made f.id) p a refl;
      turns = turns_over _ _ refl;
      owes = record { acts = f.acts; lawful = lawful_made p f.id f.acts f.lawful; may_change = f.may_change; is_todo = f.is_todo; commanded = commanded_same p (Made f.id ∷ p) f.acts (λ i. refl) f.later; waiting = f.waiting; due = ap (λ (a : Agenda). settle (Made f.id ∷ p) (rest (Made f.id) a)) f.due; then = ap (λ (js : List Id). with_created f.acts js) (jobs_made p f.id unseen) ∙ f.then };
    }

pub made : (s : Start) (w w' : Worker) (held : Held) (rests : List Todo) (quit : Option QuitManner) (ids : List Id) (p p' : List Entry) → OwesActs s p (todo.Create held ∷ rests) quit ids → Stands s w p → w' ≡ record w { jobs = w'.jobs } → w'.jobs ≡ with_held held w.jobs → p' ≡ Made held.handle.id ∷ p → OneDone s w' rests quit ids p p'
made s w w' held rests quit ids p p' owes stands fields items grown =
    let f = first_make s p held rests quit ids owes.acts owes.lawful owes.may_change owes.is_todo owes.commanded owes.waiting owes.then owes.due in
    let is : p' ≡ Made f.id ∷ p = grown ∙ ap (λ (i : Id). Made i ∷ p) f.is_new.handle_id in
    rw is (made_by s w w' held rests quit ids p f stands fields items)

-- ---- a job is asked, or the act is ignored

record FirstAsk (s : Start) (p : List Entry) (id : Id) (ask : AnAsk) (rest : List Todo) (quit : Option QuitManner) (ids : List Id) : Type 0 where
  acts : List Act
  lawful : AreLawful p acts
  is_todo : AreTodo acts rest
  commanded : AreCommanded p acts
  may_change : MayChange (revision s p) acts
  waiting : pending p ≡ changes acts
  then : with_created acts (jobs p) ≡ ids
  due : OwesPlan s p (Ask id ask ∷ acts ++ quit_asks quit ids)

first_ask : (s : Start) (p : List Entry) (id : Id) (ask : AnAsk) (done : Flag) (rest : List Todo) (quit : Option QuitManner) (ids : List Id) (acts : List Act) → AreLawful p acts → MayChange (revision s p) acts → AreTodo acts (todo.Ask id ask done ∷ rest) → AreCommanded p acts → pending p ≡ changes acts → with_created acts (jobs p) ≡ ids → OwesPlan s p (acts ++ quit_asks quit ids) → FirstAsk s p id ask rest quit ids
first_ask s p id ask done rest quit ids [] l m t k w e d = absurd t
first_ask s p id ask done rest quit ids (Create job what ∷ acts) l m t k w e d = absurd t
first_ask s p id ask done rest quit ids (Ask job asked ∷ acts) l m t k w e d = record { acts = acts; lawful = l; is_todo = t.2; commanded = k; may_change = m; waiting = w; then = e; due = rw (t.0, t.1) d }
first_ask s p id ask done rest quit ids (Change change ∷ acts) l m t k w e d = absurd t
first_ask s p id ask done rest quit ids (Quit ∷ acts) l m t k w e d = first_ask s p id ask done rest quit ids acts l m t k w e d
first_ask s p id ask done rest quit ids (QuitGracefully signal grace ∷ acts) l m t k w e d = first_ask s p id ask done rest quit ids acts l m t k w e d

-- an ask was asked of a job, or ignored, for a worker
pub record OneAsked (s : Start) (w' : Worker) (id : Id) (ask : AnAsk) (p p' : List Entry) : Type 0 where
  pub stands : Stands s w' p'
  pub follows : FollowsAlone s p p'
  pub quiet : StaysQuiet p p'
  pub turns : StaysInTurn p p'
  pub asked : HasAsked s p id ask p'

-- the plan of an ask and of acts behind it, of a job that lives or not
ask_owed : (s : Start) (p : List Entry) (id : Id) (ask : AnAsk) (acts : List Act) (alive : Bool) → lives id p ≡ alive → OwesPlan s p (Ask id ask ∷ acts)
    → agenda s p ≡ settle p (plans (cond alive (ask_plan id (sends_of ask) (act_plan (λ job. lives job p) (revision s p) acts)) (adds (Said Ignored) (act_plan (λ job. lives job p) (revision s p) acts))) Open)
ask_owed s p id ask acts alive is owed = rw (← is) owed

pub ignored_one : (s : Start) (w : Worker) (id : Id) (ask : AnAsk) (acts : List Act) (p p' : List Entry) → OwesPlan s p (Ask id ask ∷ acts) → Stands s w p → lives id p ≡ false → p' ≡ Said Ignored ∷ p → OneAsked s w id ask p p'
ignored_one s w id ask acts p p' owes stands gone grown =
    let due : Due s p (Said Ignored) = subst (λ (a : Agenda). Admits s p a (Said Ignored)) (sym (ask_owed s p id ask acts false gone owes)) (tt, refl) in
    rw grown (record {
      stands = stands_behind s w (Said Ignored) p refl tt stands;
      follows = λ world hooks p₀ world₀ hooks₀ l. Then (Said Ignored) p world hooks l due;
      quiet = λ p₀ a. More (Said Ignored) p a refl;
      turns = turns_over _ _ refl;
      asked = record {
        owes = λ acts owed. ap (λ (a : Agenda). settle (Said Ignored ∷ p) (rest (Said Ignored) a)) (ask_owed s p id ask acts false gone owed);
        commands = λ i. refl;
        lawful_same = λ acts l. l;
        revision_same = refl;
        pending_same = refl;
        jobs_same = refl;
      };
    })

-- where this was what is to be done for the first act it was done
pub asked_todo : (s : Start) (id : Id) (ask : AnAsk) (done : Flag) (p p' : List Entry) → HasAsked s p id ask p' → (rest : List Todo) (quit : Option QuitManner) (ids : List Id) → OwesActs s p (todo.Ask id ask done ∷ rest) quit ids → OwesActs s p' rest quit ids
asked_todo s id ask done p p' a rest quit ids owes =
    let f = first_ask s p id ask done rest quit ids owes.acts owes.lawful owes.may_change owes.is_todo owes.commanded owes.waiting owes.then owes.due in record {
      acts = f.acts;
      lawful = a.lawful_same f.acts f.lawful;
      may_change = rw a.revision_same f.may_change;
      is_todo = f.is_todo;
      commanded = commanded_same p p' f.acts a.commands f.commanded;
      waiting = a.pending_same ∙ f.waiting;
      then = ap (λ (js : List Id). with_created f.acts js) a.jobs_same ∙ f.then;
      due = a.owes (f.acts ++ quit_asks quit ids) f.due;
    }

-- the entries of an ask: one for each of its controls
asked_all : Id → Level → Control → Option Control → List Entry → List Entry
asked_all id level first None p = Asked (ticket_count p) id level first ∷ p
asked_all id level first (Some second) p = Asked (ticket_count p + 1) id level second ∷ Asked (ticket_count p) id level first ∷ p

-- both controls were asked, or one, or nothing yet
abbrev AskedSo : Id → Level → Control → Option Control → List Entry → Plan → List Entry → Type 0
AskedSo id level first second p k' p' = ((k' ≡ asks id level first (ask_second id level second Done)) × (p' ≡ p)) ⊎ (((k' ≡ ask_second id level second Done) × (p' ≡ Asked (ticket_count p) id level first ∷ p)) ⊎ ((k' ≡ Done) × (p' ≡ asked_all id level first second p)))

asked_first : (id : Id) (level : Level) (first : Control) (second : Option Control) (p : List Entry) (k : Plan) (q : List Entry) (e : Entry) → PlanAdmits q k e → k ≡ asks id level first (ask_second id level second Done) → q ≡ p → AskedSo id level first second p (next k e) (e ∷ q)
asked_first id level first second p k q e d plan_is same =
    let is : e ≡ Asked (ticket_count q) id level first = (subst (λ (j : Plan). PlanAdmits q j e) plan_is d).1 in
    inr (inl (ap (λ (j : Plan). next j e) plan_is ∙ ap (λ (x : Entry). next (asks id level first (ask_second id level second Done)) x) is, ap (λ (x : Entry). x ∷ q) is ∙ ap (λ (r : List Entry). Asked (ticket_count r) id level first ∷ r) same))

asked_then : (id : Id) (level : Level) (first : Control) (second : Option Control) (p : List Entry) (k : Plan) (q : List Entry) (e : Entry) → PlanAdmits q k e → k ≡ ask_second id level second Done → q ≡ Asked (ticket_count p) id level first ∷ p → AskedSo id level first second p (next k e) (e ∷ q)
unfolding asked_all
asked_then id level first None p k q e d plan_is same = absurd (subst (λ (j : Plan). PlanAdmits q j e) plan_is d)
asked_then id level first (Some second) p k q e d plan_is same =
    let is : e ≡ Asked (ticket_count q) id level second = (subst (λ (j : Plan). PlanAdmits q j e) plan_is d).1 in
    inr (inr (ap (λ (j : Plan). next j e) plan_is ∙ ap (λ (x : Entry). next (asks id level second Done) x) is, ap (λ (x : Entry). x ∷ q) is ∙ ap (λ (r : List Entry). Asked (ticket_count r) id level second ∷ r) same))

asked_more : (id : Id) (level : Level) (first : Control) (second : Option Control) (p : List Entry) (k : Plan) (q : List Entry) (e : Entry) → PlanAdmits q k e → AskedSo id level first second p k q → AskedSo id level first second p (next k e) (e ∷ q)
asked_more id level first second p k q e d (inl h) = asked_first id level first second p k q e d h.0 h.1
asked_more id level first second p k q e d (inr (inl h)) = asked_then id level first second p k q e d h.0 h.1
asked_more id level first second p k q e d (inr (inr h)) = absurd (subst (λ (j : Plan). PlanAdmits q j e) h.0 d)

asked_so : (id : Id) (level : Level) (first : Control) (second : Option Control) (p : List Entry) (world hooks : Option (List Entry)) (n : ℕ) (k' : Plan) (p' : List Entry) (world' hooks' : Option (List Entry)) (n' : ℕ) → PlanLeads (asks id level first (ask_second id level second Done)) p world hooks n k' p' world' hooks' n' → AskedSo id level first second p k' p'
asked_so id level first second p world hooks n k' p' world' hooks' n' l = elim l as (λ k' p' world' hooks' n' _. AskedSo id level first second p k' p') [
  | PlanHere ↦ inl (refl, refl)
  | PlanThen e k₁ p₁ world₁ hooks₁ n₁ n₂ (l → h) d counts ↦ asked_more id level first second p k₁ p₁ e d h
]

asked_done : (id : Id) (level : Level) (first : Control) (second : Option Control) (p p' : List Entry) → AskedSo id level first second p Done p' → p' ≡ asked_all id level first second p
unfolding asked_all
asked_done id level first second p p' (inl h) = let e = h.0 in absurd cc
asked_done id level first None p p' (inr (inl h)) = h.1
asked_done id level first (Some second) p p' (inr (inl h)) = let e = h.0 in absurd cc
asked_done id level first second p p' (inr (inr h)) = h.1

-- what is known of a run to which the entries of an ask were added that was owed before this plan
record Asks (s : Start) (k : Plan) (p p' : List Entry) : Type 0 where
  follows : FollowsAlone s p p'
  quiet : StaysQuiet p p'
  turns : StaysInTurn p p'
  due : agenda s p' ≡ settle p' (plans k Open)
  jobs_same : jobs p' ≡ jobs p
  commands : (i : Id) → command i p' ≡ command i p
  lawful_same : (acts : List Act) → AreLawful p acts → AreLawful p' acts
  acts_same : (acts : List Act) → act_plan (λ job. lives job p') (revision s p') acts ≡ act_plan (λ job. lives job p) (revision s p) acts
  revision_same : revision s p' ≡ revision s p
  pending_same : pending p' ≡ pending p

asks_one : (s : Start) (p : List Entry) (id : Id) (level : Level) (control : Control) (k : Plan) → agenda s p ≡ settle p (plans (asks id level control k) Open) → Asks s k p (Asked (ticket_count p) id level control ∷ p)
asks_one s p id level control k owed =
    let e = Asked (ticket_count p) id level control in
    let due : Due s p e = subst (λ (a : Agenda). Admits s p a e) (sym owed) (tt, refl) in record {
      follows = λ world hooks p₀ world₀ hooks₀ l. Then e p world hooks l due;
      quiet = λ p₀ a. More e p a refl;
      turns = turns_over e p refl;
      due = ap (λ (a : Agenda). settle (e ∷ p) (rest e a)) owed;
      jobs_same = refl;
      commands = λ i. refl;
      lawful_same = λ acts l. l;
      acts_same = λ acts. refl;
      revision_same = refl;
      pending_same = refl;
    }

asks_then : (s : Start) (k k' : Plan) (p q r : List Entry) → Asks s k p q → Asks s k' q r → Asks s k' p r
asks_then s k k' p q r a b = record {
  follows = λ world hooks p₀ world₀ hooks₀ l. b.follows world hooks p₀ world₀ hooks₀ (a.follows world hooks p₀ world₀ hooks₀ l);
  quiet = λ p₀ h. b.quiet p₀ (a.quiet p₀ h);
  turns = λ p₀ h. b.turns p₀ (a.turns p₀ h);
  due = b.due;
  jobs_same = b.jobs_same ∙ a.jobs_same;
  commands = λ i. b.commands i ∙ a.commands i;
  lawful_same = λ acts l. b.lawful_same acts (a.lawful_same acts l);
  acts_same = λ acts. b.acts_same acts ∙ a.acts_same acts;
  revision_same = b.revision_same ∙ a.revision_same;
  pending_same = b.pending_same ∙ a.pending_same;
}

asks_all : (s : Start) (p : List Entry) (id : Id) (level : Level) (first : Control) (second : Option Control) (k : Plan) → agenda s p ≡ settle p (plans (asks id level first (ask_second id level second k)) Open) → Asks s k p (asked_all id level first second p)
unfolding asked_all
asks_all s p id level first None k owed = asks_one s p id level first k owed
asks_all s p id level first (Some second) k owed =
    let one = asks_one s p id level first (asks id level second k) owed in
    asks_then s (asks id level second k) k p _ _ one (asks_one s (Asked (ticket_count p) id level first ∷ p) id level second k one.due)

pub asked_one : (s : Start) (w w' : Worker) (id : Id) (task task' : JobTask) (ask : AnAsk) (acts : List Act) (p p' : List Entry) → OwesPlan s p (Ask id ask ∷ acts) → Stands s w p → lives id p ≡ true → Lent p w.jobs id task → w' ≡ record w { jobs = w'.jobs }
    → w'.jobs ≡ with_task id w.jobs task' → SameJob task task' → TaskStands task' p' → LeavesOthers (id_of task) p p' → PlanFollowsAlone (send_plan (id_of task) (sends_of ask) p) p Done p' → OneAsked s w' id ask p p'
asked_one s w w' id task task' ask acts p p' owes stands alive l fields jobs same task_stands leaves follows =
    let sends = sends_of ask in
    let change = changed p p' w.jobs w'.jobs id task task' l jobs same task_stands in
    let id_is : id_of task ≡ id = ap id_of (sym l.task_is) ∙ l.id_is in
    let plan_is : send_plan (id_of task) sends p ≡ ask_plan id sends Done = rw (id_is, alive) refl in
    let led : PlanLeads (ask_plan id sends Done) p None None 0 Done p' None None 0 = rw (← plan_is) (follows _ p None None 0 None None 0 PlanHere) in
    let grown = asked_done id sends.level sends.first sends.second p p' (asked_so id sends.level sends.first sends.second p None None 0 Done p' None None 0 led) in
    let asked = asked_all id sends.level sends.first sends.second p in
    let ran = asks_all s p id sends.level sends.first sends.second (act_plan (λ job. lives job p) (revision s p) acts) (ask_owed s p id ask acts true alive owes) in
    let still = (still_led (ask_plan id sends Done) p None None 0 Done p' None None 0 (none_by_ask id ask p) led).still in
    let others : LeavesOthers (held_id l.held) p p' = rw l.task_is leaves in
    let j = jobs_change p p' w.jobs w'.jobs change.0 l.held (record l.held { task = task' }) (jobs_stand s w p stands) still others change.1 in
    let idle = idle_then s w change.0 l.held p p' stands change.1.within change.1.held still others in
    let stood : Stands s w' asked = subst (Stands s w') grown (stands_rest s w w' p p' stands leaves.own idle still fields j.0 j.1) in
    rw grown (record {
      stands = stood;
      follows = ran.follows;
      quiet = ran.quiet;
      turns = ran.turns;
      asked = record {
        owes = λ acts owed. (
            let one = asks_all s p id sends.level sends.first sends.second (act_plan (λ job. lives job p) (revision s p) acts) (ask_owed s p id ask acts true alive owed) in
            one.due ∙ ap (λ (i : Plan). settle asked (plans i Open)) (sym (one.acts_same acts)));
        commands = ran.commands;
        lawful_same = ran.lawful_same;
        revision_same = ran.revision_same;
        pending_same = ran.pending_same;
        jobs_same = ran.jobs_same;
      };
    })

-- ---- a setting is changed

record FirstChange (s : Start) (p : List Entry) (change : AChange) (rest : List Todo) (quit : Option QuitManner) (ids : List Id) : Type 0 where
  acts : List Act
  lawful : AreLawful p acts
  is_todo : AreTodo acts rest
  commanded : AreCommanded p acts
  may_change : revision s p + 1 + length (changes acts) ≤ last_revision
  waiting : pending p ≡ change ∷ changes acts
  then : with_created acts (jobs p) ≡ ids
  due : agenda s p ≡ settle p (plans (change_plan (revision s p) (act_plan (λ job. lives job p) (revision s p + 1) (acts ++ quit_asks quit ids))) Open)

first_change : (s : Start) (p : List Entry) (change : AChange) (rest : List Todo) (quit : Option QuitManner) (ids : List Id) (acts : List Act) → AreLawful p acts → MayChange (revision s p) acts → AreTodo acts (todo.Change change ∷ rest) → AreCommanded p acts → pending p ≡ changes acts → with_created acts (jobs p) ≡ ids → OwesPlan s p (acts ++ quit_asks quit ids) → FirstChange s p change rest quit ids
first_change s p change rest quit ids [] l m t k w e d = absurd t
first_change s p change rest quit ids (Create job what ∷ acts) l m t k w e d = absurd t
first_change s p change rest quit ids (Ask job asked ∷ acts) l m t k w e d = absurd t
first_change s p change rest quit ids (Change asked ∷ acts) l m t k w e d = record { acts = acts; lawful = l; is_todo = t.1; commanded = k; may_change = (let fits = m (omega arith) in omega arith); waiting = rw t.0 w; then = e; due = d }
first_change s p change rest quit ids (Quit ∷ acts) l m t k w e d = first_change s p change rest quit ids acts l m t k w e d
first_change s p change rest quit ids (QuitGracefully signal grace ∷ acts) l m t k w e d = first_change s p change rest quit ids acts l m t k w e d

first_of : (s : Start) (p : List Entry) (change : AChange) (rest : List Todo) (quit : Option QuitManner) (ids : List Id) → OwesActs s p (todo.Change change ∷ rest) quit ids → FirstChange s p change rest quit ids
first_of s p change rest quit ids owes = first_change s p change rest quit ids owes.acts owes.lawful owes.may_change owes.is_todo owes.commanded owes.waiting owes.then owes.due

-- the revision can be raised
pub change_fits : (s : Start) (p : List Entry) (change : AChange) (rest : List Todo) (quit : Option QuitManner) (ids : List Id) → OwesActs s p (todo.Change change ∷ rest) quit ids → revision s p < last_revision
change_fits s p change rest quit ids owes = let f = first_of s p change rest quit ids owes in let fits = f.may_change in omega arith

pub changed_one : (s : Start) (w w' : Worker) (change : AChange) (rests : List Todo) (quit : Option QuitManner) (ids : List Id) (p p' : List Entry) → OwesActs s p (todo.Change change ∷ rests) quit ids → Stands s w p → w' ≡ record w { config = w'.config; ended = w'.ended } → w'.ended ≡ ended_over w.config.keyboard_events w'.config.keyboard_events w.ended → w'.config ≡ changed_by change w.config → p' ≡ Changed w'.config.change_signal ∷ p → OneDone s w' rests quit ids p p'
changed_one s w w' change rests quit ids p p' owes stands fields ended config grown =
    let f = first_of s p change rests quit ids owes in
    let now : w'.config ≡ changed_by change (settings s p) = config ∙ ap (changed_by change) stands.config_kept in
    let raises : w'.config.change_signal ≡ revision s p + 1 = ap (λ (c : Config). c.change_signal) now ∙ raised change (settings s p) in
    let is : p' ≡ Changed (revision s p + 1) ∷ p = grown ∙ ap (λ n. Changed n ∷ p) raises in
    let due : Due s p (Changed (revision s p + 1)) = subst (λ (a : Agenda). Admits s p a (Changed (revision s p + 1))) (sym f.due) (tt, refl) in
    let after : settings s (Changed (revision s p + 1) ∷ p) ≡ changed_by change (settings s p) = ap (λ (cs : List AChange). first_changed cs (settings s p)) f.waiting in
    let next : revision s (Changed (revision s p + 1) ∷ p) ≡ revision s p + 1 = ap (λ (c : Config). c.change_signal) after ∙ raised change (settings s p) in
    rw is (record {
      stands = stands_changed s w w' change (revision s p + 1) p stands fields ended (config ∙ ap (changed_by change) stands.config_kept ∙ sym after) after;
      follows = λ world hooks p₀ world₀ hooks₀ l. Then (Changed (revision s p + 1)) p world hooks l due;
      quiet = λ p₀ a. More (Changed (revision s p + 1)) p a refl;
      turns = turns_over _ _ refl;
      owes = record {
        acts = f.acts;
        lawful = f.lawful;
        may_change = λ some. rw next f.may_change;
        is_todo = f.is_todo;
        commanded = commanded_same p (Changed (revision s p + 1) ∷ p) f.acts (λ i. refl) f.commanded;
        waiting = ap later f.waiting;
        due = rw next (ap (λ (a : Agenda). settle (Changed (revision s p + 1) ∷ p) (rest (Changed (revision s p + 1)) a)) f.due);
        then = f.then;
      };
    })

-- ---- nothing is left to be done

quits_alone : (there : Id → Bool) (n : ℕ) (acts behind : List Act) → AreTodo acts [] → act_plan there n (acts ++ behind) ≡ act_plan there n behind
quits_alone there n [] behind t = refl
quits_alone there n (Create id what ∷ acts) behind t = absurd t
quits_alone there n (Ask id ask ∷ acts) behind t = absurd t
quits_alone there n (Change change ∷ acts) behind t = absurd t
quits_alone there n (Quit ∷ acts) behind t = quits_alone there n acts behind t
quits_alone there n (QuitGracefully signal grace ∷ acts) behind t = quits_alone there n acts behind t

quits_create : (acts : List Act) (ids : List Id) → AreTodo acts [] → with_created acts ids ≡ ids
quits_create [] ids t = refl
quits_create (Create id what ∷ acts) ids t = absurd t
quits_create (Ask id ask ∷ acts) ids t = absurd t
quits_create (Change change ∷ acts) ids t = absurd t
quits_create (Quit ∷ acts) ids t = quits_create acts ids t
quits_create (QuitGracefully signal grace ∷ acts) ids t = quits_create acts ids t

pub all_done : (s : Start) (p : List Entry) (todos : List Todo) (quit : Option QuitManner) (ids : List Id) → length todos ≡ 0 → OwesActs s p todos quit ids → OwesActs s p [] quit ids
all_done s p [] quit ids none owes = owes
all_done s p (todo ∷ todos) quit ids none owes = absurd cc

-- then what the quit asks of the jobs that live is owed
pub quit_owed : (s : Start) (p : List Entry) (quit : Option QuitManner) (ids : List Id) → OwesActs s p [] quit ids → OwesPlan s p (quit_asks quit (jobs p))
quit_owed s p quit ids owes =
    let same : jobs p ≡ ids = sym (quits_create owes.acts (jobs p) owes.is_todo) ∙ owes.then in
    rw same (owes.due ∙ ap (λ (k : Plan). settle p (plans k Open)) (quits_alone (λ id. lives id p) (revision s p) owes.acts (quit_asks quit ids) owes.is_todo))

-- ---- an ask that is to be done for an act

pub ask_first : (s : Start) (p : List Entry) (id : Id) (ask : AnAsk) (done : Flag) (rest : List Todo) (quit : Option QuitManner) (ids : List Id) → OwesActs s p (todo.Ask id ask done ∷ rest) quit ids → (acts : List Act) × OwesPlan s p (Ask id ask ∷ acts)
ask_first s p id ask done rest quit ids owes =
    let f = first_ask s p id ask done rest quit ids owes.acts owes.lawful owes.may_change owes.is_todo owes.commanded owes.waiting owes.then owes.due in
    (f.acts ++ quit_asks quit ids, f.due)

pub does_ask : {X E : Type 0} (r : Result X E) (s : Start) (id : Id) (ask : AnAsk) (done : Flag) (p p' : List Entry) → DoesAsk r s p id ask p' → Does r s p (todo.Ask id ask done) p'
does_ask (Ok x) s id ask done p p' d = record { done = asked_todo s id ask done p p' d.done; err = tt }
does_ask (Err e) s id ask done p p' d = record { done = tt; err = d.err }
