-- The window is handed.
use Rattle.std.proofs.Common.{◌≡◌, ◌≢◌, ◌<◌, ◌≤◌, ℕ, Bool, true, false, cond, List, [], ◌∷◌, ◌++◌, inl, inr, refl, arith, ap, sym, subst, ◌∙◌, append_assoc, ne_eqb}
use Rattle.std.specs.Prelude.{Option, None, Some, map, not, length, ◌+◌, ◌&&◌, ◌||◌, ◌==◌}
use Rattle.std.specs.List.{AllByRecursion, filter, list_any}
use Rattle.std.proofs.lemmas.Bool.{not-false}
use Rattle.std.proofs.lemmas.List.{length-map}
use Rattle.wx_command.specs.declared.command.Command.{Command}
use Rattle.wx_control.specs.declared.id.Id.{Id}
use Rattle.wx_journal.specs.declared.entry.Entry.{Entry}
use Rattle.wx_journal.specs.declared.entry.Entry.TheVariants.{Turn as Turned, TurnFault, Hand}
use Rattle.wx_journal.specs.Acts.{JournalAct as Act}
use Rattle.wx_journal.specs.declared.entry.Act.TheVariants.{Create, Ask, Change, Quit, QuitGracefully}
use Rattle.wx_journal.specs.Names.{event_count, next_job}
use Rattle.wx_journal.specs.Told.{tell, is_hooks}
use Rattle.wx_machine.specs.History.{lives, child, creation, or_else, command}
use Rattle.wx_machine.specs.Table.{Plan, Done}
use Rattle.wx_hooks.specs.declared.handler.Todo.{Todo}
use Rattle.wx_hooks.specs.declared.held.Held.{Held}
use Rattle.wx_worker.specs.declared.worker_state.Worker.{Worker}
use Rattle.wx_worker.specs.declared.collecting.Collected.{Collected}
use Rattle.wx_worker.specs.declared.collecting.Collected.TheVariants as collected
use Rattle.wx_worker.specs.declared.collecting.Worked.TheVariants.{On, End}
use Rattle.wx_machine.specs.Start.{Start}
use Rattle.wx_machine.specs.Settings.{settings, revision, MayChange}
use Rattle.wx_machine.specs.Journal.{window, turn_count}
use Rattle.wx_machine.specs.Kept.{Quiet, Same, More}
use Rattle.wx_worker.specs.Serves.{AddsAlone, IsServed}
use Rattle.wx_machine.specs.Jobs.{set, jobs, with_created, act_plan, is_free, AreLawfulBy, AreLawful}
use Rattle.wx_machine.specs.declared.quit.QuitManner.{QuitManner}
use Rattle.wx_machine.specs.Quits.{quit_of, quit_asks, is_abort, is_graceful, is_aborting, graceful}
use Rattle.wx_machine.specs.Answer.{NoneIsToGo}
use Rattle.wx_machine.specs.Due.{Hands, Open, Comes, plans, after_acts, is_through, is_quitting, settle, agenda, Due}
use Rattle.wx_machine.specs.Leads.{FollowsHooks, Then}
use Rattle.wx_action.specs.Perform.{AreCommanded, OwesPlan, OwesActs}
use Rattle.wx_worker.specs.Stands.{Stands, Collects, Works, without_hand}
use Rattle.wx_hooks.specs.JobsStand.{HeldStands, held_id}
use Rattle.wx_job.specs.Stands.{gone_of, running_of}
use Rattle.wx_hooks.specs.HeldJobs.{is_here}
use Rattle.wx_hooks.specs.Todo.{AreTodo}
use Rattle.wx_machine.specs.Turns.{StaysInTurn}
use Rattle.wx_machine.proofs.RunLaws.{window_below, window_handed}
use Rattle.wx_machine.proofs.AllJobs.{command_kept, unseen_hand, creation_is, same_turns, turns_over}
use Rattle.wx_machine.proofs.JobSets.{IsIn, lawful_hand}
use Rattle.wx_hooks.proofs.JobsLemmas.{same_held}
use Rattle.wx_worker.proofs.StandsLemmas.{over_hand}
use Rattle.wx_job.proofs.StandsLemmas.{lives-kept, child-kept}

-- the entry of a batch that was due
pub hand_due : (s : Start) (p : List Entry) (n : ℕ) (names : List ℕ) (acts : List Act) → agenda s p ≡ Comes Hands Open → n ≡ (settings s p).action_handler → names ≡ window p → AreLawful p acts → MayChange (revision s p) acts → Due s p (Hand n names acts)
hand_due s p n names acts due number is lawful may = rw (due, number, is) ((acts, lawful, may), refl)

pub hand_follows : (s : Start) (p p' : List Entry) (n : ℕ) (names : List ℕ) (acts : List Act) (hooks hooks' : Option (List Entry)) → Due s p (Hand n names acts) → p' ≡ Hand n names acts ∷ p → hooks' ≡ tell (Hand n names acts) hooks → FollowsHooks s p hooks p' hooks'
hand_follows s p p' n names acts hooks hooks' due grown told = rw (grown, told) (λ world p₀ world₀ hooks₀ l. Then (Hand n names acts) p world hooks l due)

-- ---- the jobs that are gone leave

map_cond : (b : Bool) (h : Held) (hs : List Held) → map held_id (cond b (h ∷ hs) hs) ≡ cond b (held_id h ∷ map held_id hs) (map held_id hs)
map_cond true h hs = refl
map_cond false h hs = refl

pub ids_here : (p : List Entry) (hs : List Held) → AllByRecursion (HeldStands p) hs → map held_id (filter is_here hs) ≡ filter (λ id. lives id p) (map held_id hs)
ids_here p [] s = refl
ids_here p (h ∷ hs) s =
    map_cond (is_here h) h (filter is_here hs) ∙ ap (λ (ids : List Id). cond (is_here h) (held_id h ∷ ids) ids) (ids_here p hs s.1)
    ∙ ap (λ (b : Bool). cond b (held_id h ∷ filter (λ id. lives id p) (map held_id hs)) (filter (λ id. lives id p) (map held_id hs))) (lives-kept h.task p s.0.task_stands)

all_cond : (P : Held → Type 0) (b : Bool) (h : Held) (hs : List Held) → P h → AllByRecursion P hs → AllByRecursion P (cond b (h ∷ hs) hs)
all_cond P true h hs x s = (x, s)
all_cond P false h hs x s = s

pub all_here : (P : Held → Type 0) (hs : List Held) → AllByRecursion P hs → AllByRecursion P (filter is_here hs)
all_here P [] s = tt
all_here P (h ∷ hs) s = all_cond P (is_here h) h (filter is_here hs) s.0 (all_here P hs s.1)

tasks_hand : (p : List Entry) (n : ℕ) (names : List ℕ) (acts : List Act) (hs : List Held) → AreLawful p acts → ((id : Id) → IsIn id (map held_id hs) → IsIn id (set p)) → AllByRecursion (HeldStands p) hs → AllByRecursion (HeldStands (Hand n names acts ∷ p)) hs
tasks_hand p n names acts [] lawful here stood = tt
tasks_hand p n names acts (h ∷ hs) lawful here stood = (
  same_held p (Hand n names acts ∷ p) h (over_hand n names acts p (held_id h) (command_kept p n names acts (held_id h) lawful (here (held_id h) (inl refl)))) stood.0,
  tasks_hand p n names acts hs lawful (λ id g. here id (inr g)) stood.1,
)

-- no child runs of one that is gone
gone_runs : (p : List Entry) (id : Id) (hs : List Held) → AllByRecursion (HeldStands p) hs → IsIn id (map held_id hs) → lives id p ≡ false → child id p ≡ None
gone_runs p id [] stood here dead = absurd here
gone_runs p id (h ∷ hs) stood (inl is) dead =
    let gone : gone_of h.task ≡ true = not-false (gone_of h.task) (lives-kept h.task p stood.0.task_stands ∙ ap (λ i. lives i p) is ∙ dead) in
    let none : running_of h.task ≡ None = rw gone refl in
    ap (λ i. child i p) (sym is) ∙ sym (child-kept h.task p stood.0.task_stands) ∙ none
gone_runs p id (h ∷ hs) stood (inr here) dead = gone_runs p id hs stood.1 here dead

-- ---- what the acts ask for is owed

all_commanded : (p : List Entry) (n : ℕ) (free : Id → Bool) (m : ℕ) (names : List ℕ) (acts before after : List Act) → acts ≡ before ++ after → AreLawfulBy free m acts → AreCommanded (Hand n names acts ∷ p) after
all_commanded p n free m names acts before [] is l = tt
all_commanded p n free m names acts before (Create id what ∷ after) is l =
    let made : creation id acts ≡ Some what = rw is (creation_is free m before id what after (rw is at l)) in
    (ap (λ (o : Option Command). or_else o (command id p)) made, all_commanded p n free m names acts (before ++ Create id what ∷ []) after (is ∙ sym (append_assoc before (Create id what ∷ []) after)) l)
all_commanded p n free m names acts before (Ask id ask ∷ after) is l = all_commanded p n free m names acts (before ++ Ask id ask ∷ []) after (is ∙ sym (append_assoc before (Ask id ask ∷ []) after)) l
all_commanded p n free m names acts before (Change change ∷ after) is l = all_commanded p n free m names acts (before ++ Change change ∷ []) after (is ∙ sym (append_assoc before (Change change ∷ []) after)) l
all_commanded p n free m names acts before (Quit ∷ after) is l = all_commanded p n free m names acts (before ++ Quit ∷ []) after (is ∙ sym (append_assoc before (Quit ∷ []) after)) l
all_commanded p n free m names acts before (QuitGracefully signal grace ∷ after) is l = all_commanded p n free m names acts (before ++ QuitGracefully signal grace ∷ []) after (is ∙ sym (append_assoc before (QuitGracefully signal grace ∷ []) after)) l

-- jobs that live stay where those that don't leave
kept_twice : (test : Id → Bool) (id : Id) (ids : List Id) (b : Bool) → test id ≡ b → filter test (filter test ids) ≡ filter test ids → filter test (cond b (id ∷ filter test ids) (filter test ids)) ≡ cond b (id ∷ filter test ids) (filter test ids)
kept_twice test id ids true is more = rw is (ap (λ (js : List Id). id ∷ js) more)
kept_twice test id ids false is more = more

filter_twice : (test : Id → Bool) (ids : List Id) → filter test (filter test ids) ≡ filter test ids
filter_twice test [] = refl
filter_twice test (id ∷ ids) = kept_twice test id ids (test id) refl (filter_twice test ids)

-- whether a job lives, by what is held
none_first : (b : Bool) (h : Held) (hs : List Held) → not (list_any is_here hs) ≡ (length (filter is_here hs) == 0) → not (b || list_any is_here hs) ≡ (length (cond b (h ∷ filter is_here hs) (filter is_here hs)) == 0)
none_first true h hs more = sym (ne_eqb (length (h ∷ filter is_here hs)) 0 (λ e. absurd (omega arith)))
none_first false h hs more = more

none_here : (hs : List Held) → not (list_any is_here hs) ≡ (length (filter is_here hs) == 0)
none_here [] = refl
none_here (h ∷ hs) = none_first (is_here h) h hs (none_here hs)

-- a worker says whether a graceful quit was asked for and no job lives
pub through : (s : Start) (w : Worker) (p : List Entry) → Stands s w p → (w.graceful && not (list_any is_here w.jobs)) ≡ is_through p
through s w p stands =
    let ids : map held_id (filter is_here w.jobs) ≡ jobs p = ids_here p w.jobs stands.tasks_kept ∙ ap (λ (js : List Id). filter (λ id. lives id p) js) stands.jobs_kept in
    let count : length (filter is_here w.jobs) ≡ length (jobs p) = sym (length-map (filter is_here w.jobs) held_id) ∙ ap length ids in
    rw stands.graceful_kept (ap (λ (b : Bool). graceful p && b) (none_here w.jobs ∙ ap (λ n. n == 0) count))

pub record Handed (s : Start) (w' : Worker) (p' : List Entry) (todos : List Todo) (quit : Option QuitManner) (ids : List Id) : Type 0 where
  pub stands : Stands s w' p'
  pub owes : OwesActs s p' todos quit ids
  pub aborts : is_aborting p' ≡ is_abort quit

pub handed : (s : Start) (w w' : Worker) (n : ℕ) (names : List ℕ) (acts : List Act) (todos : List Todo) (quit : Option QuitManner) (p p' : List Entry) → Stands s w p → names ≡ window p → AreLawful p acts → MayChange (revision s p) acts → AreTodo acts todos → quit ≡ quit_of acts
    → w' ≡ record w { batch = w'.batch; jobs = w'.jobs; graceful = w'.graceful } → w'.graceful ≡ (is_graceful quit || w.graceful) → w'.batch.names ≡ [] → w'.batch.events ≡ [] → w'.jobs ≡ filter is_here w.jobs → p' ≡ Hand n names acts ∷ p → Handed s w' p' todos quit (with_created acts (jobs p))
handed s w w' n names acts todos quit p p' stands whole lawful may todo_is quits fields asked names_none events_none items grown =
    let none : window (Hand n names acts ∷ p) ≡ [] = window_handed n names acts p whole in
    let tasks = tasks_hand p n names acts w.jobs lawful (λ id g. rw stands.jobs_kept at g) stands.tasks_kept in
    let stood : Stands s (record w { batch = w'.batch; jobs = w'.jobs; graceful = w'.graceful }) (Hand n names acts ∷ p) = record {
      own = (subst (AllByRecursion (λ name. name < event_count p)) (sym whole) (window_below p stands.own), stands.own);
      config_kept = stands.config_kept;
      queue_kept = stands.queue_kept;
      size_kept = stands.size_kept;
      closed_kept = stands.closed_kept;
      named_kept = stands.named_kept;
      names_kept = names_none ∙ sym none;
      events_kept = rw (none, events_none) tt;
      first_kept = stands.first_kept;
      jobs_kept = ap (λ (hs : List Held). map held_id hs) items ∙ ids_here p w.jobs stands.tasks_kept ∙ ap (λ (ids : List Id). filter (λ id. lives id p) ids) stands.jobs_kept;
      tasks_kept = rw items (all_here (HeldStands (Hand n names acts ∷ p)) w.jobs tasks);
      idle_kept = unseen_hand n names acts p stands.idle_kept (λ id here dead. gone_runs p id w.jobs stands.tasks_kept (rw stands.jobs_kept here) dead);
      graceful_kept = asked ∙ ap (λ (q : Option QuitManner). is_graceful q || w.graceful) quits ∙ ap (λ (b : Bool). is_graceful (quit_of acts) || b) stands.graceful_kept;
      ended_kept = stands.ended_kept;
    } in
    rw grown (record {
      stands = rw fields stood;
      owes = record { acts = acts; lawful = lawful_hand p n names acts acts lawful; may_change = may; is_todo = todo_is; commanded = all_commanded p n (is_free p) (next_job p) names acts [] acts refl lawful; waiting = refl; then = ap (λ (js : List Id). with_created acts js) (filter_twice (λ id. lives id p) (set p)); due = rw quits refl };
      aborts = ap is_abort (sym quits);
    })

-- what was collected, where this isn't a window that is due, says whether the run goes on
pub works_unhanded : (s : Start) (p p' : List Entry) (found : Collected) → found ≢ collected.Hand → Collects s p found p' → Works s (without_hand found) p'
works_unhanded s p p' collected.Stop other c = c.1
works_unhanded s p p' collected.Hand other c = absurd (other refl)
works_unhanded s p p' collected.Idle other c = c.1
works_unhanded s p p' collected.Kept other c = c.1
works_unhanded s p p' collected.Dropped other c = c.1

-- where acts are owed no window is to be handed
none_after : (ends : Bool) → NoneIsToGo (after_acts ends)
none_after true = tt
none_after false = tt

none_of_plans : (p : List Entry) (k : Plan) → NoneIsToGo (settle p (plans k Open))
none_of_plans p Done = none_after (is_quitting p)
none_of_plans p (k) = tt

pub plan_to_go : (s : Start) (p : List Entry) (acts : List Act) → OwesPlan s p acts → NoneIsToGo (agenda s p)
plan_to_go s p acts owes = rw owes (none_of_plans p (act_plan (λ id. lives id p) (revision s p) acts))

pub none_to_go : (s : Start) (p : List Entry) (todo : List Todo) (quit : Option QuitManner) (ids : List Id) → OwesActs s p todo quit ids → NoneIsToGo (agenda s p)
none_to_go s p todo quit ids owes = plan_to_go s p (owes.acts ++ quit_asks quit ids) owes.due

-- what is worked by a batch
pub works_by : (s : Start) (p : List Entry) (quits : Bool) → agenda s p ≡ after_acts quits → Works s (cond quits End On) p
works_by s p true e = e
works_by s p false e = e

-- entries that are neither turns nor calls on the hooks leave whether the end was asked for at once
record AbortsSo (p p' : List Entry) : Type 0 where
  more : turn_count p ≤ turn_count p'
  same : turn_count p' ≡ turn_count p → is_aborting p' ≡ is_aborting p

aborts_over : (p : List Entry) (e : Entry) (p' : List Entry) → is_hooks e ≡ false → AbortsSo p p' → AbortsSo p (e ∷ p')
aborts_over p (Turned t) p' other h =
    let few = h.more in
    let one : turn_count (Turned t ∷ p') ≡ turn_count p' + 1 = refl in
    record { more = omega arith; same = λ is. absurd (omega arith) }
aborts_over p (TurnFault code) p' other h =
    let few = h.more in
    let one : turn_count (TurnFault code ∷ p') ≡ turn_count p' + 1 = refl in
    record { more = omega arith; same = λ is. absurd (omega arith) }
aborts_over p (Hand n names acts) p' other h = absurd cc
aborts_over p (_) p' other h = record { more = h.more; same = h.same }

aborts_so : (p p' : List Entry) → Quiet p p' → AbortsSo p p'
aborts_so p _ Same = record { more = omega arith; same = λ is. refl }
aborts_so p _ (More e p' quiet other) = aborts_over p e p' other (aborts_so p p' quiet)

pub aborting_kept : (s : Start) (p p' : List Entry) → AddsAlone s p p' → is_aborting p' ≡ is_aborting p
aborting_kept s p p' adds = (aborts_so p p' (adds.quiet p Same)).same (adds.turns p (same_turns p)).count

-- where nothing is left of what acts ask for, the run ends where the end was asked for
pub works_acts : (s : Start) (p : List Entry) (aborts done : Bool) → is_aborting p ≡ aborts → done ≡ is_through p → OwesPlan s p [] → Works s (cond (aborts || done) End On) p
works_acts s p aborts done a t owes = works_by s p (aborts || done) (owes ∙ ap (λ (b : Bool). after_acts (b || is_through p)) a ∙ ap (λ (b : Bool). after_acts (aborts || b)) (sym t))

-- a turn that was served ends the run where the end was asked for gracefully and no job lives
pub works_served : (s : Start) (w : Worker) (p : List Entry) → Stands s w p → IsServed s p → Works s (cond (w.graceful && not (list_any is_here w.jobs)) End On) p
works_served s w p stands served = works_by s p (w.graceful && not (list_any is_here w.jobs)) (served ∙ ap after_acts (sym (through s w p stands)))

-- a batch is no turn
pub turns_hand : (n : ℕ) (names : List ℕ) (acts : List Act) (p p' : List Entry) → p' ≡ Hand n names acts ∷ p → StaysInTurn p p'
turns_hand n names acts p p' grown = rw grown (turns_over (Hand n names acts) p refl)
