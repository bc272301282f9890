-- A Work turn.
use Rattle.std.proofs.Common.{◌≡◌, ◌<◌, ◌≤◌, ℕ, ◌+◌, Bool, true, false, cond, List, [], ◌∷◌, ◌++◌, length, inl, inr, refl, arith, ap, sym, ◌∙◌}
use Rattle.std.proofs.lemmas.Bool.{eqb-true}
use Rattle.std.specs.Prelude.{Option, Some, Result, Ok, Err, OnOk, OnErr, IfOk, is_some, ◌==◌, ◌||◌}
use Rattle.wx_events.specs.declared.event.Event.{Event}
use Rattle.wx_events.specs.declared.priority.Priority.{Priority}
use Rattle.wx_events.specs.Priority.{is_urgent}
use Rattle.wx_error.specs.declared.runtime.RuntimeError.{RuntimeError}
use Rattle.wx_error.specs.declared.runtime.RuntimeError.TheVariants.{Exit}
use Rattle.wx_journal.specs.declared.wish.Wish.{Wish}
use Rattle.prio_channel.specs.Channel.{Channel, AllAtMost}
use Rattle.prio_channel.specs.SameBag.{Takes}
use Rattle.prio_channel.proofs.BagLaws.{same-length}
use Rattle.wx_journal.specs.declared.entry.Entry.{Entry}
use Rattle.wx_journal.specs.declared.entry.Entry.TheVariants.{Word as Said, Take, Filter, Show}
use Rattle.wx_journal.specs.declared.entry.Named.{Named}
use Rattle.wx_journal.specs.Names.{event_count, moment}
use Rattle.wx_journal.specs.Told.{is_turn, tell}
use Rattle.wx_worker.specs.declared.worker_state.Worker.{Worker}
use Rattle.wx_worker.specs.declared.collecting.Found.{Found}
use Rattle.wx_worker.specs.declared.collecting.Collected.{Collected}
use Rattle.wx_worker.specs.declared.collecting.Collected.TheVariants.{Hand, Kept}
use Rattle.wx_worker.specs.declared.collecting.Collected.TheVariants as collected
use Rattle.wx_worker.specs.declared.collecting.Found.TheVariants as outcome
use Rattle.wx_journal.specs.declared.entry.Word.TheVariants.{Idle, Quitting}
use Rattle.wx_hooks.specs.Batch.{Waiting}
use Rattle.wx_machine.specs.Start.{Start}
use Rattle.wx_machine.specs.Settings.{settings}
use Rattle.wx_machine.specs.Journal.{listed, is_urgent_in, is_urgent_named, is_unseen, is_unseen_in, passes_unseen, lets_pass, is_exit, closed, one_if, and_one, begun, without, bag, window, first, is_over, is_over_of}
use Rattle.wx_machine.specs.Quits.{graceful}
use Rattle.wx_machine.specs.Due.{Takes as TakesNext, Filters, Shows as ShowsNext, Hands, Agenda, Open, Comes, rest, says, work, work_going, after_pass, after_take, after_drop, after_filter, is_quitting, settle, agenda, Due}
use Rattle.wx_hooks.specs.Handled.{lookup}
use Rattle.wx_machine.specs.Kept.{More, Keeps, Called}
use Rattle.wx_machine.specs.Seen.{Hooked}
use Rattle.wx_worker.specs.Serves.{GrowsHand}
use Rattle.wx_worker.proofs.ServesLaws.{adds_hand}
use Rattle.wx_machine.specs.Leads.{FollowsHooks, Then}
use Rattle.wx_worker.specs.Stands.{Stands, OwesAt, OwesHand, AddsTake, HasTaken, HasPassed, IsDropped, LeavesRoom, Collects, Finds, Judges, IsJudged}
use Rattle.wx_machine.proofs.BagLaws.{IsTaken, is_taken}
use Rattle.wx_machine.proofs.RunLaws.{listed_below, window_some, joined_if, some-append, below_taken}
use Rattle.wx_machine.proofs.AllJobs.{turns_over}
use Rattle.wx_worker.proofs.ArriveLemmas.{StepsOver, steps_add, says_due, said_done, said_then}
use Rattle.wx_worker.proofs.Serving.{hooks_none, hand_adds, hand_room}
use Rattle.wx_machine.proofs.SettleLaws.{settle_calm}
use Rattle.wx_worker.proofs.StandsLemmas.{events-append, tasks_silent}

-- a queue that is empty, where the bag isn't
pub not_empty : (s : Start) (w : Worker) (p : List Entry) → Stands s w p → w.queue.items ≡ [] → (length (bag p) == 0) ≡ false → ⊥
not_empty s w p stands none some =
    let n : length w.queue.items ≡ length (bag p) = same-length w.queue.items (bag p) stands.queue_kept in
    let z : length (bag p) ≡ 0 = sym n ∙ ap (λ (xs : List (Named × Priority)). length xs) none in
    (let t : (length (bag p) == 0) ≡ true = ap (λ (m : ℕ). m == 0) z in cc)

-- ---- an event was taken

-- where it passed unseen
pub record TakeDone (s : Start) (w : Worker) (p p' : List Entry) (found : Collected) : Type 0 where
  pub steps : StepsOver s w p p'
  pub collects : Collects s p found p'

-- a window that an event joined isn't empty
owes_joined : (s : Start) (p p' : List Entry) (name : ℕ) → window p' ≡ window p ++ name ∷ [] → agenda s p' ≡ Comes Hands Open → OwesHand s p'
owes_joined s p p' name joined due = record { due = due; some = rw joined (some-append (window p) name) }

collects_take : (s : Start) (p p' : List Entry) (due : Bool) → HasPassed p p' → agenda s p' ≡ cond due (Comes Hands Open) Open → Collects s p (cond due Hand Kept) p'
collects_take s p p' true passed e = owes_joined s p p' passed.name passed.joined e
collects_take s p p' false passed e = (passed, e)

has_taken : (p p' : List Entry) (x : Named × Priority) (rest : List (Named × Priority)) (unseen : Bool) → passes_unseen x.0.name p ≡ unseen → IsTaken p x rest → AddsTake unseen x.0.name p p' → bag p' ≡ without x.0.name (bag p) → HasTaken x.0.name p p'
has_taken p p' x rest unseen is t shows left = record { taken = rw is shows; was = ap is_some t.is_named; left = rw left t.is_gone }

after_take_is : (s : Start) (p : List Entry) (name : ℕ) → is_quitting p ≡ false → agenda s p ≡ Comes TakesNext Open → agenda s (Take name ∷ p) ≡ after_take s name p Open
after_take_is s p name going due = ap (λ (k : Agenda). settle (Take name ∷ p) (after_take s name p (rest (Take name) k))) due ∙ settle_calm (Take name ∷ p) _ going

pub take_done : (s : Start) (w : Worker) (p p' : List Entry) (at start : ℕ) (x : Named × Priority) (queue : Channel Named) (batch : Waiting) (found : Collected) → OwesAt s w at p (Comes TakesNext Open)
    → Takes w.queue.items x queue.items → AllAtMost x.1 w.queue.items → queue.size ≡ w.queue.size → queue.closed ≡ w.queue.closed → is_unseen x.0.event x.1 ≡ true → start ≡ cond (length w.batch.names == 0) at w.first
    → batch.names ≡ w.batch.names ++ x.0.name ∷ [] → batch.events ≡ w.batch.events ++ x.0.event ∷ [] → found ≡ cond (is_urgent x.1 || is_over_of w.config.throttle batch.names start at) Hand Kept → p' ≡ Take x.0.name ∷ p
    → TakeDone s (record w { queue = queue; batch = batch; first = start }) p p' found
take_done s w p p' at start x queue batch found owes takes most size same_closed seen began names events is_found grown =
    let stands = owes.stands in
    let due = owes.due in
    let now = owes.now in
    let t = is_taken p w.queue.items queue.items x stands.own stands.queue_kept takes most in
    let d : Due s p (Take x.0.name) = rw due ((x.0.name, t.is_greatest), refl) in
    let unseen : passes_unseen x.0.name p ≡ true = ap is_unseen_in t.is_listed ∙ seen in
    let window_is : window (Take x.0.name ∷ p) ≡ window p ++ x.0.name ∷ [] = joined_if p x.0.name (passes_unseen x.0.name p) unseen in
    let first_is : first (Take x.0.name ∷ p) ≡ start = rw (unseen, began, stands.names_kept, stands.first_kept, now) refl in
    let names_are : batch.names ≡ window (Take x.0.name ∷ p) = names ∙ ap (λ (ns : List ℕ). ns ++ x.0.name ∷ []) stands.names_kept ∙ sym window_is in
    let over : is_over s (Take x.0.name ∷ p) (moment p) ≡ is_over_of w.config.throttle batch.names start at = rw (first_is, names_are, stands.config_kept, now) refl in
    let after : agenda s (Take x.0.name ∷ p) ≡ cond (is_urgent x.1 || is_over_of w.config.throttle batch.names start at) (Comes Hands Open) Open = after_take_is s p x.0.name owes.going due ∙ ap (λ (b : Bool). cond b (after_pass s x.0.name (Take x.0.name ∷ p) Open) (Comes (Filters x.0.name) Open)) unseen ∙ rw (← over, ← t.urgency) refl in
    record {
      steps = rw grown (record {
        stands = record {
          own = (below_taken p x.0.name t.is_greatest stands.own, stands.own);
          config_kept = stands.config_kept;
          queue_kept = t.is_rest;
          size_kept = size ∙ stands.size_kept;
          closed_kept = same_closed ∙ stands.closed_kept;
          named_kept = stands.named_kept;
          names_kept = names_are;
          events_kept = rw (events, window_is) (events-append (lookup p) (window p) w.batch.events x.0.name x.0.event x.1 stands.events_kept t.is_listed);
          first_kept = sym first_is;
          jobs_kept = stands.jobs_kept;
          tasks_kept = tasks_silent (Take x.0.name) p w.jobs refl stands.tasks_kept;
          idle_kept = stands.idle_kept;
          graceful_kept = stands.graceful_kept;
          ended_kept = stands.ended_kept;
        };
        follows = λ world hooks p₀ world₀ hooks₀ l. Then (Take x.0.name) p world hooks l d;
        quiet = λ p₀ a. More _ p a refl;
        turns = turns_over _ _ refl;
      });
      collects = rw is_found (collects_take s p p' _ (record { name = x.0.name; taken = has_taken p p' x queue.items true unseen t grown (ap (λ q. bag q) grown); joined = ap (λ q. window q) grown ∙ window_is }) (ap (agenda s) grown ∙ after));
    }

-- where it is to be shown to the filter
pub record TakenToShow (s : Start) (w : Worker) (p p' : List Entry) (at : ℕ) (x : Named × Priority) : Type 0 where
  pub steps : StepsOver s w p p'
  pub due : agenda s p' ≡ Comes (Filters x.0.name) Open
  pub is_listed : listed x.0.name p' ≡ Some (x.0.event, x.1)
  pub now : moment p' ≡ at
  pub going : is_quitting p' ≡ false
  pub same_window : window p' ≡ window p
  pub collects : (found : Found) (p'' : List Entry) → IsJudged s p' x.0.name found p'' → Finds s p found p''

collects_judged : (s : Start) (p q p'' : List Entry) (x : Named × Priority) (rest : List (Named × Priority)) (found : Found) → passes_unseen x.0.name p ≡ false → IsTaken p x rest → q ≡ Take x.0.name ∷ p → window q ≡ window p → IsJudged s q x.0.name found p'' → Finds s p found p''
collects_judged s p q p'' x rest found is t grown same j = go found j.judged
  where
    whole : p'' ≡ Filter j.n x.0.name j.answer ∷ Take x.0.name ∷ p
    whole = j.shown ∙ ap (λ r. Filter j.n x.0.name j.answer ∷ r) grown

    taken : HasTaken x.0.name p p''
    taken = has_taken p p'' x rest false is t (j.n, j.answer, inl whole) (ap (λ r. bag r) whole)

    go : (found : Found) → Judges s q x.0.name found p'' → Finds s p found p''
    go (outcome.Done collected.Hand) h = h
    go (outcome.Done collected.Kept) h = (record { name = x.0.name; taken = taken; joined = h.0 ∙ ap (λ ns. ns ++ x.0.name ∷ []) same }, h.1)
    go (outcome.Done collected.Dropped) h = (record { name = x.0.name; taken = taken; stays = h.0 ∙ same }, h.1)
    go (outcome.Failed error) h = (record { name = x.0.name; n = j.n; answer = j.answer; seen = is; shown = whole; was = taken.was; left = taken.left; stays = h.0 ∙ same }, h.1)
    go (outcome.Done collected.Stop) h = absurd h
    go (outcome.Done collected.Idle) h = absurd h

pub to_show : (s : Start) (w : Worker) (p p' : List Entry) (at : ℕ) (x : Named × Priority) (queue : Channel Named) → OwesAt s w at p (Comes TakesNext Open)
    → Takes w.queue.items x queue.items → AllAtMost x.1 w.queue.items → queue.size ≡ w.queue.size → queue.closed ≡ w.queue.closed → is_unseen x.0.event x.1 ≡ false → p' ≡ Take x.0.name ∷ p
    → TakenToShow s (record w { queue = queue }) p p' at x
to_show s w p p' at x queue owes takes most size same_closed seen grown =
    let stands = owes.stands in
    let due = owes.due in
    let now = owes.now in
    let t = is_taken p w.queue.items queue.items x stands.own stands.queue_kept takes most in
    let d : Due s p (Take x.0.name) = rw due ((x.0.name, t.is_greatest), refl) in
    let unseen : passes_unseen x.0.name p ≡ false = ap is_unseen_in t.is_listed ∙ seen in
    let same : window (Take x.0.name ∷ p) ≡ window p = ap (λ (b : Bool). and_one (window p) (one_if b x.0.name)) unseen in
    let first_is : first (Take x.0.name ∷ p) ≡ first p = ap (λ (b : Bool). begun (one_if b x.0.name) (window p) (moment p) (first p)) unseen in
    let after : agenda s (Take x.0.name ∷ p) ≡ Comes (Filters x.0.name) Open = after_take_is s p x.0.name owes.going due ∙ rw unseen refl in
    record {
      steps = rw grown (record {
        stands = record {
          own = (below_taken p x.0.name t.is_greatest stands.own, stands.own);
          config_kept = stands.config_kept;
          queue_kept = t.is_rest;
          size_kept = size ∙ stands.size_kept;
          closed_kept = same_closed ∙ stands.closed_kept;
          named_kept = stands.named_kept;
          names_kept = stands.names_kept ∙ sym same;
          events_kept = rw same stands.events_kept;
          first_kept = stands.first_kept ∙ sym first_is;
          jobs_kept = stands.jobs_kept;
          tasks_kept = tasks_silent (Take x.0.name) p w.jobs refl stands.tasks_kept;
          idle_kept = stands.idle_kept;
          graceful_kept = stands.graceful_kept;
          ended_kept = stands.ended_kept;
        };
        follows = λ world hooks p₀ world₀ hooks₀ l. Then (Take x.0.name) p world hooks l d;
        quiet = λ p₀ a. More _ p a refl;
        turns = turns_over _ _ refl;
      });
      due = ap (agenda s) grown ∙ after;
      is_listed = rw grown t.is_listed;
      now = rw grown now;
      going = rw grown owes.going;
      same_window = ap (λ q. window q) grown ∙ same;
      collects = λ found p'' j. collects_judged s p p' p'' x queue.items found unseen t grown (ap (λ q. window q) grown ∙ same) j;
    }

-- ---- an event was shown to the filter

-- the entry of an event that was to be shown
pub filter_due : (s : Start) (p : List Entry) (n name : ℕ) (answer : Result Bool RuntimeError) → agenda s p ≡ Comes (Filters name) Open → n ≡ (settings s p).filterer → Due s p (Filter n name answer)
filter_due s p n name answer due number = rw (due, number) (answer, refl)

-- a call on hooks was told, and kept what it promises
pub called_grows : {K Fixed : Type 0} (seen : K → Hooked Fixed) (rule : Fixed → List Entry → Entry → Type 0) (holds : K → List Entry → Type 0) (s : Start) (p p' : List Entry) (x x' : K) (w' : Worker) (e : Entry) → is_turn e ≡ false → FollowsHooks s p (seen x).told p' (seen x').told → p' ≡ e ∷ p
    → Keeps seen rule holds x p e x' → Stands s w' p' → GrowsHand seen rule holds s p x w' p' x'
called_grows seen rule holds s p p' x x' w' e other follows grown keeps stands = record {
  stands = stands;
  adds = adds_hand s p p' (seen x).told (seen x').told follows (rw grown (turns_over e p other));
  keeps = λ x₀ p₀ k. rw grown (Called x x' e p k keeps);
}

pub filter_follows : (s : Start) (p p' : List Entry) (n name : ℕ) (answer : Result Bool RuntimeError) (hooks hooks' : Option (List Entry)) → Due s p (Filter n name answer) → p' ≡ Filter n name answer ∷ p → hooks' ≡ tell (Filter n name answer) hooks → FollowsHooks s p hooks p' hooks'
filter_follows s p p' n name answer hooks hooks' due grown told = rw (grown, told) (λ world p₀ world₀ hooks₀ l. Then (Filter n name answer) p world hooks l due)

pub show_follows : (s : Start) (p p' : List Entry) (n : ℕ) (error : RuntimeError) (wish : Wish) (hooks hooks' : Option (List Entry)) → Due s p (Show n error wish) → p' ≡ Show n error wish ∷ p → hooks' ≡ tell (Show n error wish) hooks → FollowsHooks s p hooks p' hooks'
show_follows s p p' n error wish hooks hooks' due grown told = rw (grown, told) (λ world p₀ world₀ hooks₀ l. Then (Show n error wish) p world hooks l due)

-- what was due, what the worker is, and what became of the event
pub record FilterDone (s : Start) (w : Worker) (p : List Entry) (n name : ℕ) (answer : Result Bool RuntimeError) (found : Found) (p' : List Entry) : Type 0 where
  pub due : Due s p (Filter n name answer)
  pub stands : Stands s w p'
  pub judged : IsJudged s p name found p'

after_filter_is : (s : Start) (p : List Entry) (n name : ℕ) (answer : Result Bool RuntimeError) → is_quitting p ≡ false → agenda s p ≡ Comes (Filters name) Open → agenda s (Filter n name answer ∷ p) ≡ after_filter s name answer (Filter n name answer ∷ p) Open
after_filter_is s p n name answer going due = ap (λ (k : Agenda). settle (Filter n name answer ∷ p) (after_filter s name answer (Filter n name answer ∷ p) (rest (Filter n name answer) k))) due ∙ settle_calm (Filter n name answer ∷ p) _ going

judges_passed : (s : Start) (p p' : List Entry) (name : ℕ) (due : Bool) → window p' ≡ window p ++ name ∷ [] → agenda s p' ≡ cond due (Comes Hands Open) Open → Judges s p name (outcome.Done (cond due Hand Kept)) p'
judges_passed s p p' name true joined e = owes_joined s p p' name joined e
judges_passed s p p' name false joined e = (joined, e)

-- it passed
pub filter_passed : (s : Start) (w w' : Worker) (p p' : List Entry) (at n name : ℕ) (event : Event) (priority : Priority) (answer : Result Bool RuntimeError) (found : Collected) → OwesAt s w at p (Comes (Filters name) Open)
    → listed name p ≡ Some (event, priority) → n ≡ w.config.filterer → lets_pass answer ≡ true → is_exit answer ≡ false → w' ≡ record w { batch = w'.batch; first = w'.first } → w'.first ≡ cond (length w.batch.names == 0) at w.first
    → w'.batch.names ≡ w.batch.names ++ name ∷ [] → w'.batch.events ≡ w.batch.events ++ event ∷ [] → found ≡ cond (is_urgent priority || is_over_of w.config.throttle w'.batch.names w'.first at) Hand Kept → p' ≡ Filter n name answer ∷ p
    → FilterDone s w' p n name answer (outcome.Done found) p'
filter_passed s w w' p p' at n name event priority answer found owes is_listed number passes stays fields began names events is_found grown =
    let stands = owes.stands in
    let due = owes.due in
    let d : Due s p (Filter n name answer) = filter_due s p n name answer due (number ∙ ap (λ c. c.filterer) stands.config_kept) in
    let window_is : window (Filter n name answer ∷ p) ≡ window p ++ name ∷ [] = joined_if p name (lets_pass answer) passes in
    let first_is : first (Filter n name answer ∷ p) ≡ w'.first = rw (passes, began, stands.names_kept, stands.first_kept, owes.now) refl in
    let names_are : w'.batch.names ≡ window (Filter n name answer ∷ p) = names ∙ ap (λ (ns : List ℕ). ns ++ name ∷ []) stands.names_kept ∙ sym window_is in
    let over : is_over s (Filter n name answer ∷ p) (moment p) ≡ is_over_of w.config.throttle w'.batch.names w'.first at = rw (first_is, names_are, stands.config_kept, owes.now) refl in
    let urgency : is_urgent_named name p ≡ is_urgent priority = ap is_urgent_in is_listed in
    let after : agenda s (Filter n name answer ∷ p) ≡ cond (is_urgent priority || is_over_of w.config.throttle w'.batch.names w'.first at) (Comes Hands Open) Open = after_filter_is s p n name answer owes.going due ∙ ap (λ (b : Bool). cond b (after_pass s name (Filter n name answer ∷ p) Open) (after_drop answer Open)) passes ∙ rw (← over, ← urgency) refl in
    let stood : Stands s (record w { batch = w'.batch; first = w'.first }) (Filter n name answer ∷ p) = record {
      own = (listed_below name p (event, priority) stands.own is_listed, stands.own);
      config_kept = stands.config_kept;
      queue_kept = stands.queue_kept;
      size_kept = stands.size_kept;
      closed_kept = rw stays stands.closed_kept;
      named_kept = stands.named_kept;
      names_kept = names_are;
      events_kept = rw (events, window_is) (events-append (lookup p) (window p) w.batch.events name event priority stands.events_kept is_listed);
      first_kept = sym first_is;
      jobs_kept = stands.jobs_kept;
      tasks_kept = tasks_silent (Filter n name answer) p w.jobs refl stands.tasks_kept;
      idle_kept = stands.idle_kept;
      graceful_kept = stands.graceful_kept;
      ended_kept = stands.ended_kept;
    } in
    record {
      due = d;
      stands = rw grown (rw fields stood);
      judged = record { n = n; answer = answer; shown = grown; judged = rw is_found (judges_passed s p p' name _ (ap (λ q. window q) grown ∙ window_is) (ap (agenda s) grown ∙ after)) };
    }

judges_dropped : (s : Start) (p p' : List Entry) (name : ℕ) (answer : Result Bool RuntimeError) (found : Found) → IsDropped answer found → window p' ≡ window p → agenda s p' ≡ after_drop answer Open → Judges s p name found p'
judges_dropped s p p' name (Ok passes) found is same e = rw is (same, e)
judges_dropped s p p' name (Err Exit) found is same e = rw is (same, e)
judges_dropped s p p' name (Err error) (outcome.Failed (Ok copy)) is same e = (same, e ∙ ap (λ (x : RuntimeError). Comes (ShowsNext x) Open) (sym is))
judges_dropped s p p' name (Err error) (outcome.Failed (Err want)) is same e = (same, (error, e))
judges_dropped s p p' name (Err error) (_) is same e = absurd is

-- it didn't pass
pub filter_dropped : (s : Start) (w w' : Worker) (p p' : List Entry) (at n name : ℕ) (answer : Result Bool RuntimeError) (found : Found) → OwesAt s w at p (Comes (Filters name) Open) → name < event_count p → n ≡ w.config.filterer → lets_pass answer ≡ false → IsDropped answer found
    → w' ≡ record w { queue = w'.queue } → w'.queue.items ≡ w.queue.items → w'.queue.size ≡ w.queue.size → w'.queue.closed ≡ (is_exit answer || w.queue.closed) → p' ≡ Filter n name answer ∷ p
    → FilterDone s w' p n name answer found p'
filter_dropped s w w' p p' at n name answer found owes below number passes is_dropped fields items size shut grown =
    let stands = owes.stands in
    let due = owes.due in
    let d : Due s p (Filter n name answer) = filter_due s p n name answer due (number ∙ ap (λ c. c.filterer) stands.config_kept) in
    let same : window (Filter n name answer ∷ p) ≡ window p = ap (λ (b : Bool). and_one (window p) (one_if b name)) passes in
    let first_is : first (Filter n name answer ∷ p) ≡ first p = ap (λ (b : Bool). begun (one_if b name) (window p) (moment p) (first p)) passes in
    let after : agenda s (Filter n name answer ∷ p) ≡ after_drop answer Open = after_filter_is s p n name answer owes.going due ∙ ap (λ (b : Bool). cond b (after_pass s name (Filter n name answer ∷ p) Open) (after_drop answer Open)) passes in
    let stood : Stands s (record w { queue = w'.queue }) (Filter n name answer ∷ p) = record {
      own = (below, stands.own);
      config_kept = stands.config_kept;
      queue_kept = rw items stands.queue_kept;
      size_kept = size ∙ stands.size_kept;
      closed_kept = shut ∙ ap (λ (b : Bool). is_exit answer || b) stands.closed_kept;
      named_kept = stands.named_kept;
      names_kept = stands.names_kept ∙ sym same;
      events_kept = rw same stands.events_kept;
      first_kept = stands.first_kept ∙ sym first_is;
      jobs_kept = stands.jobs_kept;
      tasks_kept = tasks_silent (Filter n name answer) p w.jobs refl stands.tasks_kept;
      idle_kept = stands.idle_kept;
      graceful_kept = stands.graceful_kept;
      ended_kept = stands.ended_kept;
    } in
    record {
      due = d;
      stands = rw grown (rw fields stood);
      judged = record { n = n; answer = answer; shown = grown; judged = judges_dropped s p p' name answer found is_dropped (ap (λ q. window q) grown ∙ same) (ap (agenda s) grown ∙ after) };
    }

-- one that passes doesn't ask for the end
pub no_exit : (answer : Result Bool RuntimeError) → lets_pass answer ≡ true → is_exit answer ≡ false
no_exit (Ok passes) is = refl
no_exit (Err error) is = absurd cc

-- ---- nothing was taken

empty_is : (xs : List (Named × Priority)) → (length xs == 0) ≡ true → xs ≡ []
empty_is [] e = refl
empty_is (x ∷ xs) e = let none : length (x ∷ xs) ≡ 0 = eqb-true _ _ e in absurd (omega arith)

-- there was nothing to take
pub idle_done : (s : Start) (w : Worker) (p p' : List Entry) (at : ℕ) → OwesAt s w at p (work_going s p at) → graceful p ≡ false → w.queue.closed ≡ false → is_over_of w.config.throttle w.batch.names w.first at ≡ false → (length w.queue.items == 0) ≡ true → p' ≡ Said Idle ∷ p
    → TakeDone s w p p' collected.Idle
idle_done s w p p' at owes going is_open over empty grown =
    let stands = owes.stands in
    let later : is_over s p at ≡ false = rw (← stands.config_kept, ← stands.names_kept, ← stands.first_kept) over in
    let takes : closed p ≡ false = sym stands.closed_kept ∙ is_open in
    let none : (length (bag p) == 0) ≡ true = rw (← same-length w.queue.items (bag p) stands.queue_kept) empty in
    let owed : agenda s p ≡ says Idle = owes.due ∙ rw (takes, later, none) refl in
    record { steps = said_done s w p p' Idle stands (says_due s p Idle Open owed) refl grown; collects = (inl (record { going = going; early = rw owes.now later; none = empty_is (bag p) none; said = grown }), said_then s p p' Idle grown Open owed ∙ settle_calm p Open owes.going) }

-- the queue was closed
pub stop_done : (s : Start) (w : Worker) (p : List Entry) (at : ℕ) → Stands s w p → agenda s p ≡ work_going s p at → graceful p ≡ false → w.queue.closed ≡ true → Collects s p collected.Stop p
stop_done s w p at stands due going shut = let is : closed p ≡ true = sym stands.closed_kept ∙ shut in (record { going = going; is_closed = is; same = refl }, due ∙ rw is refl)

-- the window is due
pub over_done : (s : Start) (w : Worker) (p : List Entry) (at : ℕ) → Stands s w p → agenda s p ≡ work_going s p at → w.queue.closed ≡ false → is_over_of w.config.throttle w.batch.names w.first at ≡ true → OwesHand s p
over_done s w p at stands due is_open over =
    let takes : closed p ≡ false = sym stands.closed_kept ∙ is_open in
    let later : is_over s p at ≡ true = rw (← stands.config_kept, ← stands.names_kept, ← stands.first_kept) over in
    record { due = due ∙ rw (takes, later) refl; some = window_some (window p) _ later }

-- an event is to be taken
pub takes_due : (s : Start) (w : Worker) (p : List Entry) (at : ℕ) → Stands s w p → agenda s p ≡ work_going s p at → w.queue.closed ≡ false → is_over_of w.config.throttle w.batch.names w.first at ≡ false → (length w.queue.items == 0) ≡ false → (agenda s p ≡ Comes TakesNext Open) × ((length (bag p) == 0) ≡ false)
takes_due s w p at stands due is_open over some =
    let takes : closed p ≡ false = sym stands.closed_kept ∙ is_open in
    let later : is_over s p at ≡ false = rw (← stands.config_kept, ← stands.names_kept, ← stands.first_kept) over in
    let more : (length (bag p) == 0) ≡ false = rw (← same-length w.queue.items (bag p) stands.queue_kept) some in
    (due ∙ rw (takes, later, more) refl, more)

-- ---- a graceful quit was asked for

quitting_done : (s : Start) (w : Worker) (p p' : List Entry) (at : ℕ) → OwesAt s w at p (work s p at) → w.graceful ≡ true → p' ≡ Said Quitting ∷ p → TakeDone s w p p' collected.Idle
quitting_done s w p p' at owes asked grown =
    let quits : graceful p ≡ true = sym owes.stands.graceful_kept ∙ asked in
    let owed : agenda s p ≡ says Quitting = owes.due ∙ rw quits refl in
    record { steps = said_done s w p p' Quitting owes.stands (says_due s p Quitting Open owed) refl grown; collects = (inr (record { asked = quits; said = grown }), said_then s p p' Quitting grown Open owed ∙ settle_calm p Open owes.going) }

-- so the turn says it, or there was no memory for that
pub quitting_grows : {K Fixed E : Type 0} (seen : K → Hooked Fixed) (rule : Fixed → List Entry → Entry → Type 0) (holds : K → List Entry → Type 0) (s : Start) (w : Worker) (p p' : List Entry) (x : K) (at : ℕ) (result : Result Found E) → OwesAt s w at p (work s p at) → w.graceful ≡ true
    → OnOk result (p' ≡ Said Quitting ∷ p) → OnErr result (p' ≡ p) → GrowsHand seen rule holds s p x w p' x
quitting_grows seen rule holds s w p p' x at (Ok found) owes asked said none = let d = quitting_done s w p p' at owes asked said in hand_adds seen rule holds s p x w p' d.steps.stands (steps_add s w p p' d.steps)
quitting_grows seen rule holds s w p p' x at (Err e) owes asked said none = hand_room seen rule holds s p p' x x w owes.stands none (hooks_none seen holds x)

pub quitting_finds : {E : Type 0} (s : Start) (w : Worker) (p p' : List Entry) (at : ℕ) (result : Result Found E) → OwesAt s w at p (work s p at) → w.graceful ≡ true → IfOk result (λ found. found ≡ outcome.Done collected.Idle) → OnOk result (p' ≡ Said Quitting ∷ p) → IfOk result (λ found. Finds s p found p')
quitting_finds s w p p' at (Ok found) owes asked is said = rw is (quitting_done s w p p' at owes asked said).collects
quitting_finds s w p p' at (Err e) owes asked is said = tt

pub quitting_leaves : {E : Type 0} (result : Result Found E) (ends journal hooks : ℕ) → IfOk result (λ found. found ≡ outcome.Done collected.Idle) → IfOk result (λ found. LeavesRoom found ends journal hooks)
quitting_leaves (Ok found) ends journal hooks is = rw is tt
quitting_leaves (Err e) ends journal hooks is = tt

-- where it wasn't, the turn goes on
pub going_on : (s : Start) (w : Worker) (p : List Entry) (at : ℕ) → OwesAt s w at p (work s p at) → w.graceful ≡ false → (graceful p ≡ false) × OwesAt s w at p (work_going s p at)
going_on s w p at owes asked =
    let going : graceful p ≡ false = sym owes.stands.graceful_kept ∙ asked in
    (going, record { stands = owes.stands; due = owes.due ∙ rw going refl; now = owes.now; going = owes.going })

-- the worker with more room
pub stands_room : (s : Start) (w : Worker) (p : List Entry) (batch : Waiting) → Stands s w p → batch.names ≡ w.batch.names → batch.events ≡ w.batch.events → Stands s (record w { batch = batch }) p
stands_room s w p batch stands names events = record {
  own = stands.own;
  config_kept = stands.config_kept;
  queue_kept = stands.queue_kept;
  size_kept = stands.size_kept;
  closed_kept = stands.closed_kept;
  named_kept = stands.named_kept;
  names_kept = names ∙ stands.names_kept;
  events_kept = rw events stands.events_kept;
  first_kept = stands.first_kept;
  jobs_kept = stands.jobs_kept;
  tasks_kept = stands.tasks_kept;
  idle_kept = stands.idle_kept;
  graceful_kept = stands.graceful_kept;
  ended_kept = stands.ended_kept;
}

-- there is room for an error that is to be shown
pub leaves_room : (found : Found) (ends journal hooks : ℕ) → 1 + ends ≤ journal → 1 ≤ hooks → LeavesRoom found ends journal hooks
leaves_room (outcome.Failed error) ends journal hooks a b = (a, b)
leaves_room (_) ends journal hooks a b = tt
