-- A worker goes on to stand for a journal with one entry more.
use Rattle.std.proofs.Common.{◌≡◌, ℕ, ◌+◌, ◌<◌, ◌≤◌, Bool, true, false, cond, List, [], ◌∷◌, ◌++◌, length, arith, refl, ap, sym, ◌∙◌, ne_eqb}
use Rattle.std.specs.Prelude.{Option, None, Some, ◌==◌, map}
use Rattle.std.specs.List.{AllByRecursion}
use Rattle.wx_events.specs.declared.event.Event.{Event}
use Rattle.wx_events.specs.declared.priority.Priority.{Priority}
use Rattle.prio_channel.specs.Channel.{Channel}
use Rattle.prio_channel.specs.SameBag.{SameBag}
use Rattle.prio_channel.proofs.BagLaws.{same-trans, add-bag, same-length}
use Rattle.wx_control.specs.declared.id.Id.{Id}
use Rattle.wx_journal.specs.declared.entry.Entry.{Entry}
use Rattle.wx_journal.specs.declared.entry.Entry.TheVariants.{Sent, Offer, Turn as Turned, TurnFault, Word as Said, Hand, Changed}
use Rattle.wx_journal.specs.declared.entry.Named.{Named}
use Rattle.wx_journal.specs.declared.entry.Offered.{Offered}
use Rattle.wx_journal.specs.declared.entry.Offered.TheVariants.{Queued, Full, Closed}
use Rattle.wx_journal.specs.Acts.{JournalAct as Act}
use Rattle.wx_journal.specs.Names.{event_count, Names, NamesItem, NamesItsOwn}
use Rattle.wx_machine.specs.History.{command}
use Rattle.wx_machine.specs.Leaves.{SameHistory}
use Rattle.wx_hooks.specs.declared.held.Held.{Held}
use Rattle.wx_worker.specs.declared.worker_state.Worker.{Worker}
use Rattle.wx_machine.specs.Start.{Start}
use Rattle.wx_config.specs.Changes.{changed}
use Rattle.wx_config.specs.declared.change.Change.{Change}
use Rattle.wx_config.specs.declared.change.Change.TheVariants.{Signal, Pathset, FileWatcher, FollowSymlinks, KeyboardEvents, Throttle, Filterer, OnError, OnAction}
use Rattle.wx_config.specs.declared.config.Config.{Config}
use Rattle.wx_journal.specs.declared.entry.TurnKind.{TurnKind}
use Rattle.wx_journal.specs.declared.entry.TurnKind.TheVariants.{Keys}
use Rattle.wx_machine.specs.Keyboard.{keyboard, ended_by, ended_over, has_ended}
use Rattle.wx_machine.specs.Settings.{settings}
use Rattle.wx_machine.specs.Journal.{closed, bag, offered, window}
use Rattle.wx_machine.specs.Jobs.{set, UnseenRunNone}
use Rattle.wx_hooks.specs.Handled.{AreEvents, lookup}
use Rattle.wx_machine.proofs.Frame.{is_silent, frame_silent, frame_apart}
use Rattle.wx_hooks.proofs.JobsLemmas.{same_held}
use Rattle.wx_hooks.proofs.QuietLemmas.{SameRest}
use Rattle.wx_worker.specs.Stands.{Stands, IsOffered}
use Rattle.wx_hooks.specs.JobsStand.{HeldStands, held_id}
use Rattle.wx_machine.proofs.RunLaws.{window_below}

-- ---- what is held of a job

-- an entry that names nothing of a job
pub tasks_silent : (e : Entry) (p : List Entry) (hs : List Held) → is_silent e ≡ true → AllByRecursion (HeldStands p) hs → AllByRecursion (HeldStands (e ∷ p)) hs
tasks_silent e p [] silent s = tt
tasks_silent e p (h ∷ hs) silent s = (same_held p (e ∷ p) h (frame_silent (held_id h) e p silent) s.0, tasks_silent e p hs silent s.1)

-- a batch changes what its acts create
pub over_hand : (n : ℕ) (names : List ℕ) (acts : List Act) (p : List Entry) (i : Id) → command i (Hand n names acts ∷ p) ≡ command i p → SameHistory i p (Hand n names acts ∷ p)
over_hand n names acts p i kept = frame_apart i (Hand n names acts) p tt kept

-- ---- what a worker keeps besides jobs

-- a turn of this kind is no read from the keyboard
abbrev pub IsNoRead : TurnKind → Type 0
IsNoRead (Keys bytes) = ⊥
IsNoRead (_) = Unit {0}

pub ended_stays : (kind : TurnKind) (on ended : Bool) → IsNoRead kind → ended_by kind on ended ≡ ended
ended_stays (Keys bytes) on ended none = absurd none
ended_stays (_) on ended none = refl

-- a word, a turn that is no read, and the fault of one change nothing of it
abbrev pub IsStill : Entry → Type 0
IsStill (Turned t) = IsNoRead t.kind
IsStill (TurnFault code) = Unit {0}
IsStill (Said word) = Unit {0}
IsStill (_) = ⊥

pub rest_over : (e : Entry) (p : List Entry) → IsStill e → SameRest p (e ∷ p)
rest_over (Turned t) p h = record { bag_same = refl; closed_same = refl; count_same = refl; window_same = refl; lookup_same = refl; first_same = refl; set_same = refl; commands_same = λ i. refl; settings_same = λ s. refl; graceful_same = refl; ended_same = λ s. ended_stays t.kind (keyboard s p) (has_ended s p) h }
rest_over (TurnFault code) p h = record { bag_same = refl; closed_same = refl; count_same = refl; window_same = refl; lookup_same = refl; first_same = refl; set_same = refl; commands_same = λ i. refl; settings_same = λ s. refl; graceful_same = refl; ended_same = λ s. refl }
rest_over (Said word) p h = record { bag_same = refl; closed_same = refl; count_same = refl; window_same = refl; lookup_same = refl; first_same = refl; set_same = refl; commands_same = λ i. refl; settings_same = λ s. refl; graceful_same = refl; ended_same = λ s. refl }
rest_over (_) p h = absurd h

-- they name nothing, and no child runs because of one
names_still : (e : Entry) (p : List Entry) → IsStill e → Names p e
names_still (Turned t) p h = tt
names_still (TurnFault code) p h = tt
names_still (Said word) p h = tt
names_still (_) p h = absurd h

pub own_still : (e : Entry) (p : List Entry) → IsStill e → NamesItsOwn p → NamesItsOwn (e ∷ p)
own_still e p still own = (names_still e p still, own)

pub idle_still : (e : Entry) (p : List Entry) → IsStill e → UnseenRunNone p → UnseenRunNone (e ∷ p)
idle_still (Turned t) p h idle = idle
idle_still (TurnFault code) p h idle = idle
idle_still (Said word) p h idle = idle
idle_still (_) p h idle = absurd h

-- the worker with other jobs
pub stands_rest : (s : Start) (w w' : Worker) (p p' : List Entry) → Stands s w p → NamesItsOwn p' → UnseenRunNone p' → SameRest p p' → w' ≡ record w { jobs = w'.jobs } → map held_id w'.jobs ≡ set p' → AllByRecursion (HeldStands p') w'.jobs → Stands s w' p'
stands_rest s w w' p p' stands own idle q fields ids tasks =
    let stood : Stands s (record w { jobs = w'.jobs }) p' = record {
      own = own;
      config_kept = stands.config_kept ∙ sym (q.settings_same s);
      queue_kept = rw q.bag_same stands.queue_kept;
      size_kept = stands.size_kept ∙ sym (ap (λ (c : Config). c.event_channel_size) (q.settings_same s));
      closed_kept = stands.closed_kept ∙ sym q.closed_same;
      named_kept = stands.named_kept ∙ sym q.count_same;
      names_kept = stands.names_kept ∙ sym q.window_same;
      events_kept = rw (q.lookup_same, q.window_same) stands.events_kept;
      first_kept = stands.first_kept ∙ sym q.first_same;
      jobs_kept = ids;
      tasks_kept = tasks;
      idle_kept = idle;
      graceful_kept = stands.graceful_kept ∙ sym q.graceful_same;
      ended_kept = stands.ended_kept ∙ sym (q.ended_same s);
    } in
    rw fields stood

-- the worker behind a word or the fault of a turn
pub stands_behind : (s : Start) (w : Worker) (e : Entry) (p : List Entry) → is_silent e ≡ true → IsStill e → Stands s w p → Stands s w (e ∷ p)
stands_behind s w e p silent still stands =
    let q = rest_over e p still in
    stands_rest s w w p (e ∷ p) stands (own_still e p still stands.own) (idle_still e p still stands.idle_kept) q refl (stands.jobs_kept ∙ sym q.set_same) (tasks_silent e p w.jobs silent stands.tasks_kept)

-- ---- a setting is changed

-- no change sets the size of the queue
pub same_size : (change : Change) (c : Config) → (changed change c).event_channel_size ≡ c.event_channel_size
same_size Signal c = refl
same_size (Pathset paths) c = refl
same_size (FileWatcher watcher) c = refl
same_size (FollowSymlinks on) c = refl
same_size (KeyboardEvents on) c = refl
same_size (Throttle throttle) c = refl
same_size (Filterer n) c = refl
same_size (OnError n) c = refl
same_size (OnAction n) c = refl

-- the worker with the settings that stand behind the change
pub stands_changed : (s : Start) (w w' : Worker) (change : Change) (named : ℕ) (p : List Entry) → Stands s w p → w' ≡ record w { config = w'.config; ended = w'.ended } → w'.ended ≡ ended_over w.config.keyboard_events w'.config.keyboard_events w.ended → w'.config ≡ settings s (Changed named ∷ p) → settings s (Changed named ∷ p) ≡ changed change (settings s p) → Stands s w' (Changed named ∷ p)
stands_changed s w w' change named p stands fields ended config after =
    let stood : Stands s (record w { config = w'.config; ended = w'.ended }) (Changed named ∷ p) = record {
      own = (tt, stands.own);
      config_kept = config;
      queue_kept = stands.queue_kept;
      size_kept = stands.size_kept ∙ sym (same_size change (settings s p)) ∙ sym (ap (λ (c : Config). c.event_channel_size) after);
      closed_kept = stands.closed_kept;
      named_kept = stands.named_kept;
      names_kept = stands.names_kept;
      events_kept = stands.events_kept;
      first_kept = stands.first_kept;
      jobs_kept = stands.jobs_kept;
      tasks_kept = tasks_silent (Changed named) p w.jobs refl stands.tasks_kept;
      idle_kept = stands.idle_kept;
      graceful_kept = stands.graceful_kept;
      ended_kept = ended ∙ ap (λ (c : Config). ended_over c.keyboard_events w'.config.keyboard_events w.ended) stands.config_kept ∙ ap (λ (c : Config). ended_over (keyboard s p) c.keyboard_events w.ended) config ∙ ap (ended_over (keyboard s p) (keyboard s (Changed named ∷ p))) stands.ended_kept;
    } in
    rw fields stood

-- an event that is listed under a new name leaves the events of the names below
events-rise : (m : ℕ) (v : Option (Event × Priority)) (look : ℕ → Option (Event × Priority)) (names : List ℕ) (events : List Event) → AllByRecursion (λ name. name < m) names → AreEvents look names events → AreEvents (λ name. cond (m == name) v (look name)) names events
events-rise m v look [] [] b h = tt
events-rise m v look [] (event ∷ events) b h = absurd h
events-rise m v look (name ∷ names) [] b h = absurd h
events-rise m v look (name ∷ names) (event ∷ events) b h = (
  (h.0.0, ap (λ (t : Bool). cond t v (look name)) (ne_eqb m name (λ e. absurd (omega (arith, b.0)))) ∙ h.0.1),
  events-rise m v look names events b.1 h.1,
)

pub events-append : (look : ℕ → Option (Event × Priority)) (names : List ℕ) (events : List Event) (name : ℕ) (event : Event) (priority : Priority) → AreEvents look names events → look name ≡ Some (event, priority) → AreEvents look (names ++ name ∷ []) (events ++ event ∷ [])
events-append look [] [] name event priority h e = ((priority, e), tt)
events-append look [] (x ∷ events) name event priority h e = absurd h
events-append look (x ∷ names) [] name event priority h e = absurd h
events-append look (x ∷ names) (y ∷ events) name event priority h e = (h.0, events-append look names events name event priority h.1 e)

-- what the queue answered is what is due
pub offered_is : (s : Start) (w : Worker) (p : List Entry) (item : Named × Priority) (new : Channel Named) (result : Offered) → Stands s w p → IsOffered w.queue item new result → result ≡ offered s p
offered_is s w p item new Queued stands is =
    let n : length w.queue.items ≡ length (bag p) = same-length w.queue.items (bag p) stands.queue_kept in
    let test : (length (bag p) == (settings s p).event_channel_size) ≡ false = rw (← n, ← stands.size_kept) is.1 in
    let takes : closed p ≡ false = sym stands.closed_kept ∙ is.2 in
    rw (takes, test) refl
offered_is s w p item new Full stands is =
    let n : length w.queue.items ≡ length (bag p) = same-length w.queue.items (bag p) stands.queue_kept in
    let test : (length (bag p) == (settings s p).event_channel_size) ≡ true = rw (← n, ← stands.size_kept) is.1 in
    let takes : closed p ≡ false = sym stands.closed_kept ∙ is.2 in
    rw (takes, test) refl
offered_is s w p item new Closed stands is =
    let shut : closed p ≡ true = sym stands.closed_kept ∙ is.1 in
    rw shut refl

-- the worker after an offer
pub stands_offered : (s : Start) (w : Worker) (p : List Entry) (item : Option ℕ) (event : Event) (priority : Priority) (new : Channel Named) (result : Offered) → Stands s w p → NamesItem p item
    → IsOffered w.queue (record { name = event_count p; event = event }, priority) new result → new.size ≡ w.queue.size → new.closed ≡ w.queue.closed
    → Stands s (record w { queue = new; named = w.named + 1 }) (Offer (event_count p) item result event priority ∷ p)
stands_offered s w p item event priority new Queued stands named is size same_closed = record {
  own = ((refl, named), stands.own);
  config_kept = stands.config_kept;
  queue_kept = same-trans _ _ _ is.0 (add-bag w.queue.items (bag p) _ stands.queue_kept);
  size_kept = size ∙ stands.size_kept;
  closed_kept = same_closed ∙ stands.closed_kept;
  named_kept = omega (arith, stands.named_kept);
  names_kept = stands.names_kept;
  events_kept = events-rise (event_count p) (Some (event, priority)) (lookup p) (window p) w.batch.events (window_below p stands.own) stands.events_kept;
  first_kept = stands.first_kept;
  jobs_kept = stands.jobs_kept;
  tasks_kept = tasks_silent (Offer (event_count p) item Queued event priority) p w.jobs refl stands.tasks_kept;
  idle_kept = stands.idle_kept;
  graceful_kept = stands.graceful_kept;
  ended_kept = stands.ended_kept;
}
stands_offered s w p item event priority new Full stands named is size same_closed = record {
  own = ((refl, named), stands.own);
  config_kept = stands.config_kept;
  queue_kept = rw is.0 stands.queue_kept;
  size_kept = size ∙ stands.size_kept;
  closed_kept = same_closed ∙ stands.closed_kept;
  named_kept = omega (arith, stands.named_kept);
  names_kept = stands.names_kept;
  events_kept = events-rise (event_count p) (Some (event, priority)) (lookup p) (window p) w.batch.events (window_below p stands.own) stands.events_kept;
  first_kept = stands.first_kept;
  jobs_kept = stands.jobs_kept;
  tasks_kept = tasks_silent (Offer (event_count p) item Full event priority) p w.jobs refl stands.tasks_kept;
  idle_kept = stands.idle_kept;
  graceful_kept = stands.graceful_kept;
  ended_kept = stands.ended_kept;
}
stands_offered s w p item event priority new Closed stands named is size same_closed = record {
  own = ((refl, named), stands.own);
  config_kept = stands.config_kept;
  queue_kept = rw is.0 stands.queue_kept;
  size_kept = size ∙ stands.size_kept;
  closed_kept = same_closed ∙ stands.closed_kept;
  named_kept = omega (arith, stands.named_kept);
  names_kept = stands.names_kept;
  events_kept = events-rise (event_count p) (Some (event, priority)) (lookup p) (window p) w.batch.events (window_below p stands.own) stands.events_kept;
  first_kept = stands.first_kept;
  jobs_kept = stands.jobs_kept;
  tasks_kept = tasks_silent (Offer (event_count p) item Closed event priority) p w.jobs refl stands.tasks_kept;
  idle_kept = stands.idle_kept;
  graceful_kept = stands.graceful_kept;
  ended_kept = stands.ended_kept;
}

-- the worker after an event was listed as sent
pub stands_sent : (s : Start) (w : Worker) (p : List Entry) (event : Event) (priority : Priority) (new : Channel Named) → Stands s w p
    → SameBag new.items (w.queue.items ++ (record { name = event_count p; event = event }, priority) ∷ []) → new.size ≡ w.queue.size → new.closed ≡ w.queue.closed
    → Stands s (record w { queue = new; named = w.named + 1 }) (Sent (event_count p) event priority ∷ p)
stands_sent s w p event priority new stands is size same_closed = record {
  own = (refl, stands.own);
  config_kept = stands.config_kept;
  queue_kept = same-trans _ _ _ is (add-bag w.queue.items (bag p) _ stands.queue_kept);
  size_kept = size ∙ stands.size_kept;
  closed_kept = same_closed ∙ stands.closed_kept;
  named_kept = omega (arith, stands.named_kept);
  names_kept = stands.names_kept;
  events_kept = events-rise (event_count p) (Some (event, priority)) (lookup p) (window p) w.batch.events (window_below p stands.own) stands.events_kept;
  first_kept = stands.first_kept;
  jobs_kept = stands.jobs_kept;
  tasks_kept = tasks_silent (Sent (event_count p) event priority) p w.jobs refl stands.tasks_kept;
  idle_kept = stands.idle_kept;
  graceful_kept = stands.graceful_kept;
  ended_kept = stands.ended_kept;
}

-- events are at most as many as entries
pub event_count-small : (p : List Entry) → event_count p ≤ length p
event_count-small [] = omega arith
event_count-small (Sent name event priority ∷ p) = omega (arith, event_count-small p)
event_count-small (Offer name item result event priority ∷ p) = omega (arith, event_count-small p)
event_count-small (_ ∷ p) = omega (arith, event_count-small p)
