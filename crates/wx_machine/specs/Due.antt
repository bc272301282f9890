-- The written machine: which entries may come next.
use Rattle.std.specs.Prelude.{◌≡◌, ℕ, Bool, true, false, not, T, ◌||◌, ◌&&◌, ◌==◌, if◌then◌else◌, Option, None, Some, Result, Ok, Err, List, [], ◌∷◌, length}
use Rattle.std.specs.Option.{IsSomeAnd}
use Rattle.wx_events.specs.declared.event.Event.{Event}
use Rattle.wx_events.specs.declared.priority.Priority.{Priority}
use Rattle.wx_events.specs.declared.priority.Priority.TheVariants.{Normal}
use Rattle.wx_events.specs.declared.process.Signal.{Signal as ASignal}
use Rattle.wx_keys.specs.Keys.{signal_event, hears_signal, key_events}
use Rattle.prio_channel.specs.Channel.{AllAtMost}
use Rattle.wx_journal.specs.declared.entry.Entry.{Entry}
use Rattle.wx_journal.specs.declared.entry.Entry.TheVariants.{Begin, Sent, Turn as Turned, TurnFault, Offer, Word as Said, Take, Filter, Show, Hand, Dir, Make, Applied, Heard, Brought, LetGo, Ready}
use Rattle.wx_journal.specs.Acts.{JournalAct as Act}
use Rattle.wx_journal.specs.declared.entry.Named.{Named}
use Rattle.wx_journal.specs.declared.entry.TurnKind.{TurnKind}
use Rattle.wx_journal.specs.declared.entry.TurnKind.TheVariants.{Arrive, Signal, Keys, Work, Job, Ended, Ask, Change, Listen, File, Last}
use Rattle.wx_journal.specs.declared.entry.Word.{Word}
use Rattle.wx_journal.specs.declared.entry.Word.TheVariants.{Idle, Ignored, Quitting, Quiet, Stepped}
use Rattle.wx_journal.specs.Told.{is_turn}
use Rattle.wx_journal.specs.declared.entry.LetGoCause.TheVariants.{Full, Obsolete, Uncovered}
use Rattle.wx_journal.specs.Names.{moment, event_count, back_count, item_count}
use Rattle.wx_command.specs.declared.command.Command.{Command}
use Rattle.wx_config.specs.Changes.{last_revision}
use Rattle.wx_config.specs.declared.config.Config.{Config}
use Rattle.wx_notify.specs.declared.notify.Notify.{Notify}
use Rattle.wx_lane.specs.FileEvents.{event_of}
use Rattle.wx_lane.specs.declared.lane.LaneItem.{LaneItem}
use Rattle.wx_lane.specs.Lanes.{fenced}
use Rattle.wx_watch.specs.declared.notify_fault.NotifyFault.{NotifyFault}
use Rattle.wx_watch.specs.declared.watched.Watcher.{Watcher}
use Rattle.wx_watch.specs.declared.source_errors.FsWatcherError.TheVariants.{Event as EventFault}
use Rattle.wx_error.specs.declared.runtime.RuntimeError.{RuntimeError}
use Rattle.wx_error.specs.declared.runtime.RuntimeError.TheVariants.{Exit, FsWatcher}
use Rattle.wx_error.specs.declared.error.CriticalError.{CriticalError}
use Rattle.wx_journal.specs.declared.wish.Wish.{Wish}
use Rattle.wx_control.specs.declared.id.Id.{Id}
use Rattle.wx_control.specs.declared.ask.Ask.{Ask as AnAsk}
use Rattle.wx_control.specs.Asks.{sends_of}
use Rattle.wx_machine.specs.History.{lives}
use Rattle.wx_machine.specs.Table.{Plan, Done, step_plan, ask_plan}
use Rattle.wx_machine.specs.Case.{PlanAdmits, next}
use Rattle.wx_machine.specs.Start.{Start}
use Rattle.wx_machine.specs.Jobs.{living, parent, jobs, AreLawful, change_plan, act_plan, with_quit_asks, end}
use Rattle.wx_machine.specs.Keyboard.{hears_keys}
use Rattle.wx_machine.specs.Settings.{settings, revision, MayChange}
use Rattle.wx_machine.specs.Quits.{is_aborting, graceful}
use Rattle.wx_machine.specs.Files.{Source, source, applied, is_applied, is_to_make, may_be_judged, first_item, is_deaf, is_live, is_public, item_fault, item_named, finds_full}
use Rattle.wx_machine.specs.Journal.{is_urgent_named, passes_unseen, lets_pass, closed, ending, named, bag, offered, window, is_over}

-- the first entry of a run
abbrev pub begin_of : Start → Entry
begin_of s = Begin (record {
  throttle = s.config.throttle;
  size = s.config.event_channel_size;
  errors = s.config.error_channel_size;
  keyboard = s.config.keyboard_events;
  follow = s.config.follow_symlinks;
  jobsignals = s.config.signal_job_control;
  watcher = s.config.file_watcher;
  cwd = s.folder;
  paths = s.config.pathset;
})

-- the item of this name is there, and none has a greater priority
abbrev pub IsGreatest : ℕ → List (Named × Priority) → Type 0
IsGreatest name xs = IsSomeAnd (named name xs) (λ x. AllAtMost x.1 xs)

-- ---- what may be owed

-- What brings one entry of a run, whose answer is free where it has one.
pub data Point : Type 0 where
  -- the run begins
  Begins : Point
  -- this event is listed as sent
  Sends : Event → Priority → Point
  -- this event is offered to the queue
  Offers : Event → Priority → Point
  -- this word is said
  Says : Word → Point
  -- an event is taken
  Takes : Point
  -- the event of this name is shown to the filter
  Filters : ℕ → Point
  -- this error is shown to the error handler
  Shows : RuntimeError → Point
  -- the window is handed
  Hands : Point
  -- the settings that stand are applied to what is watched
  Applies : Point
  -- a backend is made by the settings that were applied
  Makes : Point
  -- the backend of this name is asked what it brings next
  Listens : ℕ → Point
  -- the item of this name is let go, since as many wait as may
  LetsGo : ℕ → Point

-- what may be answered behind these entries: which event is taken, what a filter, an error handler, an action, the maker of backends or
-- a backend answers
abbrev pub PointAnswer : Start → List Entry → Point → Type 0
PointAnswer s p Begins = Unit {0}
PointAnswer s p (Sends event priority) = Unit {0}
PointAnswer s p (Offers event priority) = Unit {0}
PointAnswer s p (Says word) = Unit {0}
PointAnswer s p Takes = (name : ℕ) × IsGreatest name (bag p)
PointAnswer s p (Filters name) = Result Bool RuntimeError
PointAnswer s p (Shows error) = Wish
PointAnswer s p Hands = (acts : List Act) × AreLawful p acts × MayChange (revision s p) acts
PointAnswer s p Applies = Unit {0}
PointAnswer s p Makes = Result (Unit {0}) NotifyFault
PointAnswer s p (Listens back) = Option (Result Notify NotifyFault)
PointAnswer s p (LetsGo item) = Unit {0}

-- What a backend of this name brought is listed as this item. Where it brought nothing that is said.
abbrev pub listened : ℕ → ℕ → Option (Result Notify NotifyFault) → Entry
listened item back None = Said Quiet
listened item back (Some answer) = Brought item back answer

-- the entry behind these, with this answer
abbrev pub brings : (s : Start) → (p : List Entry) → (x : Point) → PointAnswer s p x → Entry
brings s p Begins a = begin_of s
brings s p (Sends event priority) a = Sent (event_count p) event priority
brings s p (Offers event priority) a = Offer (event_count p) None (offered s p) event priority
brings s p (Says word) a = Said word
brings s p Takes a = Take a.0
brings s p (Filters name) a = Filter (settings s p).filterer name a
brings s p (Shows error) a = Show (settings s p).error_handler error a
brings s p Hands a = Hand (settings s p).action_handler (window p) a.0
brings s p Applies a = Applied (revision s p)
brings s p Makes a = Make (back_count p) (applied s p).file_watcher (applied s p).follow_symlinks a
brings s p (Listens back) a = listened (item_count p) back a
brings s p (LetsGo item) a = LetGo item Full

-- What comes of the first item of the lane: it is heard, where it is to be. Else its event is let go, where its backend isn't live or it
-- is of no path that was applied, and else offered. A fault is never let go.
abbrev pub event_entry : Start → List Entry → LaneItem → Result Notify NotifyFault → Entry
event_entry s p i (Ok n) =
    if not (is_live (source s p) i.back) then LetGo i.name Obsolete
    else (if not (is_public s p n) then LetGo i.name Uncovered
    else Offer (event_count p) (Some i.name) (offered s p) (event_of n) Normal)
event_entry s p i (Err fault) = Heard i.name

abbrev pub item_entry : Start → List Entry → LaneItem → Entry
item_entry s p i = if is_deaf i then Heard i.name else event_entry s p i i.item

-- where the lane is empty there is nothing to do
abbrev pub lane_entry : Start → List Entry → Option LaneItem → Entry
lane_entry s p None = Said Quiet
lane_entry s p (Some i) = item_entry s p i

-- Where it is to be told that all is watched, what was brought below the fence is heard first.
abbrev pub fence_entry : ℕ → Option LaneItem → Entry
fence_entry revision None = Ready revision
fence_entry revision (Some i) = Heard i.name

abbrev pub asks_entry : Start → List Entry → Option ℕ → Entry
asks_entry s p None = lane_entry s p (first_item (source s p).lane)
asks_entry s p (Some revision) = fence_entry revision (fenced (source s p).fence (source s p).lane)

-- what comes where there is no step to take
abbrev pub rest_entry : Start → List Entry → Entry
rest_entry s p = asks_entry s p (source s p).asks

-- What may come next of a step of what keeps watches. Where nothing of it came yet there may be none: then comes what was brought.
pub data Step (s : Start) (p : List Entry) (untouched : Bool) : Type 0 where
  -- a directory is shown to the filter
  Judges : (path : List ℕ) → may_be_judged s p path ≡ true → Result Bool RuntimeError → Step s p untouched
  -- an error is shown to the error handler, while the queue isn't closed
  Errs : RuntimeError → Wish → closed p ≡ false → Step s p untouched
  -- a backend is made in place of the one that stands
  Remakes : Result (Unit {0}) NotifyFault → Step s p untouched
  -- it is done
  Finishes : Step s p untouched
  -- there is none to take
  Rests : untouched ≡ true → Step s p untouched

-- the entry of it behind these: filter, watcher and links are those of the settings that were applied
abbrev pub step_entry : (s : Start) → (p : List Entry) → (untouched : Bool) → Step s p untouched → Entry
step_entry s p untouched (Judges path below answer) = Dir (applied s p).filterer path answer
step_entry s p untouched (Errs error wish is_open) = Show (settings s p).error_handler error wish
step_entry s p untouched (Remakes answer) = Make (back_count p) (applied s p).file_watcher (applied s p).follow_symlinks answer
step_entry s p untouched Finishes = Said Stepped
step_entry s p untouched (Rests is_untouched) = rest_entry s p

-- What is still owed. An answer or an event that was taken decides how it goes on.
pub data Agenda : Type 0 where
  -- nothing: a turn may come
  Open : Agenda
  -- this comes, and then what stands behind it
  Comes : Point → Agenda → Agenda
  -- a step of what keeps watches, with whether nothing of it came yet, and then what stands behind it
  Steps : Bool → Agenda → Agenda
  -- this plan of jobs is followed
  Plans : Plan → Agenda → Agenda
  -- the end: each job that lives ends, and then nothing may come
  Ends : Agenda
  -- nothing may come: the run breaks off
  Breaks : Agenda

-- a turn, or the fault of one
abbrev pub IsTurn : Entry → Type 0
IsTurn e = T (is_turn e)

-- the entries that an agenda lets come next after these
abbrev pub Admits : Start → List Entry → Agenda → Entry → Type 0
Admits s p Open e = IsTurn e
Admits s p (Comes x more) e = (a : PointAnswer s p x) × (e ≡ brings s p x a)
Admits s p (Steps untouched more) e = (a : Step s p untouched) × (e ≡ step_entry s p untouched a)
Admits s p (Plans k more) e = PlanAdmits p k e
Admits s p Ends e = PlanAdmits p (end p) e
Admits s p Breaks e = ⊥

-- each of these events is listed as sent
abbrev pub sends : List (Event × Priority) → Agenda
sends [] = Open
sends (x ∷ xs) = Comes (Sends x.0 x.1) (sends xs)

-- a plan that owes nothing is over
abbrev pub plans : Plan → Agenda → Agenda
plans Done more = more
plans (k) more = Plans k more

-- this word is said, and then nothing is owed
abbrev pub says : Word → Agenda
says word = Comes (Says word) Open

-- what stands behind an entry of a point: each brings just one
abbrev pub stays : Point → Entry → Agenda → Agenda
stays x e more = more

-- the entries with which a step goes on
abbrev pub goes_on : Entry → Bool
goes_on (Dir n path answer) = true
goes_on (Show n error wish) = true
goes_on (Make back watcher follow answer) = true
goes_on (_) = false

-- what stands behind the entry that was owed first
abbrev pub rest : Entry → Agenda → Agenda
rest e (Comes x more) = stays x e more
rest e (Steps untouched more) = if goes_on e then Steps false more else more
rest e (Plans k more) = plans (next k e) more
rest e (k) = k

-- ---- what an entry leaves owed

-- A signal is offered as an event where it is heard, and else ignored.
abbrev pub signal_turn : Bool → ASignal → Agenda
signal_turn job_control signal = if hears_signal job_control signal then Comes (Offers (signal_event signal).0 (signal_event signal).1) Open else says Ignored

-- each of these events of keys is offered
abbrev pub offers : List Event → Agenda
offers [] = Open
offers (event ∷ events) = Comes (Offers event Normal) (offers events)

-- Of a read from the keyboard each key is offered, where it has any.
abbrev pub keys_open : List Event → Agenda
keys_open [] = says Idle
keys_open (event ∷ events) = offers (event ∷ events)

-- It is ignored where keys weren't heard before its turn.
abbrev pub keys_turn : Bool → List ℕ → Agenda
keys_turn heard bytes = if heard then keys_open (key_events bytes) else says Ignored

-- the entries before the newest
abbrev pub before : List Entry → List Entry
before [] = []
before (e ∷ p) = p

-- A Work turn: where a graceful quit was asked for it says so; else the end, where the queue is closed; else hand the window where
-- the throttle is over, else say idle where the queue is empty, else take an event.
abbrev pub work_open : Start → List Entry → ℕ → Agenda
work_open s p at = if is_over s p at then Comes Hands Open else (if length (bag p) == 0 then says Idle else Comes Takes Open)

abbrev pub work_going : Start → List Entry → ℕ → Agenda
work_going s p at = if closed p then Ends else work_open s p at

abbrev pub work : Start → List Entry → ℕ → Agenda
work s p at = if graceful p then says Quitting else work_going s p at

-- a turn about a job or a child that isn't there is ignored
abbrev pub job_turn : Id → Option Command → List Entry → Agenda
job_turn id None p = says Ignored
job_turn id (Some command) p = plans (step_plan id command p) Open

abbrev pub ended_turn : Option Id → List Entry → Agenda
ended_turn None p = says Ignored
ended_turn (Some id) p = job_turn id (living id p) p

abbrev pub ask_turn : Id → AnAsk → List Entry → Agenda
ask_turn id ask p = if lives id p then plans (ask_plan id (sends_of ask) Done) Open else says Ignored

-- A change is made, and where the revision can't be raised it is ignored.
abbrev pub change_turn : ℕ → Agenda
change_turn revision = if revision == last_revision then says Ignored else plans (change_plan revision Done) Open

-- Settings that were not applied yet are. Else what keeps watches takes a step, or rests; where no backend stands the turn is ignored.
abbrev pub watch_turn : Option ℕ → Agenda
watch_turn None = says Ignored
watch_turn (Some back) = Steps true Open

abbrev pub file_turn : Config → Source → Agenda
file_turn c x = if is_applied c x.applied then watch_turn x.current else Comes Applies Open

-- The backend that stands is asked what it brings. Where none stands the turn is ignored.
abbrev pub listen_turn : Option ℕ → Agenda
listen_turn None = says Ignored
listen_turn (Some back) = Comes (Listens back) Open

-- what a turn of this kind and moment owes, behind its entry
abbrev pub turn_agenda : Start → TurnKind → ℕ → List Entry → Agenda
turn_agenda s (Arrive event priority) at p = Comes (Offers event priority) Open
turn_agenda s (Signal signal) at p = signal_turn (settings s p).signal_job_control signal
turn_agenda s (Keys bytes) at p = keys_turn (hears_keys s (before p)) bytes
turn_agenda s Work at p = work s p at
turn_agenda s (Job id) at p = job_turn id (living id p) p
turn_agenda s (Ended c) at p = ended_turn (parent c p) p
turn_agenda s (Ask id ask) at p = ask_turn id ask p
turn_agenda s (Change change) at p = change_turn (revision s p)
turn_agenda s File at p = file_turn (settings s p) (source s p)
turn_agenda s Listen at p = listen_turn (source s p).current
turn_agenda s Last at p = Ends

-- An event that passed is handed at once, with the window, where it is urgent or the throttle is over.
abbrev pub after_pass : Start → ℕ → List Entry → Agenda → Agenda
after_pass s name p more = if is_urgent_named name p || is_over s p (moment p) then Comes Hands more else more

-- One that was taken passes unseen, or is shown to the filter.
abbrev pub after_take : Start → ℕ → List Entry → Agenda → Agenda
after_take s name p more = if passes_unseen name p then after_pass s name (Take name ∷ p) more else Comes (Filters name) more

-- What the filter doesn't let pass is dropped. An error but an exit is shown.
abbrev pub after_drop : Result Bool RuntimeError → Agenda → Agenda
after_drop (Ok passes) more = more
after_drop (Err Exit) more = more
after_drop (Err error) more = Comes (Shows error) more

abbrev pub after_filter : Start → ℕ → Result Bool RuntimeError → List Entry → Agenda → Agenda
after_filter s name answer p more = if lets_pass answer then after_pass s name p more else after_drop answer more

-- After an error was shown the run goes on, or breaks off with the error that was wished.
abbrev pub after_show : Option CriticalError → Agenda → Agenda
after_show None more = more
after_show (Some error) more = Breaks

-- After settings were applied a backend is made, where one is to be.
abbrev pub after_applied : Config → Source → Agenda → Agenda
after_applied c x more = if is_to_make c x then Comes Makes more else more

-- Where a backend couldn't be made the run breaks off.
abbrev pub after_make : Result (Unit {0}) NotifyFault → Agenda → Agenda
after_make (Ok done) more = more
after_make (Err fault) more = Breaks

-- An event for which there is no room is let go.
abbrev pub after_brought : Bool → ℕ → Agenda → Agenda
after_brought full item more = if full then Comes (LetsGo item) more else more

-- A fault that was heard is shown, while the queue isn't closed: it is one of the watcher that was applied.
abbrev pub after_fault : Bool → Watcher → Option NotifyFault → Agenda → Agenda
after_fault shut watcher None more = more
after_fault shut watcher (Some fault) more = if shut then more else Comes (Shows (FsWatcher watcher (EventFault fault))) more

-- what comes where nothing else is owed: the end, where it was asked for
abbrev pub after_acts : Bool → Agenda
after_acts ends = if ends then Ends else Open

-- A batch is the last thing of its turn: its acts are done, and what their quit asks.
abbrev pub after_hand : Start → List Act → List Entry → Agenda
after_hand s acts p = plans (act_plan (λ id. lives id p) (revision s p) (with_quit_asks p acts)) Open

-- What an entry leaves owed, where this stood behind it. One that has no row here leaves just this.
abbrev pub follow : Start → Entry → List Entry → Agenda → Agenda
follow s (Turned t) p more = turn_agenda s t.kind t.at (Turned t ∷ p)
follow s (TurnFault code) p more = Ends
follow s (Take name) p more = after_take s name p more
follow s (Filter n name answer) p more = after_filter s name answer (Filter n name answer ∷ p) more
follow s (Show n error wish) p more = after_show (ending error wish) more
follow s (Hand n names acts) p more = after_hand s acts p
follow s (Applied revision) p more = after_applied (settings s p) (source s p) more
follow s (Make back watcher follows answer) p more = after_make answer more
follow s (Brought item back answer) p more = after_brought (finds_full s p answer) item more
follow s (Heard item) p more = after_fault (closed p) (applied s p).file_watcher (item_fault (item_named item (source s p).lane)) more
follow s (_) p more = more

-- the end was asked for gracefully, and no job lives
abbrev pub is_through : List Entry → Bool
is_through p = graceful p && length (jobs p) == 0

-- the end is due where nothing else is owed: it was asked for at once, in this turn, or gracefully, and no job lives
abbrev pub is_quitting : List Entry → Bool
is_quitting p = is_aborting p || is_through p

-- The last pass, which sees the whole journal: where nothing is owed any more the end is, if it was asked for.
abbrev pub settle : List Entry → Agenda → Agenda
settle p Open = after_acts (is_quitting p)
settle p (k) = k

-- a run begins, and lists the events of its start
abbrev pub agenda : Start → List Entry → Agenda
agenda s [] = Comes Begins (sends s.events)
agenda s (e ∷ p) = settle (e ∷ p) (follow s e p (rest e (agenda s p)))

-- the entries that may come next
abbrev pub Due : Start → List Entry → Entry → Type 0
Due s p e = Admits s p (agenda s p) e

-- each entry was due after those before it
abbrev pub IsRun : Start → List Entry → Type 0
IsRun s [] = Unit {0}
IsRun s (e ∷ p) = Due s p e × IsRun s p
