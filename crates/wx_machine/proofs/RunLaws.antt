-- The laws of every run, proved.
use Rattle.std.proofs.Common.{◌≡◌, ℕ, ◌+◌, ◌<◌, Bool, true, false, cond, List, [], ◌∷◌, ◌++◌, length, Ok, arith, refl, ap, sym, subst, ◌∙◌, eq-eqb}
use Rattle.std.specs.Prelude.{Option, None, Some, Result, Ok, Err, ◌==◌, ◌&&◌, ◌||◌, not}
use Rattle.std.specs.Option.{IsSomeAnd}
use Rattle.std.specs.List.{AllByRecursion}
use Rattle.std.proofs.lemmas.Bool.{eqb-true, or_left, or_right, or_parts}
use Rattle.wx_words.specs.EachLaws.{each_append, each_weaker, each_filter}
use Rattle.wx_events.specs.declared.event.Event.{Event}
use Rattle.wx_events.specs.declared.priority.Priority.{Priority}
use Rattle.wx_command.specs.declared.command.Command.{Command}
use Rattle.wx_config.specs.Changes.{last_revision}
use Rattle.wx_config.specs.declared.change.Change.{Change as AChange}
use Rattle.wx_notify.specs.declared.notify.Notify.{Notify}
use Rattle.wx_watch.specs.declared.notify_fault.NotifyFault.{NotifyFault}
use Rattle.wx_watch.specs.declared.watched.Watcher.{Watcher}
use Rattle.wx_error.specs.declared.runtime.RuntimeError.{RuntimeError}
use Rattle.wx_error.specs.declared.runtime.RuntimeError.TheVariants.{Exit}
use Rattle.wx_error.specs.declared.error.CriticalError.{CriticalError}
use Rattle.wx_control.specs.declared.id.Id.{Id}
use Rattle.wx_control.specs.declared.ask.Ask.{Ask as AnAsk}
use Rattle.wx_control.specs.Asks.{sends_of}
use Rattle.wx_journal.specs.declared.entry.Entry.{Entry}
use Rattle.wx_journal.specs.declared.entry.Entry.TheVariants.{Begin, Sent, Turn as Turned, TurnFault, Offer, Word as Said, Take, Filter, Show, Hand, Made, Spawn, Gone, Dir, Make, Applied, Heard, Brought, LetGo, Ready}
use Rattle.wx_journal.specs.Acts.{JournalAct as Act}
use Rattle.wx_journal.specs.declared.entry.Named.{Named}
use Rattle.wx_journal.specs.declared.entry.Turn.{Turn}
use Rattle.wx_journal.specs.declared.entry.TurnKind.{TurnKind}
use Rattle.wx_journal.specs.declared.entry.TurnKind.TheVariants.{Arrive, Signal, Keys, Work, Job, Ended, Ask, Change, Listen, File, Last}
use Rattle.wx_journal.specs.declared.entry.Word.{Word}
use Rattle.wx_journal.specs.declared.entry.Word.TheVariants.{Idle, Ignored, Quitting}
use Rattle.wx_journal.specs.Names.{moment, event_count, item_count, creates, is_created, next_job, Names, NamesItsOwn}
use Rattle.wx_machine.specs.History.{same, lives, child, unless, ended_child, still_running}
use Rattle.wx_machine.specs.TicketLaws.{IsPlaced}
use Rattle.wx_machine.specs.Table.{Plan, Done, adds, drop_plan, step_plan, ask_plan}
use Rattle.wx_machine.specs.Case.{PlanAdmits, next}
use Rattle.wx_machine.proofs.Owners.{either, same-is}
use Rattle.wx_machine.proofs.Places.{IsSilent, placed_none, placed_silent}
use Rattle.wx_machine.specs.Start.{Start}
use Rattle.wx_machine.specs.Keyboard.{hears_keys}
use Rattle.wx_keys.specs.Keys.{hears_signal, key_events}
use Rattle.wx_machine.specs.Jobs.{living, parent, jobs, first_end, end, is_free, AreLawful, change_plan, act_plan, with_created, with_quit_asks}
use Rattle.wx_machine.specs.Quits.{quit_of, is_aborting, graceful}
use Rattle.wx_machine.proofs.JobSets.{lawful_hand}
use Rattle.wx_machine.proofs.QuitActs.{creates_quit_asks, lawful_quit_asks, changes_quit_asks}
use Rattle.wx_machine.specs.Settings.{turn_changes, pending, settings, revision}
use Rattle.wx_machine.specs.Journal.{listed, passes_unseen, lets_pass, closed, ending, named, bag, one_if, and_one, is_among, unhanded, window, is_over, is_urgent_named}
use Rattle.wx_machine.specs.Files.{source, applied, is_applied, is_to_make, finds_full, item_fault, item_named}
use Rattle.wx_machine.specs.Due.{IsGreatest, Point, Takes, Filters, Hands, Applies, Makes, Step, Judges, Errs, Remakes, Finishes, Rests, step_entry, Agenda, Open, Comes, Steps, Plans, Ends, Breaks, IsTurn, Admits, sends, plans, says, stays, goes_on, rest, job_turn, ended_turn, work_going, watch_turn, listen_turn, rest_entry, turn_agenda, after_drop, after_show, after_make, after_brought, after_fault, after_hand, follow, is_quitting, settle, agenda, Due, IsRun, offers, keys_open, before}
use Rattle.wx_machine.proofs.BagLaws.{NamesBelow, bag_facts}
use Rattle.wx_machine.proofs.Orderly.{IsQuiet, IsBrought, IsLasting, IsFit, IsGoing, IsSourced, GoneRunNone, IsOrderly}
use Rattle.wx_machine.proofs.LaneLaws.{planned_none, sourced_brought, sourced_none, sourced_other}
use Rattle.wx_machine.proofs.RestLaws.{listen_brought, rest_brought}
use Rattle.wx_machine.proofs.SettleLaws.{fit_settle, going_calm, going_plans}
use Rattle.wx_machine.proofs.PlanLaws.{lawful_now, placed_now, lawful_next, lawful_step, lawful_ask, lawful_acts, lawful_change, revised_step, revised_ask, revised_change, revised_acts, of_end, end_is_plan, end_placed, end_in_order, names_end}
use Rattle.wx_machine.proofs.Always.{Always, always_next}
use Rattle.wx_machine.proofs.Lawful.{IsOfPlan, IsFree, InOrder, Revises, Lawful}

-- ---- what an agenda that admits an entry says of it

-- a turn, or an entry of a plan, is no point's
no_turn : (s : Start) (p : List Entry) (e : Entry) → IsBrought s p e → IsTurn e → ⊥
no_turn s p (Turned t) b i = b
no_turn s p (TurnFault code) b i = b
no_turn s p (_) b i = i

no_plan_turns : (e : Entry) → IsOfPlan e → IsTurn e → ⊥
no_plan_turns (Turned t) o i = o
no_plan_turns (TurnFault code) o i = o
no_plan_turns (_) o i = i

pub brought : (s : Start) (p : List Entry) (x : Point) (more : Agenda) (e : Entry) → Admits s p (Comes x more) e → IsFit s p (Comes x more) → IsBrought s p e
brought s p x more e d f = subst (IsBrought s p) (sym d.1) (f.0 d.0)

-- what a step brings, or what comes in its place
pub step_brought : (s : Start) (p : List Entry) (untouched : Bool) (a : Step s p untouched) → (untouched ≡ true → IsBrought s p (rest_entry s p)) → IsBrought s p (step_entry s p untouched a)
step_brought s p untouched (Judges path below answer) f = (refl, below)
step_brought s p untouched (Errs error wish is_open) f = is_open
step_brought s p untouched (Remakes answer) f = (refl, refl, refl)
step_brought s p untouched Finishes f = tt
step_brought s p untouched (Rests is_untouched) f = f is_untouched

pub came : (s : Start) (p : List Entry) (untouched : Bool) (more : Agenda) (e : Entry) → Admits s p (Steps untouched more) e → IsFit s p (Steps untouched more) → IsBrought s p e
came s p untouched more e d f = subst (IsBrought s p) (sym d.1) (step_brought s p untouched d.0 f.0)

-- any other is one that a point brought, or a step
pub admitted : (s : Start) (p : List Entry) (k : Agenda) (e : Entry) → (IsTurn e → ⊥) → (IsOfPlan e → ⊥) → Admits s p k e → IsFit s p k → IsBrought s p e
admitted s p Open e turn plan d f = absurd (turn d)
admitted s p (Comes x more) e turn plan d f = brought s p x more e d f
admitted s p (Steps untouched more) e turn plan d f = came s p untouched more e d f
admitted s p (Plans k more) e turn plan d f = absurd (plan (lawful_now p k e d f.0).of_plan)
admitted s p Ends e turn plan d f = absurd (plan (end_is_plan e (of_end p e d)))
admitted s p Breaks e turn plan d f = absurd d

-- ---- a run names only what its own entries made

below_by_test : (n name : ℕ) (x : Named × Priority) (o : Option (Named × Priority)) (P : Named × Priority → Type 0) (t : Bool) → (x.0.name == name) ≡ t → x.0.name < n → (IsSomeAnd o P → name < n) → IsSomeAnd (cond t (Some x) o) P → name < n
below_by_test n name x o P true e lt later h = let same = eqb-true x.0.name name e in omega arith
below_by_test n name x o P false e lt later h = later h

named_below : (n name : ℕ) (xs : List (Named × Priority)) (P : Named × Priority → Type 0) → NamesBelow n xs → IsSomeAnd (named name xs) P → name < n
named_below n name [] P b h = absurd h
named_below n name (x ∷ xs) P b h = below_by_test n name x (named name xs) P (x.0.name == name) refl b.0 (λ g. named_below n name xs P b.1 g) h

below-rise : (n : ℕ) (names : List ℕ) → AllByRecursion (λ name. name < n) names → AllByRecursion (λ name. name < n + 1) names
below-rise n names h = each_weaker (λ name. name < n) (λ name. name < n + 1) (λ name lt. omega (arith, lt)) names h

-- what holds of these names, and of one that joins them
each_one_if : (P : ℕ → Type 0) (names : List ℕ) (joins : Bool) (name : ℕ) → AllByRecursion P names → P name → AllByRecursion P (and_one names (one_if joins name))
each_one_if P names true name all one = each_append P names (name ∷ []) all (one, tt)
each_one_if P names false name all one = all

-- the names in the window are those of events
pub window_below : (p : List Entry) → NamesItsOwn p → AllByRecursion (λ name. name < event_count p) (window p)
window_below [] own = tt
window_below (Sent name event priority ∷ p) own = below-rise (event_count p) (window p) (window_below p own.1)
window_below (Offer name item result event priority ∷ p) own = below-rise (event_count p) (window p) (window_below p own.1)
window_below (Take name ∷ p) own = each_one_if (λ m. m < event_count p) (window p) (passes_unseen name p) name (window_below p own.1) own.0
window_below (Filter n name answer ∷ p) own = each_one_if (λ m. m < event_count p) (window p) (lets_pass answer) name (window_below p own.1) own.0
window_below (Hand n names acts ∷ p) own = each_filter (λ name. name < event_count p) (λ name. not (is_among name names)) (window p) (window_below p own.1)
window_below (_ ∷ p) own = window_below p own.1

-- and so is that of an event that is listed
listed_or : (n name m : ℕ) (b : Bool) (v x : Event × Priority) (o : Option (Event × Priority)) → (n == name) ≡ b → n ≡ m → (o ≡ Some x → name < m) → cond b (Some v) o ≡ Some x → name < m + 1
listed_or n name m true v x o is new more e = let same = eqb-true n name is in omega arith
listed_or n name m false v x o is new more e = let lt = more e in omega arith

pub listed_below : (name : ℕ) (p : List Entry) (x : Event × Priority) → NamesItsOwn p → listed name p ≡ Some x → name < event_count p
listed_below name [] x own e = absurd cc
listed_below name (Sent n event priority ∷ p) x own e = listed_or n name (event_count p) (n == name) (event, priority) x (listed name p) refl own.0 (λ g. listed_below name p x own.1 g) e
listed_below name (Offer n item result event priority ∷ p) x own e = listed_or n name (event_count p) (n == name) (event, priority) x (listed name p) refl own.0.0 (λ g. listed_below name p x own.1 g) e
listed_below name (_ ∷ p) x own e = listed_below name p x own.1 e

-- ---- a batch that is the whole window leaves none

among_all : (names : List ℕ) → AllByRecursion (λ name. is_among name names ≡ true) names
among_all [] = tt
among_all (name ∷ names) = (
  rw (eq-eqb name name refl) refl,
  each_weaker (λ other. is_among other names ≡ true) (λ other. is_among other (name ∷ names) ≡ true) (λ other is. or_right (name == other) (is_among other names) is) names (among_all names),
)

none_unhanded : (batch names : List ℕ) → AllByRecursion (λ name. is_among name batch ≡ true) names → unhanded batch names ≡ []
none_unhanded batch [] all = refl
none_unhanded batch (name ∷ names) all = rw all.0 (none_unhanded batch names all.1)

pub window_handed : (n : ℕ) (names : List ℕ) (acts : List Act) (p : List Entry) → names ≡ window p → window (Hand n names acts ∷ p) ≡ []
window_handed n names acts p is = ap (λ (batch : List ℕ). unhanded batch (window p)) is ∙ none_unhanded (window p) (window p) (among_all (window p))

-- ---- what an agenda owes of a journal that names its own

fit_quiet : (s : Start) (p : List Entry) (more : Agenda) → IsQuiet more → IsFit s p more
fit_quiet s p Open q = tt
fit_quiet s p Ends q = tt
fit_quiet s p (_) q = absurd q

fit_lasting : (s : Start) (p : List Entry) (more : Agenda) → IsLasting s more → IsFit s p more
fit_lasting s p (Comes x more) l = (l.0 p, l.1)
fit_lasting s p (Steps untouched more) l = (λ is. (let both : true ≡ false = sym is ∙ l.0 in absurd cc), l.1)
fit_lasting s p (Plans k more) l = absurd l
fit_lasting s p (_) l = tt

fit_plans : (s : Start) (p : List Entry) (k : Plan) (more : Agenda) → Lawful p k → IsQuiet more → Always (Revises s) p k → IsFit s p (plans k more)
fit_plans s p Done more l q r = fit_quiet s p more q
fit_plans s p (k) more l q r = (l, q, r)

lasting_sends : (s : Start) (xs : List (Event × Priority)) → IsLasting s (sends xs)
lasting_sends s [] = tt
lasting_sends s (x ∷ xs) = (λ p a. refl, lasting_sends s xs)

-- what stands behind an entry of a point lasts
pub lasting_stays : (s : Start) (x : Point) (e : Entry) (more : Agenda) → IsLasting s more → IsLasting s (stays x e more)
lasting_stays s x e more l = l

-- what stands behind an entry of a step lasts: the step, or what stands behind it
lasting_step : (s : Start) (e : Entry) (more : Agenda) → IsLasting s more → IsLasting s (rest e (Steps true more))
lasting_step s e more l = either (IsLasting s) (goes_on e) (Steps false more) more (refl, l) l

fit_says : (s : Start) (p : List Entry) (word : Word) → IsFit s p (says word)
fit_says s p word = (λ a. tt, tt)

-- so does what the keys of a read owe
lasting_offers : (s : Start) (events : List Event) → IsLasting s (offers events)
lasting_offers s [] = tt
lasting_offers s (event ∷ events) = (λ p a. (refl, (tt, tt), refl), lasting_offers s events)

fit_keys : (s : Start) (p : List Entry) (events : List Event) → IsFit s p (keys_open events)
fit_keys s p [] = fit_says s p Idle
fit_keys s p (event ∷ events) = (λ a. (refl, (tt, tt), refl), lasting_offers s events)

fit_job : (s : Start) (p : List Entry) (id : Id) (command : Option Command) → NamesItsOwn p → IsPlaced p → IsFit s p (job_turn id command p)
fit_job s p id None own h = fit_says s p Ignored
fit_job s p id (Some command) own h = fit_plans s p (step_plan id command p) Open (lawful_step id command p own h) tt (revised_step s id command p)

fit_ended : (s : Start) (p : List Entry) (id : Option Id) → NamesItsOwn p → IsPlaced p → IsFit s p (ended_turn id p)
fit_ended s p None own h = fit_says s p Ignored
fit_ended s p (Some id) own h = fit_job s p id (living id p) own h

fit_ask : (s : Start) (p : List Entry) (id : Id) (ask : AnAsk) (b : Bool) → lives id p ≡ b → NamesItsOwn p → IsPlaced p → IsFit s p (cond b (plans (ask_plan id (sends_of ask) Done) Open) (says Ignored))
fit_ask s p id ask true alive own h = fit_plans s p (ask_plan id (sends_of ask) Done) Open (lawful_ask id ask p own h alive) tt (revised_ask s id ask p alive)
fit_ask s p id ask false alive own h = fit_says s p Ignored

-- a window that isn't empty, where the throttle is over
pub window_some : (names : List ℕ) (b : Bool) → (not (length names == 0) && b) ≡ true → 0 < length names
window_some [] b e = absurd cc
window_some (x ∷ names) b e = omega arith

pub some-append : (names : List ℕ) (name : ℕ) → 0 < length (names ++ name ∷ [])
some-append [] name = omega arith
some-append (x ∷ names) name = omega (arith, some-append names name)

fit_work : (s : Start) (p : List Entry) (at : ℕ) (shut over empty : Bool) → closed p ≡ shut → is_over s p at ≡ over → IsFit s p (cond shut Ends (cond over (Comes Hands Open) (cond empty (says Idle) (Comes Takes Open))))
fit_work s p at true over empty c o = tt
fit_work s p at false true empty c o = (λ a. (refl, a.1, window_some (window p) _ o), tt)
fit_work s p at false false true c o = fit_says s p Idle
fit_work s p at false false false c o = (λ a. (a.1, c), tt)

fit_change : (s : Start) (p : List Entry) (change : AChange) (b : Bool) → pending p ≡ change ∷ [] → IsPlaced p → IsFit s p (cond b (says Ignored) (plans (change_plan (revision s p) Done) Open))
fit_change s p change true wait h = fit_says s p Ignored
fit_change s p change false wait h = fit_plans s p (change_plan (revision s p) Done) Open (lawful_change (revision s p) p h) tt (revised_change s p change wait)

-- what a turn about what is watched owes
fit_watch : (s : Start) (p : List Entry) (current : Option ℕ) → IsSourced s p → IsFit s p (watch_turn current)
fit_watch s p None h = fit_says s p Ignored
fit_watch s p (Some back) h = (λ is. rest_brought s p h, tt)

pub fit_file : (s : Start) (p : List Entry) (is : Bool) → is_applied (settings s p) (source s p).applied ≡ is → IsSourced s p → IsFit s p (cond is (watch_turn (source s p).current) (Comes Applies Open))
fit_file s p true e h = fit_watch s p (source s p).current h
fit_file s p false e h = (λ a. (refl, e), tt)

-- what one owes that asks what was brought
fit_listen : (s : Start) (p : List Entry) (current : Option ℕ) → (source s p).current ≡ current → IsSourced s p → IsFit s p (listen_turn current)
fit_listen s p None is h = fit_says s p Ignored
fit_listen s p (Some back) is h = (λ a. listen_brought s p back a is h, tt)

fit_turn : (s : Start) (p : List Entry) (kind : TurnKind) (at : ℕ) → pending p ≡ turn_changes kind → NamesItsOwn p → IsPlaced p → IsSourced s p → IsFit s p (turn_agenda s kind at p)
fit_turn s p (Arrive event priority) at wait own h x = (λ a. (refl, (tt, tt), refl), tt)
fit_turn s p (Signal signal) at wait own h x = either (IsFit s p) (hears_signal (settings s p).signal_job_control signal) _ _ (λ a. (refl, (tt, tt), refl), tt) (fit_says s p Ignored)
fit_turn s p (Keys bytes) at wait own h x = either (IsFit s p) (hears_keys s (before p)) _ _ (fit_keys s p (key_events bytes)) (fit_says s p Ignored)
fit_turn s p Work at wait own h x = either (IsFit s p) (graceful p) (says Quitting) (work_going s p at) (fit_says s p Quitting) (fit_work s p at (closed p) (is_over s p at) (length (bag p) == 0) refl refl)
fit_turn s p (Job id) at wait own h x = fit_job s p id (living id p) own h
fit_turn s p (Ended c) at wait own h x = fit_ended s p (parent c p) own h
fit_turn s p (Ask id ask) at wait own h x = fit_ask s p id ask (lives id p) refl own h
fit_turn s p (Change change) at wait own h x = fit_change s p change (revision s p == last_revision) wait h
fit_turn s p File at wait own h x = fit_file s p (is_applied (settings s p) (source s p).applied) refl x
fit_turn s p Listen at wait own h x = fit_listen s p (source s p).current refl x
fit_turn s p Last at wait own h x = tt

fit_hand : (s : Start) (p : List Entry) (n : ℕ) (names : List ℕ) (acts : List Act) → AreLawful p acts → IsPlaced (Hand n names acts ∷ p) → IsFit s (Hand n names acts ∷ p) (after_hand s acts p)
fit_hand s p n names acts lawful h =
    let quit = quit_of acts in
    let ids = with_created acts (jobs p) in
    fit_plans s (Hand n names acts ∷ p) (act_plan (λ id. lives id p) (revision s p) (with_quit_asks p acts)) Open
    (lawful_acts (revision s p) (with_quit_asks p acts) (Hand n names acts ∷ p) (λ id e. or_left (creates id acts) (is_created id p) (sym (creates_quit_asks id quit ids acts) ∙ e)) (lawful_hand p n names acts (with_quit_asks p acts) (lawful_quit_asks (is_free p) (next_job p) quit ids acts lawful)) h)
    tt
    (revised_acts s (λ id. lives id p) (revision s p) (with_quit_asks p acts) (Hand n names acts ∷ p) refl (sym (changes_quit_asks quit ids acts)))

-- the window, with an event that joins it
pub joined_if : (p : List Entry) (name : ℕ) (joins : Bool) → joins ≡ true → and_one (window p) (one_if joins name) ≡ window p ++ name ∷ []
joined_if p name joins is = ap (λ (b : Bool). and_one (window p) (one_if b name)) is

some-joined : (p : List Entry) (name : ℕ) (joins : Bool) → joins ≡ true → 0 < length (and_one (window p) (one_if joins name))
some-joined p name joins is = rw (joined_if p name joins is) (some-append (window p) name)

fit_pass : (s : Start) (p : List Entry) (due : Bool) (more : Agenda) → 0 < length (window p) → IsLasting s more → IsFit s p (cond due (Comes Hands more) more)
fit_pass s p true more some l = (λ a. (refl, a.1, some), l)
fit_pass s p false more some l = fit_lasting s p more l

fit_take : (s : Start) (p : List Entry) (name : ℕ) (unseen due : Bool) (more : Agenda) → passes_unseen name p ≡ unseen → name < event_count p → closed p ≡ false → IsLasting s more → IsFit s (Take name ∷ p) (cond unseen (cond due (Comes Hands more) more) (Comes (Filters name) more))
fit_take s p name true due more is below takes l = fit_pass s (Take name ∷ p) due more (some-joined p name (passes_unseen name p) is) l
fit_take s p name false due more is below takes l = (λ a. (below, is, takes), l)

fit_drop : (s : Start) (p : List Entry) (n name : ℕ) (answer : Result Bool RuntimeError) (more : Agenda) → closed p ≡ false → IsLasting s more → IsFit s (Filter n name answer ∷ p) (after_drop answer more)
fit_drop s p n name (Ok passes) more takes l = fit_lasting s (Filter n name (Ok passes) ∷ p) more l
fit_drop s p n name (Err Exit) more takes l = fit_lasting s (Filter n name (Err Exit) ∷ p) more l
fit_drop s p n name (Err error) more takes l = (λ a. takes, l)

fit_filter : (s : Start) (p : List Entry) (n name : ℕ) (answer : Result Bool RuntimeError) (passes due : Bool) (more : Agenda) → lets_pass answer ≡ passes → closed p ≡ false → IsLasting s more → IsFit s (Filter n name answer ∷ p) (cond passes (cond due (Comes Hands more) more) (after_drop answer more))
fit_filter s p n name answer true due more is takes l = fit_pass s (Filter n name answer ∷ p) due more (some-joined p name (lets_pass answer) is) l
fit_filter s p n name answer false due more is takes l = fit_drop s p n name answer more takes l

fit_show : (s : Start) (p : List Entry) (o : Option CriticalError) (more : Agenda) → IsLasting s more → IsFit s p (after_show o more)
fit_show s p None more l = fit_lasting s p more l
fit_show s p (Some error) more l = tt

-- an event that is taken has a name
pub below_taken : (p : List Entry) (name : ℕ) → IsGreatest name (bag p) → NamesItsOwn p → name < event_count p
below_taken p name greatest own = named_below (event_count p) name (bag p) _ (bag_facts p own).below greatest

fit_applied : (s : Start) (p : List Entry) (makes : Bool) (more : Agenda) → IsLasting s more → IsFit s p (cond makes (Comes Makes more) more)
fit_applied s p true more l = (λ a. (refl, refl, refl), l)
fit_applied s p false more l = fit_lasting s p more l

fit_make : (s : Start) (p : List Entry) (answer : Result (Unit {0}) NotifyFault) (more : Agenda) → IsLasting s more → IsFit s p (after_make answer more)
fit_make s p (Ok done) more l = fit_lasting s p more l
fit_make s p (Err fault) more l = tt

-- after what was brought, or heard
fit_room : (s : Start) (p : List Entry) (item back : ℕ) (answer : Result Notify NotifyFault) (full : Bool) (more : Agenda) → finds_full s p answer ≡ full → IsLasting s more → item ≡ item_count p → IsFit s (Brought item back answer ∷ p) (after_brought full item more)
fit_room s p item back answer true more is l next = (λ a. (omega (arith, next), (refl, is)), l)
fit_room s p item back answer false more is l next = fit_lasting s (Brought item back answer ∷ p) more l

fit_fault : (s : Start) (p : List Entry) (item : ℕ) (shut : Bool) (watcher : Watcher) (fault : Option NotifyFault) (more : Agenda) → closed p ≡ shut → IsLasting s more → IsFit s (Heard item ∷ p) (after_fault shut watcher fault more)
fit_fault s p item shut watcher None more is l = fit_lasting s (Heard item ∷ p) more l
fit_fault s p item true watcher (Some fault) more is l = fit_lasting s (Heard item ∷ p) more l
fit_fault s p item false watcher (Some fault) more is l = (λ a. is, l)

-- after what a point brought, or a step, where this stands behind it
fit_brought : (s : Start) (p : List Entry) (e : Entry) (more : Agenda) → IsBrought s p e → IsLasting s more → NamesItsOwn p → IsPlaced p → IsFit s (e ∷ p) (follow s e p more)
fit_brought s p (Turned t) more b l own placed = absurd b
fit_brought s p (TurnFault code) more b l own placed = absurd b
fit_brought s p (Take name) more b l own placed = fit_take s p name (passes_unseen name p) (is_urgent_named name p || is_over s (Take name ∷ p) (moment p)) more refl (below_taken p name b.0 own) b.1 l
fit_brought s p (Filter n name answer) more b l own placed = fit_filter s p n name answer (lets_pass answer) (is_urgent_named name p || is_over s (Filter n name answer ∷ p) (moment p)) more refl b.2 l
fit_brought s p (Show n error wish) more b l own placed = fit_show s (Show n error wish ∷ p) (ending error wish) more l
fit_brought s p (Hand n names acts) more b l own placed = fit_hand s p n names acts b.1 (placed_silent (Hand n names acts) p tt placed)
fit_brought s p (Applied named) more b l own placed = fit_applied s (Applied named ∷ p) (is_to_make (settings s p) (source s p)) more l
fit_brought s p (Make back watcher links answer) more b l own placed = fit_make s (Make back watcher links answer ∷ p) answer more l
fit_brought s p (Brought item back answer) more b l own placed = fit_room s p item back answer (finds_full s p answer) more refl l b.0.next
fit_brought s p (Heard item) more b l own placed = fit_fault s p item (closed p) (applied s p).file_watcher (item_fault (item_named item (source s p).lane)) more refl l
fit_brought s p (e) more b l own placed = fit_lasting s (e ∷ p) more l

-- after a turn
fit_turned : (s : Start) (p : List Entry) (e : Entry) → IsTurn e → NamesItsOwn p → IsPlaced p → IsSourced s p → IsFit s (e ∷ p) (follow s e p Open)
fit_turned s p (Turned t) i own placed x = fit_turn s (Turned t ∷ p) t.kind t.at refl (tt, own) (placed_silent (Turned t) p tt placed) (sourced_other s (Turned t) p refl x)
fit_turned s p (TurnFault code) i own placed x = tt
fit_turned s p (_) i own placed x = absurd i

-- an entry of a plan leaves what stands behind it
pub follow_plan : (s : Start) (p : List Entry) (e : Entry) (more : Agenda) → IsOfPlan e → follow s e p more ≡ more
follow_plan s p (Turned t) more o = absurd o
follow_plan s p (TurnFault code) more o = absurd o
follow_plan s p (Take name) more o = absurd o
follow_plan s p (Filter n name answer) more o = absurd o
follow_plan s p (Show n error wish) more o = absurd o
follow_plan s p (Hand n names acts) more o = absurd o
follow_plan s p (Applied named) more o = absurd o
follow_plan s p (Make back watcher links answer) more o = absurd o
follow_plan s p (Brought item back answer) more o = absurd o
follow_plan s p (Heard item) more o = absurd o
follow_plan s p (_) more o = refl

-- after any entry that is admitted
fit_follow : (s : Start) (p : List Entry) (k : Agenda) (e : Entry) → Admits s p k e → IsFit s p k → NamesItsOwn p → IsPlaced p → IsSourced s p → IsFit s (e ∷ p) (follow s e p (rest e k))
fit_follow s p Open e d f own placed h = fit_turned s p e d own placed h
fit_follow s p (Comes x more) e d f own placed h = fit_brought s p e (stays x e more) (brought s p x more e d f) (lasting_stays s x e more f.1) own placed
fit_follow s p (Steps untouched more) e d f own placed h = fit_brought s p e (rest e (Steps untouched more)) (came s p untouched more e d f) (lasting_step s e more f.1) own placed
fit_follow s p (Plans k more) e d f own placed h =
    subst (IsFit s (e ∷ p)) (sym (follow_plan s p e (plans (next k e) more) (lawful_now p k e d f.0).of_plan)) (fit_plans s (e ∷ p) (next k e) more (lawful_next p k e d f.0) f.1 (always_next (Revises s) p k e d f.2))
fit_follow s p Ends e d f own placed h = subst (IsFit s (e ∷ p)) (sym (follow_plan s p e Ends (end_is_plan e (of_end p e d)))) tt
fit_follow s p Breaks e d f own placed h = absurd d

-- ---- no child runs whose job is gone

free_by_drop : (p : List Entry) (id : Id) (b : Bool) (running : Option ℕ) (e : Entry) → child id p ≡ running → PlanAdmits p (cond b (drop_plan running (adds (Gone id) Done)) Done) e → IsFree p e
free_by_drop p id true None e is d = subst (IsFree p) (sym d.1) is
free_by_drop p id true (Some c) e is d = subst (IsFree p) (sym d.1) (id, is)
free_by_drop p id false running e is d = absurd d

free_by_end : (p : List Entry) (ids : List Id) (e : Entry) → PlanAdmits p (first_end ids p) e → IsFree p e
free_by_end p [] e d = absurd d
free_by_end p (id ∷ ids) e d = free_by_drop p id (lives id p) (child id p) e refl d

pub free_end : (p : List Entry) (e : Entry) → PlanAdmits p (end p) e → IsFree p e
free_end p e d = free_by_end p (jobs p) e d

-- what is known of every entry that may come
record IsNext (s : Start) (p : List Entry) (e : Entry) : Type 0 where
  names : Names p e
  in_order : InOrder p e
  free : IsFree p e
  placed : IsPlaced p → IsPlaced (e ∷ p)
  sourced : IsSourced s p → IsSourced s (e ∷ p)

-- what is known of one that is of no job
silent : (s : Start) (p : List Entry) (e : Entry) → IsSilent e → Names p e → InOrder p e → IsFree p e → (IsSourced s p → IsSourced s (e ∷ p)) → IsNext s p e
silent s p e silence names in_order free sourced = record { names = names; in_order = in_order; free = free; placed = placed_silent e p silence; sourced = sourced }

next_turn : (s : Start) (p : List Entry) (e : Entry) → IsTurn e → IsNext s p e
next_turn s p (Turned t) i = silent s p (Turned t) tt tt tt tt (sourced_other s (Turned t) p refl)
next_turn s p (TurnFault code) i = silent s p (TurnFault code) tt tt tt tt (sourced_other s (TurnFault code) p refl)
next_turn s p (_) i = absurd i

next_brought : (s : Start) (p : List Entry) (e : Entry) → IsBrought s p e → NamesItsOwn p → IsNext s p e
next_brought s p (Begin beginning) b own = silent s p (Begin beginning) tt tt tt tt (sourced_brought s (Begin beginning) p b)
next_brought s p (Sent name event priority) b own = silent s p (Sent name event priority) tt b tt tt (sourced_brought s (Sent name event priority) p b)
next_brought s p (Offer name item result event priority) b own = silent s p (Offer name item result event priority) tt (b.0, b.1.0) tt tt (sourced_brought s (Offer name item result event priority) p b)
next_brought s p (Said word) b own = silent s p (Said word) tt tt tt tt (sourced_brought s (Said word) p b)
next_brought s p (Take name) b own = silent s p (Take name) tt (below_taken p name b.0 own) tt tt (sourced_brought s (Take name) p b)
next_brought s p (Filter n name answer) b own = silent s p (Filter n name answer) tt b.0 tt tt (sourced_brought s (Filter n name answer) p b)
next_brought s p (Show n error wish) b own = silent s p (Show n error wish) tt tt tt tt (sourced_brought s (Show n error wish) p b)
next_brought s p (Hand n names acts) b own = silent s p (Hand n names acts) tt (subst (AllByRecursion (λ name. name < event_count p)) (sym b.0) (window_below p own)) tt tt (sourced_brought s (Hand n names acts) p b)
next_brought s p (Dir n path answer) b own = silent s p (Dir n path answer) tt tt tt tt (sourced_brought s (Dir n path answer) p b)
next_brought s p (Make back watcher links answer) b own = silent s p (Make back watcher links answer) tt b.0 tt tt (sourced_brought s (Make back watcher links answer) p b)
next_brought s p (Applied named) b own = silent s p (Applied named) tt tt tt tt (sourced_brought s (Applied named) p b)
next_brought s p (Brought item back answer) b own = silent s p (Brought item back answer) tt (b.0.next, b.1) tt tt (sourced_brought s (Brought item back answer) p b)
next_brought s p (LetGo item cause) b own = silent s p (LetGo item cause) tt b.0 tt tt (sourced_brought s (LetGo item cause) p b)
next_brought s p (Heard item) b own = silent s p (Heard item) tt b.0 tt tt (sourced_brought s (Heard item) p b)
next_brought s p (Ready named) b own = silent s p (Ready named) tt tt tt tt (sourced_brought s (Ready named) p b)
next_brought s p (_) b own = absurd b

next_is : (s : Start) (p : List Entry) (k : Agenda) (e : Entry) → Admits s p k e → IsFit s p k → NamesItsOwn p → IsNext s p e
next_is s p Open e d f own = next_turn s p e d
next_is s p (Comes x more) e d f own = next_brought s p e (brought s p x more e d f) own
next_is s p (Steps untouched more) e d f own = next_brought s p e (came s p untouched more e d f) own
next_is s p (Plans k more) e d f own = let h = lawful_now p k e d f.0 in record { names = h.names; in_order = h.in_order; free = h.free; placed = λ _. placed_now p k e d f.0; sourced = sourced_other s e p (planned_none e h.of_plan) }
next_is s p Ends e d f own = record { names = names_end p e own d; in_order = end_in_order e p (of_end p e d); free = free_end p e d; placed = end_placed e p (of_end p e d); sourced = sourced_other s e p (planned_none e (end_is_plan e (of_end p e d))) }
next_is s p Breaks e d f own = absurd d

pub free : (s : Start) (p : List Entry) (k : Agenda) (e : Entry) → Admits s p k e → IsFit s p k → NamesItsOwn p → IsFree p e
free s p k e d f own = (next_is s p k e d f own).free

gone_made : (b l : Bool) (running : Option ℕ) → (b || l) ≡ false → (l ≡ false → running ≡ None) → cond b None running ≡ None
gone_made true l running e h = refl
gone_made false l running e h = h e

gone_spawn : (p : List Entry) (c : ℕ) (job id : Id) (b : Bool) → same job id ≡ b → lives job p ≡ true → lives id p ≡ false → child id p ≡ None → cond b (Some c) (child id p) ≡ None
gone_spawn p c job id true is alive dead idle =
    let its : lives id p ≡ true = subst (λ j. lives j p ≡ true) (same-is job id is) alive in
    let both : true ≡ false = sym its ∙ dead in absurd cc
gone_spawn p c job id false is alive dead idle = idle

pub gone_gone : (p : List Entry) (job id : Id) (b : Bool) → same job id ≡ b → (not b && lives id p) ≡ false → child job p ≡ None → (lives id p ≡ false → child id p ≡ None) → child id p ≡ None
gone_gone p job id true is e idle h = subst (λ j. child j p ≡ None) (same-is job id is) idle
gone_gone p job id false is e idle h = h e

none_left : (over running : Option ℕ) → running ≡ None → still_running over running ≡ None
none_left None running none = none
none_left (Some c) running none = ap (unless c) none

-- an entry that may come leaves a child of no job that doesn't live
idle_more : (p : List Entry) (e : Entry) → IsFree p e → GoneRunNone p → GoneRunNone (e ∷ p)
idle_more p (Made job) f h id e = gone_made (same job id) (lives id p) (child id p) e (h id)
idle_more p (Spawn c job tag what (Ok done)) f h id e = gone_spawn p c job id (same job id) refl f.0 e (h id e)
idle_more p (Gone job) f h id e = gone_gone p job id (same job id) refl e f (h id)
idle_more p (e) f h id is = none_left (ended_child e) (child id p) (h id is)

-- ---- whether the end was asked for

-- a turn comes only where the run isn't to end
going_turned : (s : Start) (p : List Entry) (e : Entry) → IsTurn e → is_quitting p ≡ false → IsGoing (e ∷ p) (settle (e ∷ p) (follow s e p Open))
going_turned s p (Turned t) i g = going_calm (Turned t ∷ p) _ (or_parts (is_aborting p) _ g).1
going_turned s p (TurnFault code) i g = tt
going_turned s p (_) i g = absurd i

going_brought : (s : Start) (p : List Entry) (e : Entry) (more : Agenda) → IsBrought s p e → is_quitting p ≡ false → IsGoing (e ∷ p) (settle (e ∷ p) (follow s e p more))
going_brought s p (Turned t) more b g = absurd b
going_brought s p (Hand n names acts) more b g = going_plans (Hand n names acts ∷ p) (act_plan (λ id. lives id p) (revision s p) (with_quit_asks p acts)) Open tt
going_brought s p (Made id) more b g = absurd b
going_brought s p (Gone id) more b g = absurd b
going_brought s p (e) more b g = going_calm (e ∷ p) (settle (e ∷ p) (follow s e p more)) g

going_more : (s : Start) (p : List Entry) (k : Agenda) (e : Entry) → Admits s p k e → IsFit s p k → IsGoing p k → IsGoing (e ∷ p) (settle (e ∷ p) (follow s e p (rest e k)))
going_more s p Open e d f g = going_turned s p e d g
going_more s p (Comes x more) e d f g = going_brought s p e (stays x e more) (brought s p x more e d f) g
going_more s p (Steps untouched more) e d f g = going_brought s p e (rest e (Steps untouched more)) (came s p untouched more e d f) g
going_more s p (Plans k more) e d f g = subst (λ (j : Agenda). IsGoing (e ∷ p) (settle (e ∷ p) j)) (sym (follow_plan s p e (plans (next k e) more) (lawful_now p k e d f.0).of_plan)) (going_plans (e ∷ p) (next k e) more f.1)
going_more s p Ends e d f g = subst (λ (j : Agenda). IsGoing (e ∷ p) (settle (e ∷ p) j)) (sym (follow_plan s p e Ends (end_is_plan e (of_end p e d)))) tt
going_more s p Breaks e d f g = absurd d

-- a turn comes only where nothing is owed
pub open_at_turn : (s : Start) (p : List Entry) (k : Agenda) (e : Entry) → IsTurn e → Admits s p k e → IsFit s p k → k ≡ Open
open_at_turn s p Open e i d f = refl
open_at_turn s p (Comes x more) e i d f = absurd (no_turn s p e (brought s p x more e d f) i)
open_at_turn s p (Steps untouched more) e i d f = absurd (no_turn s p e (came s p untouched more e d f) i)
open_at_turn s p (Plans k more) e i d f = absurd (no_plan_turns e (lawful_now p k e d f.0).of_plan i)
open_at_turn s p Ends e i d f = absurd (no_plan_turns e (end_is_plan e (of_end p e d)) i)
open_at_turn s p Breaks e i d f = absurd d

-- ---- a journal is orderly, and stays so

pub orderly_none : (s : Start) → IsOrderly s []
orderly_none s = record { own = tt; in_order = tt; idle = λ id e. refl; placed = placed_none; sourced = sourced_none s; fit = (λ a. tt, lasting_sends s s.events); going = refl }

pub orderly_turn : (s : Start) (t : Turn) (p : List Entry) → agenda s p ≡ Open → IsOrderly s p → IsOrderly s (Turned t ∷ p)
orderly_turn s t p open_is h =
    let placed = placed_silent (Turned t) p tt h.placed in
    let sourced = sourced_other s (Turned t) p refl h.sourced in record {
      own = (tt, h.own);
      in_order = (tt, h.in_order);
      idle = h.idle;
      placed = placed;
      sourced = sourced;
      fit = fit_settle s (Turned t ∷ p) (turn_agenda s t.kind t.at (Turned t ∷ p)) (fit_turn s (Turned t ∷ p) t.kind t.at refl (tt, h.own) placed sourced);
      going = going_turned s p (Turned t) tt (subst (IsGoing p) open_is h.going);
    }

pub orderly_more : (s : Start) (e : Entry) (p : List Entry) → Due s p e → IsOrderly s p → IsOrderly s (e ∷ p)
orderly_more s e p d h =
    let n = next_is s p (agenda s p) e d h.fit h.own in record {
      own = (n.names, h.own);
      in_order = (n.in_order, h.in_order);
      idle = idle_more p e n.free h.idle;
      placed = n.placed h.placed;
      sourced = n.sourced h.sourced;
      fit = fit_settle s (e ∷ p) (follow s e p (rest e (agenda s p))) (fit_follow s p (agenda s p) e d h.fit h.own h.placed h.sourced);
      going = going_more s p (agenda s p) e d h.fit h.going;
    }

-- so is every run
pub orderly : (s : Start) (p : List Entry) → IsRun s p → IsOrderly s p
orderly s [] r = orderly_none s
orderly s (e ∷ p) r = orderly_more s e p r.0 (orderly s p r.1)

-- a batch that may come is the window, which isn't empty, and asks only for jobs that aren't there
pub hand_is : (s : Start) (p : List Entry) (n : ℕ) (names : List ℕ) (acts : List Act) → IsOrderly s p → Due s p (Hand n names acts) → (names ≡ window p) × AreLawful p acts × (0 < length (window p))
hand_is s p n names acts o d = admitted s p (agenda s p) (Hand n names acts) (λ i. i) (λ i. i) d o.fit
