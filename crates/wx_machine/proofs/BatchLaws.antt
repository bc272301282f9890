-- What every run hands and shows, proved: batches, urgent events, what is served and revised, and runs that lead on.
use Rattle.std.proofs.Common.{◌≡◌, ℕ, ◌+◌, ◌<◌, Bool, true, false, cond, List, [], ◌∷◌, ◌++◌, length, Ok, arith, refl, ap, sym, subst, ◌∙◌, append_assoc, ne_eqb}
use Rattle.std.specs.Prelude.{Option, None, Some, Result, Ok, Err, ◌==◌, ◌||◌}
use Rattle.std.specs.List.{AllByRecursion}
use Rattle.std.proofs.lemmas.List.{append-nil}
use Rattle.wx_words.specs.EachLaws.{each_append}
use Rattle.wx_events.specs.declared.event.Event.{Event}
use Rattle.wx_events.specs.declared.priority.Priority.{Priority}
use Rattle.wx_command.specs.declared.command.Command.{Command}
use Rattle.wx_config.specs.Changes.{last_revision}
use Rattle.wx_watch.specs.declared.notify_fault.NotifyFault.{NotifyFault}
use Rattle.wx_watch.specs.declared.watched.Watcher.{Watcher}
use Rattle.wx_error.specs.declared.runtime.RuntimeError.{RuntimeError}
use Rattle.wx_error.specs.declared.runtime.RuntimeError.TheVariants.{Exit}
use Rattle.wx_error.specs.declared.error.CriticalError.{CriticalError}
use Rattle.wx_control.specs.declared.id.Id.{Id}
use Rattle.wx_control.specs.Asks.{sends_of}
use Rattle.wx_journal.specs.declared.entry.Entry.{Entry}
use Rattle.wx_journal.specs.declared.entry.Entry.TheVariants.{Sent, Turn as Turned, TurnFault, Offer, Take, Filter, Show, Hand, Changed, Make, Applied, Heard, Brought}
use Rattle.wx_journal.specs.Acts.{JournalAct as Act}
use Rattle.wx_journal.specs.declared.entry.TurnKind.{TurnKind}
use Rattle.wx_journal.specs.declared.entry.TurnKind.TheVariants.{Arrive, Signal, Keys, Work, Job, Ended, Ask, Change, Listen, File, Last}
use Rattle.wx_journal.specs.declared.entry.Word.TheVariants.{Idle, Ignored, Quitting}
use Rattle.wx_journal.specs.Names.{moment, event_count, item_count, NamesItsOwn}
use Rattle.wx_journal.specs.Told.{is_hand}
use Rattle.wx_machine.specs.History.{lives}
use Rattle.wx_machine.specs.Table.{Plan, Done, step_plan, ask_plan}
use Rattle.wx_machine.specs.Case.{next}
use Rattle.wx_machine.proofs.Owners.{either}
use Rattle.wx_machine.specs.Start.{Start}
use Rattle.wx_machine.specs.Keyboard.{hears_keys}
use Rattle.wx_keys.specs.Keys.{hears_signal, key_events}
use Rattle.wx_machine.specs.Jobs.{living, parent, change_plan, act_plan, with_quit_asks}
use Rattle.wx_machine.specs.Quits.{graceful}
use Rattle.wx_machine.specs.Settings.{settings, revision, change_count}
use Rattle.wx_machine.specs.Journal.{listed, passes_unseen, lets_pass, closed, ending, named, bag, one_if, and_one, passed, window, batches, is_over, is_urgent_named, is_urgent_in}
use Rattle.wx_machine.specs.Files.{source, applied, is_applied, is_to_make, finds_full, item_fault, item_named}
use Rattle.wx_machine.specs.Due.{Takes, Filters, Hands, Applies, Makes, Listens, Step, Judges, Errs, Remakes, Finishes, Rests, step_entry, Agenda, Open, Comes, Steps, Plans, Ends, Breaks, Admits, plans, says, stays, goes_on, rest, job_turn, ended_turn, work_going, watch_turn, file_turn, listen_turn, rest_entry, turn_agenda, after_pass, after_drop, after_show, after_make, after_brought, after_fault, follow, is_quitting, settle, agenda, Due, IsRun, keys_open, before}
use Rattle.wx_machine.specs.Leads.{Leads, Here, Then, Follows}
use Rattle.wx_machine.proofs.Orderly.{IsQuiet, IsLasting, IsFit, IsOrderly}
use Rattle.wx_machine.proofs.RestLaws.{IsListened, listened_is, rest_hands, rest_is}
use Rattle.wx_machine.proofs.PlanLaws.{lawful_now, of_end}
use Rattle.wx_machine.proofs.Always.{always_now}
use Rattle.wx_machine.proofs.Lawful.{Revises}
use Rattle.wx_machine.specs.Last.{last_is, last_added}
use Rattle.wx_machine.specs.RunLaws.{joined, IsBatched, NoneUrgent, UrgentLast, urgent_in, IsBatch, AreBatches, NoneUrgentWaits, NoneUnseenIsShown, NoneIsShownClosed, AreServed, AreRevised}
use Rattle.wx_machine.proofs.RunLaws.{admitted, brought, came, hand_is, joined_if, lasting_stays, open_at_turn, orderly, some-append, window_below, window_handed, window_some}

-- ---- the passed events are the batches and then the window

joined-append : (xs : List (List ℕ)) (names : List ℕ) → joined (xs ++ names ∷ []) ≡ joined xs ++ names
joined-append [] names = append-nil names
joined-append (x ∷ xs) names = ap (λ (t : List ℕ). x ++ t) (joined-append xs names) ∙ sym (append_assoc x (joined xs) names)

-- one that joins is passed, and waits in the window
batched_if : (p : List Entry) (joins : Bool) (name : ℕ) → IsBatched p → and_one (passed p) (one_if joins name) ≡ joined (batches p) ++ and_one (window p) (one_if joins name)
batched_if p true name h = ap (λ (names : List ℕ). names ++ name ∷ []) h ∙ append_assoc (joined (batches p)) (window p) (name ∷ [])
batched_if p false name h = h

pub run_is_batched : (s : Start) (p : List Entry) → IsRun s p → IsBatched p
run_is_batched s [] r = refl
run_is_batched s (Take name ∷ p) r = batched_if p (passes_unseen name p) name (run_is_batched s p r.1)
run_is_batched s (Filter n name answer ∷ p) r = batched_if p (lets_pass answer) name (run_is_batched s p r.1)
run_is_batched s (Hand n names acts ∷ p) r =
    let d = hand_is s p n names acts (orderly s p r.1) r.0 in
    run_is_batched s p r.1 ∙ ap (λ (t : List ℕ). joined (batches p) ++ t) (sym d.0) ∙ sym (joined-append (batches p) names) ∙ sym (append-nil (joined (batches p ++ names ∷ [])))
    ∙ ap (λ (t : List ℕ). joined (batches p ++ names ∷ []) ++ t) (sym (window_handed n names acts p d.0))
run_is_batched s (_ ∷ p) r = run_is_batched s p r.1

-- ---- urgent events

-- an event that is listed under a new name leaves which of the events below are urgent
calm-rise : (m : ℕ) (v : Option (Event × Priority)) (p : List Entry) (names : List ℕ) → AllByRecursion (λ name. name < m) names → NoneUrgent (urgent_in p) names → NoneUrgent (λ name. is_urgent_in (cond (m == name) v (listed name p))) names
calm-rise m v p [] b h = tt
calm-rise m v p (name ∷ names) b h = (
  ap (λ (t : Bool). is_urgent_in (cond t v (listed name p))) (ne_eqb m name (λ e. absurd (omega (arith, b.0)))) ∙ h.0,
  calm-rise m v p names b.1 h.1,
)

last-calm : (urgent : ℕ → Bool) (names : List ℕ) → NoneUrgent urgent names → UrgentLast urgent names
last-calm urgent [] h = tt
last-calm urgent (name ∷ []) h = tt
last-calm urgent (name ∷ next ∷ names) h = (h.0, last-calm urgent (next ∷ names) h.1)

urgent-append : (urgent : ℕ → Bool) (names : List ℕ) (name : ℕ) → NoneUrgent urgent names → UrgentLast urgent (names ++ name ∷ [])
urgent-append urgent [] name h = tt
urgent-append urgent (x ∷ []) name h = (h.0, tt)
urgent-append urgent (x ∷ y ∷ names) name h = (h.0, urgent-append urgent (y ∷ names) name h.1)

-- a window is to be handed
abbrev pub is_to_hand : Agenda → Bool
is_to_hand (Comes Hands more) = true
is_to_hand (_) = false

-- where the window is to be handed it is a batch, and else no urgent event waits in it
abbrev Waits : Start → List Entry → Agenda → Type 0
Waits s p (Comes Hands more) = IsBatch s p (window p)
Waits s p (_) = NoneUrgentWaits p

waits_quiet : (s : Start) (p : List Entry) (more : Agenda) → IsQuiet more → NoneUrgentWaits p → Waits s p more
waits_quiet s p Open q h = h
waits_quiet s p Ends q h = h
waits_quiet s p (_) q h = absurd q

-- a hand doesn't last, since a window may be empty
waits_lasting : (s : Start) (p : List Entry) (more : Agenda) → IsLasting s more → NoneUrgentWaits p → Waits s p more
waits_lasting s p (Comes Hands more) l h = let some : 0 < 0 = (l.0 [] ([], tt, λ none. absurd (omega arith))).2 in absurd (omega arith)
waits_lasting s p (_) l h = h

waits_plans : (s : Start) (p : List Entry) (k : Plan) (more : Agenda) → IsQuiet more → NoneUrgentWaits p → Waits s p (plans k more)
waits_plans s p Done more q h = waits_quiet s p more q h
waits_plans s p (k) more q h = h

waits_settle : (s : Start) (p : List Entry) (k : Agenda) → Waits s p k → Waits s p (settle p k)
waits_settle s p Open h = either (Waits s p) (is_quitting p) Ends Open h h
waits_settle s p (k) h = h

-- no urgent event waits where something else than a batch is owed
calm : (s : Start) (p : List Entry) (k : Agenda) → Waits s p k → is_to_hand k ≡ false → NoneUrgentWaits p
calm s p (Comes Hands more) h other = absurd cc
calm s p (_) h other = h

-- an agenda that admits an entry that hands no batch owes none
no_batch : (s : Start) (p : List Entry) (k : Agenda) (e : Entry) → is_hand e ≡ false → Admits s p k e → is_to_hand k ≡ false
no_batch s p (Comes Hands more) e other d = let both : true ≡ false = sym (ap is_hand d.1) ∙ other in absurd cc
no_batch s p (_) e other d = refl

-- no step hands one
no_hand_step : (s : Start) (p : List Entry) (untouched : Bool) (a : Step s p untouched) (n : ℕ) (names : List ℕ) (acts : List Act) → Hand n names acts ≡ step_entry s p untouched a → ⊥
no_hand_step s p untouched (Judges path below answer) n names acts e = cc
no_hand_step s p untouched (Errs error wish is_open) n names acts e = cc
no_hand_step s p untouched (Remakes answer) n names acts e = cc
no_hand_step s p untouched Finishes n names acts e = cc
no_hand_step s p untouched (Rests is_untouched) n names acts e = let both : true ≡ false = ap is_hand e ∙ rest_hands (rest_entry s p) (rest_is s p) in cc

-- one that admits a batch owes it
batch_at : (s : Start) (p : List Entry) (k : Agenda) (n : ℕ) (names : List ℕ) (acts : List Act) → Admits s p k (Hand n names acts) → IsFit s p k → Waits s p k → IsBatch s p (window p)
batch_at s p Open n names acts d f w = absurd d
batch_at s p (Comes Hands more) n names acts d f w = w
batch_at s p (Comes (Listens back) more) n names acts d f w = absurd (subst IsListened (sym d.1) (listened_is (item_count p) back d.0))
batch_at s p (Comes x more) n names acts d f w = let h = d.1 in absurd cc
batch_at s p (Steps untouched more) n names acts d f w = absurd (no_hand_step s p untouched d.0 n names acts d.1)
batch_at s p (Plans k more) n names acts d f w = absurd (lawful_now p k (Hand n names acts) d f.0).of_plan
batch_at s p Ends n names acts d f w = absurd (of_end p (Hand n names acts) d)
batch_at s p Breaks n names acts d f w = absurd d

-- what stands behind an entry
waits_rest : (s : Start) (p p' : List Entry) (k : Agenda) (e : Entry) → IsFit s p k → NoneUrgentWaits p' → Waits s p' (rest e k)
waits_rest s p p' (Comes x more) e f h = waits_lasting s p' (stays x e more) (lasting_stays s x e more f.1) h
waits_rest s p p' (Steps untouched more) e f h = either (Waits s p') (goes_on e) (Steps false more) more h (waits_lasting s p' more f.1 h)
waits_rest s p p' (Plans k more) e f h = waits_plans s p' (next k e) more f.1 h
waits_rest s p p' (_) e f h = h

waits_work : (s : Start) (p : List Entry) (at : ℕ) (shut over empty : Bool) → moment p ≡ at → is_over s p at ≡ over → NoneUrgentWaits p → Waits s p (cond shut Ends (cond over (Comes Hands Open) (cond empty (says Idle) (Comes Takes Open))))
waits_work s p at true over empty now e h = h
waits_work s p at false true empty now e h = record {
  some = window_some (window p) _ e;
  urgent_last = last-calm (urgent_in p) (window p) h;
  in_time = λ _. rw now e;
}
waits_work s p at false false true now e h = h
waits_work s p at false false false now e h = h

waits_keys : (s : Start) (p : List Entry) (events : List Event) → NoneUrgentWaits p → Waits s p (keys_open events)
waits_keys s p [] h = h
waits_keys s p (event ∷ events) h = h

waits_job : (s : Start) (p : List Entry) (id : Id) (command : Option Command) → NoneUrgentWaits p → Waits s p (job_turn id command p)
waits_job s p id None h = h
waits_job s p id (Some command) h = waits_plans s p (step_plan id command p) Open tt h

waits_ended : (s : Start) (p : List Entry) (id : Option Id) → NoneUrgentWaits p → Waits s p (ended_turn id p)
waits_ended s p None h = h
waits_ended s p (Some id) h = waits_job s p id (living id p) h

waits_watch : (s : Start) (p : List Entry) (current : Option ℕ) → NoneUrgentWaits p → Waits s p (watch_turn current)
waits_watch s p None h = h
waits_watch s p (Some back) h = h

pub waits_file : (s : Start) (p : List Entry) → NoneUrgentWaits p → Waits s p (file_turn (settings s p) (source s p))
waits_file s p h = either (Waits s p) (is_applied (settings s p) (source s p).applied) (watch_turn (source s p).current) (Comes Applies Open) (waits_watch s p (source s p).current h) h

waits_listen : (s : Start) (p : List Entry) (current : Option ℕ) → NoneUrgentWaits p → Waits s p (listen_turn current)
waits_listen s p None h = h
waits_listen s p (Some back) h = h

waits_turn : (s : Start) (p : List Entry) (kind : TurnKind) (at : ℕ) → moment p ≡ at → NoneUrgentWaits p → Waits s p (turn_agenda s kind at p)
waits_turn s p (Arrive event priority) at now h = h
waits_turn s p (Signal signal) at now h = either (Waits s p) (hears_signal (settings s p).signal_job_control signal) _ (says Ignored) h h
waits_turn s p (Keys bytes) at now h = either (Waits s p) (hears_keys s (before p)) (keys_open (key_events bytes)) (says Ignored) (waits_keys s p (key_events bytes) h) h
waits_turn s p Work at now h = either (Waits s p) (graceful p) (says Quitting) (work_going s p at) h (waits_work s p at (closed p) (is_over s p at) (length (bag p) == 0) now refl h)
waits_turn s p (Job id) at now h = waits_job s p id (living id p) h
waits_turn s p (Ended c) at now h = waits_ended s p (parent c p) h
waits_turn s p (Ask id ask) at now h = either (Waits s p) (lives id p) _ _ (waits_plans s p (ask_plan id (sends_of ask) Done) Open tt h) h
waits_turn s p (Change change) at now h = either (Waits s p) (revision s p == last_revision) (says Ignored) (plans (change_plan (revision s p) Done) Open) h h
waits_turn s p File at now h = waits_file s p h
waits_turn s p Listen at now h = waits_listen s p (source s p).current h
waits_turn s p Last at now h = h

-- an event that passed is a batch with the window, or waits there and isn't urgent
waits_pass : (s : Start) (p p' : List Entry) (name : ℕ) (urgent over : Bool) (more : Agenda) → window p' ≡ window p ++ name ∷ [] → urgent_in p' ≡ urgent_in p → is_urgent_named name p ≡ urgent → is_over s p' (moment p') ≡ over → (NoneUrgentWaits p' → Waits s p' more) → NoneUrgentWaits p → Waits s p' (cond (urgent || over) (Comes Hands more) more)
waits_pass s p p' name true over more is same_urgent u o then h = record {
  some = rw is (some-append (window p) name);
  urgent_last = subst (λ (f : ℕ → Bool). UrgentLast f (window p')) (sym same_urgent) (rw is (urgent-append (urgent_in p) (window p) name h));
  in_time = λ calm_last. (
      let other : last_is (urgent_in p') (window p') ≡ true = subst (λ (f : ℕ → Bool). last_is f (window p') ≡ true) (sym same_urgent) (rw is (last_added (urgent_in p) (window p) name ∙ u)) in
      let both : true ≡ false = sym other ∙ calm_last in absurd cc
      );
}
waits_pass s p p' name false true more is same_urgent u o then h = record {
  some = rw is (some-append (window p) name);
  urgent_last = subst (λ (f : ℕ → Bool). UrgentLast f (window p')) (sym same_urgent) (rw is (urgent-append (urgent_in p) (window p) name h));
  in_time = λ calm_last. o;
}
waits_pass s p p' name false false more is same_urgent u o then h = then (subst (λ (f : ℕ → Bool). NoneUrgent f (window p')) (sym same_urgent) (rw is (each_append (λ m. urgent_in p m ≡ false) (window p) (name ∷ []) h (u, tt))))

-- the window without an event that doesn't join it
stays_if : (p : List Entry) (name : ℕ) (joins : Bool) → joins ≡ false → NoneUrgentWaits p → NoneUrgent (urgent_in p) (and_one (window p) (one_if joins name))
stays_if p name joins is h = subst (NoneUrgent (urgent_in p)) (ap (λ (b : Bool). and_one (window p) (one_if b name)) (sym is)) h

waits_take : (s : Start) (p : List Entry) (name : ℕ) (unseen : Bool) (more : Agenda) → passes_unseen name p ≡ unseen → (NoneUrgentWaits (Take name ∷ p) → Waits s (Take name ∷ p) more) → NoneUrgentWaits p → Waits s (Take name ∷ p) (cond unseen (after_pass s name (Take name ∷ p) more) (Comes (Filters name) more))
waits_take s p name true more is then h = waits_pass s p (Take name ∷ p) name (is_urgent_named name p) (is_over s (Take name ∷ p) (moment p)) more (joined_if p name (passes_unseen name p) is) refl refl refl then h
waits_take s p name false more is then h = stays_if p name (passes_unseen name p) is h

waits_drop : (s : Start) (p : List Entry) (answer : Result Bool RuntimeError) (more : Agenda) → (NoneUrgentWaits p → Waits s p more) → NoneUrgentWaits p → Waits s p (after_drop answer more)
waits_drop s p (Ok passes) more then h = then h
waits_drop s p (Err Exit) more then h = then h
waits_drop s p (Err error) more then h = h

waits_show : (s : Start) (p : List Entry) (o : Option CriticalError) (more : Agenda) → (NoneUrgentWaits p → Waits s p more) → NoneUrgentWaits p → Waits s p (after_show o more)
waits_show s p None more then h = then h
waits_show s p (Some error) more then h = h

waits_applied : (s : Start) (p : List Entry) (makes : Bool) (more : Agenda) → (NoneUrgentWaits p → Waits s p more) → NoneUrgentWaits p → Waits s p (cond makes (Comes Makes more) more)
waits_applied s p true more then h = h
waits_applied s p false more then h = then h

waits_make : (s : Start) (p : List Entry) (answer : Result (Unit {0}) NotifyFault) (more : Agenda) → (NoneUrgentWaits p → Waits s p more) → NoneUrgentWaits p → Waits s p (after_make answer more)
waits_make s p (Ok done) more then h = then h
waits_make s p (Err fault) more then h = h

waits_brought : (s : Start) (p : List Entry) (full : Bool) (item : ℕ) (more : Agenda) → (NoneUrgentWaits p → Waits s p more) → NoneUrgentWaits p → Waits s p (after_brought full item more)
waits_brought s p true item more then h = h
waits_brought s p false item more then h = then h

waits_heard : (s : Start) (p : List Entry) (shut : Bool) (watcher : Watcher) (fault : Option NotifyFault) (more : Agenda) → (NoneUrgentWaits p → Waits s p more) → NoneUrgentWaits p → Waits s p (after_fault shut watcher fault more)
waits_heard s p shut watcher None more then h = then h
waits_heard s p true watcher (Some fault) more then h = then h
waits_heard s p false watcher (Some fault) more then h = h

waits_filter : (s : Start) (p : List Entry) (n name : ℕ) (answer : Result Bool RuntimeError) (passes : Bool) (more : Agenda) → lets_pass answer ≡ passes → (NoneUrgentWaits (Filter n name answer ∷ p) → Waits s (Filter n name answer ∷ p) more) → NoneUrgentWaits p → Waits s (Filter n name answer ∷ p) (cond passes (after_pass s name (Filter n name answer ∷ p) more) (after_drop answer more))
waits_filter s p n name answer true more is then h = waits_pass s p (Filter n name answer ∷ p) name (is_urgent_named name p) (is_over s (Filter n name answer ∷ p) (moment p)) more (joined_if p name (lets_pass answer) is) refl refl refl then h
waits_filter s p n name answer false more is then h = waits_drop s (Filter n name answer ∷ p) answer more then (stays_if p name (lets_pass answer) is h)

-- no urgent event waits before an entry that hands no batch
calm_before : (s : Start) (p : List Entry) (e : Entry) → Waits s p (agenda s p) → is_hand e ≡ false → Admits s p (agenda s p) e → NoneUrgentWaits p
calm_before s p e w other d = calm s p (agenda s p) w (no_batch s p (agenda s p) e other d)

-- the same behind an event that is listed under the next name
calm_listed : (p : List Entry) (name : ℕ) (event : Event) (priority : Priority) → name ≡ event_count p → NamesItsOwn p → NoneUrgentWaits p → NoneUrgent (λ m. is_urgent_in (cond (name == m) (Some (event, priority)) (listed m p))) (window p)
calm_listed p name event priority new own h = calm-rise name (Some (event, priority)) p (window p) (subst (λ (n : ℕ). AllByRecursion (λ m. m < n) (window p)) (sym new) (window_below p own)) h

-- after an entry that may come
waits_follow : (s : Start) (e : Entry) (p : List Entry) → Due s p e → IsOrderly s p → Waits s p (agenda s p) → Waits s (e ∷ p) (follow s e p (rest e (agenda s p)))
waits_follow s (Sent name event priority) p d o h =
    let b = admitted s p (agenda s p) (Sent name event priority) (λ i. i) (λ i. i) d o.fit in
    waits_rest s p (Sent name event priority ∷ p) (agenda s p) (Sent name event priority) o.fit (calm_listed p name event priority b o.own (calm_before s p (Sent name event priority) h refl d))
waits_follow s (Turned t) p d o h = waits_turn s (Turned t ∷ p) t.kind t.at refl (calm_before s p (Turned t) h refl d)
waits_follow s (TurnFault code) p d o h = calm_before s p (TurnFault code) h refl d
waits_follow s (Offer name item result event priority) p d o h =
    let b = admitted s p (agenda s p) (Offer name item result event priority) (λ i. i) (λ i. i) d o.fit in
    waits_rest s p (Offer name item result event priority ∷ p) (agenda s p) (Offer name item result event priority) o.fit (calm_listed p name event priority b.0 o.own (calm_before s p (Offer name item result event priority) h refl d))
waits_follow s (Take name) p d o h = waits_take s p name (passes_unseen name p) (rest (Take name) (agenda s p)) refl (waits_rest s p (Take name ∷ p) (agenda s p) (Take name) o.fit) (calm_before s p (Take name) h refl d)
waits_follow s (Filter n name answer) p d o h = waits_filter s p n name answer (lets_pass answer) (rest (Filter n name answer) (agenda s p)) refl (waits_rest s p (Filter n name answer ∷ p) (agenda s p) (Filter n name answer) o.fit) (calm_before s p (Filter n name answer) h refl d)
waits_follow s (Show n error wish) p d o h = waits_show s (Show n error wish ∷ p) (ending error wish) (rest (Show n error wish) (agenda s p)) (waits_rest s p (Show n error wish ∷ p) (agenda s p) (Show n error wish) o.fit) (calm_before s p (Show n error wish) h refl d)
waits_follow s (Hand n names acts) p d o h =
    let none : window (Hand n names acts ∷ p) ≡ [] = window_handed n names acts p (hand_is s p n names acts o d).0 in
    waits_plans s (Hand n names acts ∷ p) (act_plan (λ id. lives id p) (revision s p) (with_quit_asks p acts)) Open tt (subst (NoneUrgent (urgent_in (Hand n names acts ∷ p))) (sym none) tt)
waits_follow s (Applied named) p d o h = waits_applied s (Applied named ∷ p) (is_to_make (settings s p) (source s p)) (rest (Applied named) (agenda s p)) (waits_rest s p (Applied named ∷ p) (agenda s p) (Applied named) o.fit) (calm_before s p (Applied named) h refl d)
waits_follow s (Make back watcher links answer) p d o h =
    waits_make s (Make back watcher links answer ∷ p) answer (rest (Make back watcher links answer) (agenda s p)) (waits_rest s p (Make back watcher links answer ∷ p) (agenda s p) (Make back watcher links answer) o.fit) (calm_before s p (Make back watcher links answer) h refl d)
waits_follow s (Brought item back answer) p d o h =
    waits_brought s (Brought item back answer ∷ p) (finds_full s p answer) item (rest (Brought item back answer) (agenda s p)) (waits_rest s p (Brought item back answer ∷ p) (agenda s p) (Brought item back answer) o.fit) (calm_before s p (Brought item back answer) h refl d)
waits_follow s (Heard item) p d o h =
    waits_heard s (Heard item ∷ p) (closed p) (applied s p).file_watcher (item_fault (item_named item (source s p).lane)) (rest (Heard item) (agenda s p)) (waits_rest s p (Heard item ∷ p) (agenda s p) (Heard item) o.fit) (calm_before s p (Heard item) h refl d)
waits_follow s (e) p d o h = waits_rest s p (e ∷ p) (agenda s p) e o.fit (calm_before s p e h refl d)

waits_more : (s : Start) (e : Entry) (p : List Entry) → Due s p e → IsOrderly s p → Waits s p (agenda s p) → Waits s (e ∷ p) (agenda s (e ∷ p))
waits_more s e p d o h = waits_settle s (e ∷ p) _ (waits_follow s e p d o h)

waits : (s : Start) (p : List Entry) → IsRun s p → Waits s p (agenda s p)
waits s [] r = tt
waits s (e ∷ p) r = waits_more s e p r.0 (orderly s p r.1) (waits s p r.1)

-- each batch of a run is one
pub run_has_batches : (s : Start) (p : List Entry) → IsRun s p → AreBatches s p
run_has_batches s [] r = tt
run_has_batches s (Hand n names acts ∷ p) r =
    let o = orderly s p r.1 in
    (subst (IsBatch s p) (sym (hand_is s p n names acts o r.0).0) (batch_at s p (agenda s p) n names acts r.0 o.fit (waits s p r.1)), run_has_batches s p r.1)
run_has_batches s (_ ∷ p) r = run_has_batches s p r.1

-- no event of a run that passes unseen was shown to a filter
pub run_shows : (s : Start) (p : List Entry) → IsRun s p → NoneUnseenIsShown p
run_shows s [] r = tt
run_shows s (Filter n name answer ∷ p) r = ((admitted s p (agenda s p) (Filter n name answer) (λ i. i) (λ i. i) r.0 (orderly s p r.1).fit).1, run_shows s p r.1)
run_shows s (_ ∷ p) r = run_shows s p r.1

-- nothing was shown once the queue was closed
pub run_shows_open : (s : Start) (p : List Entry) → IsRun s p → NoneIsShownClosed p
run_shows_open s [] r = tt
run_shows_open s (Filter n name answer ∷ p) r = ((admitted s p (agenda s p) (Filter n name answer) (λ i. i) (λ i. i) r.0 (orderly s p r.1).fit).2, run_shows_open s p r.1)
run_shows_open s (Show n error wish ∷ p) r = (admitted s p (agenda s p) (Show n error wish) (λ i. i) (λ i. i) r.0 (orderly s p r.1).fit, run_shows_open s p r.1)
run_shows_open s (_ ∷ p) r = run_shows_open s p r.1

-- each turn of a run came where nothing was owed
pub run_is_served : (s : Start) (p : List Entry) → IsRun s p → AreServed s p
run_is_served s [] r = tt
run_is_served s (Turned t ∷ p) r = (open_at_turn s p (agenda s p) (Turned t) tt r.0 (orderly s p r.1).fit, run_is_served s p r.1)
run_is_served s (TurnFault code ∷ p) r = (open_at_turn s p (agenda s p) (TurnFault code) tt r.0 (orderly s p r.1).fit, run_is_served s p r.1)
run_is_served s (_ ∷ p) r = run_is_served s p r.1

-- each entry of a run that tells a change names the next revision, and answers a change that waits
revises : (s : Start) (p : List Entry) (k : Agenda) (named : ℕ) → Admits s p k (Changed named) → IsFit s p k → Revises s p (Changed named) Done
revises s p Open named d f = absurd d
revises s p (Comes x more) named d f = absurd (brought s p x more (Changed named) d f)
revises s p (Steps untouched more) named d f = absurd (came s p untouched more (Changed named) d f)
revises s p (Plans k more) named d f = always_now (Revises s) p k (Changed named) d f.2
revises s p Ends named d f = absurd (of_end p (Changed named) d)
revises s p Breaks named d f = absurd d

counted : (s : Start) (p : List Entry) → IsRun s p → revision s p ≡ s.config.change_signal + change_count p
counted s [] r = omega arith
counted s (Changed named ∷ p) r =
    let h = revises s p (agenda s p) named r.0 (orderly s p r.1).fit in
    let before = counted s p r.1 in h.1 ∙ omega (arith, h.2, before)
counted s (_ ∷ p) r = counted s p r.1

pub run_is_revised : (s : Start) (p : List Entry) → IsRun s p → AreRevised s p
run_is_revised s [] r = tt
run_is_revised s (Changed named ∷ p) r =
    let h = revises s p (agenda s p) named r.0 (orderly s p r.1).fit in
    let all = counted s (Changed named ∷ p) r in (record { waits = h.0; stands = h.1; counted = sym h.1 ∙ all }, run_is_revised s p r.1)
run_is_revised s (_ ∷ p) r = run_is_revised s p r.1

-- no urgent event waits in a run that owes something else than a batch
pub none_waits : (s : Start) (p : List Entry) → IsRun s p → is_to_hand (agenda s p) ≡ false → NoneUrgentWaits p
none_waits s p r other = calm s p (agenda s p) (waits s p r) other

-- ---- entries that were due, one after the other

-- a run stays one
pub run_led : (s : Start) (p : List Entry) (world hooks : Option (List Entry)) (p' : List Entry) (world' hooks' : Option (List Entry)) → Follows s p world hooks p' world' hooks' → IsRun s p → IsRun s p'
run_led s p world hooks p' world' hooks' f r = leads (f p world hooks Here)
  where
    leads : Leads s p world hooks p' world' hooks' → IsRun s p'
    leads l = elim l as (λ p' world' hooks' _. IsRun s p') [
      | Here ↦ r
      | Then e q world₁ hooks₁ (l → g) d ↦ (d, g)
    ]
