-- Turns that are not about what is watched leave what is said of it.
use Rattle.std.proofs.Common.{◌≡◌, ℕ, ◌+◌, ◌≤◌, Bool, true, false, cond, List, [], ◌∷◌, Ok, arith, refl, ap, subst, ◌∙◌}
use Rattle.std.specs.Prelude.{T, Option, None, Some, Result, Ok, Err, ◌||◌, ◌==◌, length}
use Rattle.wx_events.specs.declared.event.Event.{Event}
use Rattle.wx_events.specs.declared.priority.Priority.{Priority}
use Rattle.wx_keys.specs.Keys.{hears_signal, key_events}
use Rattle.wx_config.specs.Changes.{last_revision}
use Rattle.wx_error.specs.declared.runtime.RuntimeError.{RuntimeError}
use Rattle.wx_error.specs.declared.runtime.RuntimeError.TheVariants.{Exit}
use Rattle.wx_error.specs.declared.error.CriticalError.{CriticalError}
use Rattle.wx_command.specs.declared.command.Command.{Command}
use Rattle.wx_control.specs.declared.id.Id.{Id}
use Rattle.wx_control.specs.Asks.{sends_of}
use Rattle.wx_journal.specs.declared.entry.Entry.{Entry}
use Rattle.wx_journal.specs.declared.entry.Entry.TheVariants.{Turn as Turned, TurnFault, Take, Filter, Show, Hand, Make, Applied, Heard, Brought}
use Rattle.wx_journal.specs.declared.entry.Turn.{Turn}
use Rattle.wx_journal.specs.declared.entry.TurnKind.{TurnKind}
use Rattle.wx_journal.specs.declared.entry.TurnKind.TheVariants.{Arrive, Signal, Keys, Work, Job, Ended, Ask, Change, Listen, File, Last}
use Rattle.wx_journal.specs.declared.entry.Word.{Word}
use Rattle.wx_journal.specs.declared.entry.Word.TheVariants.{Idle, Ignored, Quitting}
use Rattle.wx_journal.specs.Names.{moment}
use Rattle.wx_journal.specs.Told.{is_turn}
use Rattle.wx_machine.specs.History.{lives}
use Rattle.wx_machine.specs.Table.{Plan, Done, step_plan, ask_plan}
use Rattle.wx_machine.specs.Case.{next}
use Rattle.wx_machine.specs.Start.{Start}
use Rattle.wx_machine.specs.Settings.{settings, revision}
use Rattle.wx_machine.specs.Keyboard.{hears_keys}
use Rattle.wx_machine.specs.Quits.{graceful}
use Rattle.wx_machine.specs.Jobs.{living, parent, act_plan, with_quit_asks, change_plan}
use Rattle.wx_machine.specs.Journal.{passes_unseen, lets_pass, closed, ending, bag, is_over, is_urgent_named, turn_count}
use Rattle.wx_machine.specs.Files.{source, is_file_word, is_about_files, AddsNoFiles, is_file_turn}
use Rattle.wx_machine.specs.Due.{PointAnswer, brings, Filters, Hands, Takes, Agenda, Open, Comes, Steps, Plans, Ends, Breaks, IsTurn, Admits, sends, plans, says, rest, offers, keys_open, before, job_turn, ended_turn, work_going, turn_agenda, after_drop, after_show, follow, is_quitting, settle, agenda, Due, IsRun}
use Rattle.wx_machine.specs.Leads.{Leads, Here, Then, Follows}
use Rattle.wx_machine.specs.Turns.{StaysInTurn}
use Rattle.wx_machine.specs.Added.{Same, More}
use Rattle.wx_machine.specs.Answer.{Dying, Alive, Dies}
use Rattle.wx_machine.proofs.Owners.{either}
use Rattle.wx_machine.proofs.PlanLaws.{lawful_now, of_end, end_is_plan}
use Rattle.wx_machine.proofs.Orderly.{IsQuiet, IsFit, IsOrderly}
use Rattle.wx_machine.proofs.AllJobs.{same_turns}
use Rattle.wx_machine.proofs.RunLaws.{orderly, orderly_more}
use Rattle.wx_machine.proofs.LaneLaws.{source_over, planned_none}

-- what is owed brings no entry about what is watched
abbrev pub NoFiles : Start → Agenda → Type 0
NoFiles s (Comes x more) = ((p : List Entry) (a : PointAnswer s p x) → is_about_files (brings s p x a) ≡ false) × NoFiles s more
NoFiles s (Steps untouched more) = ⊥
NoFiles s (_) = Unit {0}

-- an entry that comes
entry_none : (s : Start) (p : List Entry) (k : Agenda) (e : Entry) → Admits s p k e → IsFit s p k → NoFiles s k → (IsTurn e → ⊥) → is_about_files e ≡ false
entry_none s p Open e d f n turn = absurd (turn d)
entry_none s p (Comes x more) e d f n turn = ap is_about_files d.1 ∙ n.0 p d.0
entry_none s p (Steps untouched more) e d f n turn = absurd n
entry_none s p (Plans k more) e d f n turn = planned_none e (lawful_now p k e d f.0).of_plan
entry_none s p Ends e d f n turn = planned_none e (end_is_plan e (of_end p e d))
entry_none s p Breaks e d f n turn = absurd d

-- ---- what stands behind it

none_quiet : (s : Start) (more : Agenda) → IsQuiet more → NoFiles s more
none_quiet s Open q = tt
none_quiet s Ends q = tt
none_quiet s (_) q = absurd q

pub none_plans : (s : Start) (k : Plan) (more : Agenda) → IsQuiet more → NoFiles s (plans k more)
none_plans s Done more q = none_quiet s more q
none_plans s (k) more q = tt

none_rest : (s : Start) (p : List Entry) (k : Agenda) (e : Entry) → IsFit s p k → NoFiles s k → NoFiles s (rest e k)
none_rest s p (Comes x more) e f n = n.1
none_rest s p (Steps untouched more) e f n = absurd n
none_rest s p (Plans k more) e f n = none_plans s (next k e) more f.1
none_rest s p (_) e f n = tt

none_pass : (s : Start) (due : Bool) (more : Agenda) → NoFiles s more → NoFiles s (cond due (Comes Hands more) more)
none_pass s true more n = (λ p a. refl, n)
none_pass s false more n = n

none_take : (s : Start) (name : ℕ) (unseen due : Bool) (more : Agenda) → NoFiles s more → NoFiles s (cond unseen (cond due (Comes Hands more) more) (Comes (Filters name) more))
none_take s name true due more n = none_pass s due more n
none_take s name false due more n = (λ p a. refl, n)

none_drop : (s : Start) (answer : Result Bool RuntimeError) (more : Agenda) → NoFiles s more → NoFiles s (after_drop answer more)
none_drop s (Ok passes) more n = n
none_drop s (Err Exit) more n = n
none_drop s (Err error) more n = (λ p a. refl, n)

none_filter : (s : Start) (answer : Result Bool RuntimeError) (passes due : Bool) (more : Agenda) → NoFiles s more → NoFiles s (cond passes (cond due (Comes Hands more) more) (after_drop answer more))
none_filter s answer true due more n = none_pass s due more n
none_filter s answer false due more n = none_drop s answer more n

none_show : (s : Start) (o : Option CriticalError) (more : Agenda) → NoFiles s more → NoFiles s (after_show o more)
none_show s None more n = n
none_show s (Some error) more n = tt

pub none_follow : (s : Start) (p : List Entry) (e : Entry) (more : Agenda) → (IsTurn e → ⊥) → is_about_files e ≡ false → NoFiles s more → NoFiles s (follow s e p more)
none_follow s p (Turned t) more turn other n = absurd (turn tt)
none_follow s p (TurnFault code) more turn other n = tt
none_follow s p (Take name) more turn other n = none_take s name (passes_unseen name p) (is_urgent_named name p || is_over s (Take name ∷ p) (moment p)) more n
none_follow s p (Filter m name answer) more turn other n = none_filter s answer (lets_pass answer) (is_urgent_named name p || is_over s (Filter m name answer ∷ p) (moment p)) more n
none_follow s p (Show m error wish) more turn other n = none_show s (ending error wish) more n
none_follow s p (Hand m names acts) more turn other n = none_plans s (act_plan (λ id. lives id p) (revision s p) (with_quit_asks p acts)) Open tt
none_follow s p (Make back watcher links answer) more turn other n = absurd cc
none_follow s p (Applied named) more turn other n = absurd cc
none_follow s p (Brought item back answer) more turn other n = absurd cc
none_follow s p (Heard item) more turn other n = absurd cc
none_follow s p (_) more turn other n = n

pub none_settle : (s : Start) (p : List Entry) (k : Agenda) → NoFiles s k → NoFiles s (settle p k)
none_settle s p Open n = either (NoFiles s) (is_quitting p) Ends Open tt tt
none_settle s p (k) n = n

-- ---- what turns of other kinds owe, and the beginning

none_says : (s : Start) (word : Word) → is_file_word word ≡ false → NoFiles s (says word)
none_says s word other = (λ p a. other, tt)

none_offers : (s : Start) (events : List Event) → NoFiles s (offers events)
none_offers s [] = tt
none_offers s (event ∷ events) = (λ p a. refl, none_offers s events)

none_keys : (s : Start) (events : List Event) → NoFiles s (keys_open events)
none_keys s [] = none_says s Idle refl
none_keys s (event ∷ events) = none_offers s (event ∷ events)

none_job : (s : Start) (id : Id) (command : Option Command) (p : List Entry) → NoFiles s (job_turn id command p)
none_job s id None p = none_says s Ignored refl
none_job s id (Some command) p = none_plans s (step_plan id command p) Open tt

none_ended : (s : Start) (id : Option Id) (p : List Entry) → NoFiles s (ended_turn id p)
none_ended s None p = none_says s Ignored refl
none_ended s (Some id) p = none_job s id (living id p) p

none_work : (s : Start) (shut over empty : Bool) → NoFiles s (cond shut Ends (cond over (Comes Hands Open) (cond empty (says Idle) (Comes Takes Open))))
none_work s true over empty = tt
none_work s false true empty = (λ p a. refl, tt)
none_work s false false true = none_says s Idle refl
none_work s false false false = (λ p a. refl, tt)

pub none_turn : (s : Start) (p : List Entry) (kind : TurnKind) (at : ℕ) → is_file_turn kind ≡ false → NoFiles s (turn_agenda s kind at p)
none_turn s p (Arrive event priority) at other = (λ p a. refl, tt)
none_turn s p (Signal signal) at other = either (NoFiles s) (hears_signal (settings s p).signal_job_control signal) _ (says Ignored) (λ p a. refl, tt) (none_says s Ignored refl)
none_turn s p (Keys bytes) at other = either (NoFiles s) (hears_keys s (before p)) (keys_open (key_events bytes)) (says Ignored) (none_keys s (key_events bytes)) (none_says s Ignored refl)
none_turn s p Work at other = either (NoFiles s) (graceful p) (says Quitting) (work_going s p at) (none_says s Quitting refl) (none_work s (closed p) (is_over s p at) (length (bag p) == 0))
none_turn s p (Job id) at other = none_job s id (living id p) p
none_turn s p (Ended c) at other = none_ended s (parent c p) p
none_turn s p (Ask id ask) at other = either (NoFiles s) (lives id p) (plans (ask_plan id (sends_of ask) Done) Open) (says Ignored) (none_plans s (ask_plan id (sends_of ask) Done) Open tt) (none_says s Ignored refl)
none_turn s p (Change change) at other = either (NoFiles s) (revision s p == last_revision) (says Ignored) (plans (change_plan (revision s p) Done) Open) (none_says s Ignored refl) (none_plans s (change_plan (revision s p) Done) Open tt)
none_turn s p Listen at other = absurd cc
none_turn s p File at other = absurd cc
none_turn s p Last at other = tt

none_sends : (s : Start) (events : List (Event × Priority)) → NoFiles s (sends events)
none_sends s [] = tt
none_sends s (x ∷ xs) = (λ p a. refl, none_sends s xs)

pub none_begin : (s : Start) → NoFiles s (agenda s [])
none_begin s = (λ p a. refl, none_sends s s.events)

-- ---- entries that were due, one after the other, and no turn among them

record IsLeft (s : Start) (p p' : List Entry) : Type 0 where
  orderly : IsOrderly s p'
  later : turn_count p ≤ turn_count p'
  same : turn_count p' ≡ turn_count p → NoFiles s (agenda s p') × AddsNoFiles p p'

no_fewer : (b : Bool) (m n : ℕ) → m ≤ n → m ≤ cond b (n + 1) n
no_fewer true m n h = omega (arith, h)
no_fewer false m n h = h

no_turn_more : (b : Bool) (m n : ℕ) → m ≤ n → cond b (n + 1) n ≡ m → (b ≡ false) × (n ≡ m)
no_turn_more true m n h e = absurd (omega (arith, h, e))
no_turn_more false m n h e = (refl, e)

left_more : (s : Start) (p q : List Entry) (e : Entry) → Due s q e → IsLeft s p q → IsLeft s p (e ∷ q)
left_more s p q e d h = record {
  orderly = orderly_more s e q d h.orderly;
  later = no_fewer (is_turn e) (turn_count p) (turn_count q) h.later;
  same = λ is.
      let a = no_turn_more (is_turn e) (turn_count p) (turn_count q) h.later is in
      let b = h.same a.1 in
      let turn : IsTurn e → ⊥ = λ i. subst T a.0 i in
      let o = h.orderly in
      let none : is_about_files e ≡ false = entry_none s q (agenda s q) e d o.fit b.0 turn in
      (none_settle s (e ∷ q) (follow s e q (rest e (agenda s q))) (none_follow s q e (rest e (agenda s q)) turn none (none_rest s q (agenda s q) e o.fit b.0)), More e q b.1 none);
}

left_led : (s : Start) (p : List Entry) (world hooks : Option (List Entry)) (p' : List Entry) (world' hooks' : Option (List Entry)) → Leads s p world hooks p' world' hooks' → IsOrderly s p → NoFiles s (agenda s p) → IsLeft s p p'
left_led s p world hooks p' world' hooks' l o n = elim l as (λ p' world' hooks' _. IsLeft s p p') [
  | Here ↦ record { orderly = o; later = omega arith; same = λ is. (n, Same) }
  | Then e q world₁ hooks₁ (l → g) d ↦ left_more s p q e d g
]

adds_none : (s : Start) (p p' : List Entry) (world hooks world' hooks' : Option (List Entry)) → Follows s p world hooks p' world' hooks' → StaysInTurn p p' → IsRun s p → NoFiles s (agenda s p) → AddsNoFiles p p'
adds_none s p p' world hooks world' hooks' f stays r n =
    let same = stays p (same_turns p) in
    ((left_led s p world hooks p' world' hooks' (f p world hooks Here) (orderly s p r) n).same same.count).1

-- ---- what others take from here

-- entries about nothing that is watched were added, and then more of them
pub adds_none_then : (p q r : List Entry) → AddsNoFiles p q → AddsNoFiles q r → AddsNoFiles p r
adds_none_then p q _ first Same = first
adds_none_then p q _ first (More e r a none) = More e r (adds_none_then p q r first a) none

-- what is said of what is watched stays over them
pub source_kept : (s : Start) (p p' : List Entry) → AddsNoFiles p p' → source s p' ≡ source s p
source_kept s p _ Same = refl
source_kept s p _ (More e q a none) = source_over s e q none ∙ source_kept s p q a

-- the beginning of a run adds such entries alone
pub begin_adds_none : (s : Start) (p' : List Entry) (world hooks world' hooks' : Option (List Entry)) → Follows s [] world hooks p' world' hooks' → StaysInTurn [] p' → AddsNoFiles [] p'
begin_adds_none s p' world hooks world' hooks' f stays = adds_none s [] p' world hooks world' hooks' f stays tt (none_begin s)

-- and so does a turn of any other kind, together with its own entry
pub turn_adds_none : (s : Start) (t : Turn) (p p' : List Entry) (world hooks world' hooks' : Option (List Entry)) → is_file_turn t.kind ≡ false → IsRun s p → agenda s p ≡ Open → Follows s (Turned t ∷ p) world hooks p' world' hooks' → StaysInTurn (Turned t ∷ p) p' → AddsNoFiles p p'
turn_adds_none s t p p' world hooks world' hooks' other r open_is f stays =
    let run : IsRun s (Turned t ∷ p) = (rw open_is tt, r) in
    let none = none_settle s (Turned t ∷ p) (turn_agenda s t.kind t.at (Turned t ∷ p)) (none_turn s (Turned t ∷ p) t.kind t.at other) in
    adds_none_then p (Turned t ∷ p) p' (More (Turned t) p Same refl) (adds_none s (Turned t ∷ p) p' world hooks world' hooks' f stays run none)

-- so what is said of what is watched stays over such a turn
pub turn_keeps_source : (s : Start) (t : Turn) (p p' : List Entry) (world hooks world' hooks' : Option (List Entry)) → is_file_turn t.kind ≡ false → IsRun s p → agenda s p ≡ Open → Follows s (Turned t ∷ p) world hooks p' world' hooks' → StaysInTurn (Turned t ∷ p) p' → source s p' ≡ source s p
turn_keeps_source s t p p' world hooks world' hooks' other r open_is f stays = source_kept s p p' (turn_adds_none s t p p' world hooks world' hooks' other r open_is f stays)

-- the end of all jobs adds such entries alone
pub dying_adds_none : (p p' : List Entry) → Dying p p' → AddsNoFiles p p'
dying_adds_none p _ Alive = Same
dying_adds_none p _ (Dies e q d a) = More e q (dying_adds_none p q d) (planned_none e (end_is_plan e (of_end q e a)))
